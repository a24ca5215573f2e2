-- What one digit is (IEEE 1364-2005, 4.1), and the operators on single digits.
use Rattle.std.specs.Prelude.{Bool, true, false}
use Rattle.vh_logic.specs.declared.digits.Digit.{Digit}
use Rattle.vh_logic.specs.declared.digits.Digit.TheVariants.{Zero, One, X, Z}

-- The digit is 0 or 1, so that it counts in a number (4.1)
abbrev pub is_known : Digit → Bool
is_known Zero = true
is_known One = true
is_known X = false
is_known Z = false

-- The digit is 1
abbrev pub is_one : Digit → Bool
is_one Zero = false
is_one One = true
is_one X = false
is_one Z = false

-- The digit is 0
abbrev pub is_zero : Digit → Bool
is_zero Zero = true
is_zero One = false
is_zero X = false
is_zero Z = false

-- The digit is z
abbrev pub is_z : Digit → Bool
is_z Zero = false
is_z One = false
is_z X = false
is_z Z = true

-- 1 for a test that holds, and 0 for one that does not (5.1.7)
abbrev pub test_digit : Bool → Digit
test_digit true = One
test_digit false = Zero

-- `~`: 0 and 1 change positions, all else is x (5.1.10)
abbrev pub digit_not : Digit → Digit
digit_not Zero = One
digit_not One = Zero
digit_not X = X
digit_not Z = X

-- `&`: 0 wins, two ones make 1, all else is x (5.1.10)
abbrev pub digit_and : Digit → Digit → Digit
digit_and Zero _ = Zero
digit_and _ Zero = Zero
digit_and One One = One
digit_and _ _ = X

-- `|`: 1 wins, two zeros make 0, all else is x (5.1.10)
abbrev pub digit_or : Digit → Digit → Digit
digit_or One _ = One
digit_or _ One = One
digit_or Zero Zero = Zero
digit_or _ _ = X

-- `^`: 1 where one of two known digits is 1, and x where a digit is x or z (5.1.10)
abbrev pub digit_xor : Digit → Digit → Digit
digit_xor Zero Zero = Zero
digit_xor Zero One = One
digit_xor One Zero = One
digit_xor One One = Zero
digit_xor _ _ = X

-- `^~`: `^` the other way round (5.1.10)
abbrev pub digit_xnor : Digit → Digit → Digit
digit_xnor d e = digit_not (digit_xor d e)

-- What two branches of `?:` under an unknown condition make of a position: 0 or 1 where both have it, else x (5.1.13)
abbrev pub digit_merge : Digit → Digit → Digit
digit_merge Zero Zero = Zero
digit_merge One One = One
digit_merge _ _ = X

-- The digits are the same, which is what `===` compares (5.1.8)
abbrev pub is_same : Digit → Digit → Bool
is_same Zero Zero = true
is_same One One = true
is_same X X = true
is_same Z Z = true
is_same _ _ = false

-- The digits are not 0 against 1 (5.1.8)
abbrev pub may_equal : Digit → Digit → Bool
may_equal Zero One = false
may_equal One Zero = false
may_equal _ _ = true

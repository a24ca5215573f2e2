-- The comparisons, each of which answers one digit.
use Rattle.std.specs.Prelude.{Bool, ◌&&◌, ◌||◌, not, if◌then◌else◌, ℤ, int_lt, Option, Some, None}
use Rattle.vh_logic.specs.declared.digits.Digit.{Digit}
use Rattle.vh_logic.specs.declared.digits.Digit.TheVariants.{Zero, One, X}
use Rattle.vh_logic.specs.Vector.{Vector, all_positions}
use Rattle.vh_logic.specs.Digit.{is_known, is_z, is_same, may_equal, test_digit}
use Rattle.vh_logic.specs.Number.{all_known, integer_of}

-- `a == b`: 0 where some position has 0 against 1, else x where a digit is x or z, else 1 (IEEE 1364-2005, 5.1.8)
abbrev pub equality : Vector → Vector → Digit
equality a b =
    if all_positions may_equal a.digits b.digits then (if all_known a.digits && all_known b.digits then One else X) else Zero

-- `a === b`: 1 where each position has the same digit, else 0 (5.1.8)
abbrev pub case_equality : Vector → Vector → Digit
case_equality a b = test_digit (all_positions is_same a.digits b.digits)

-- The digits are the same, or one of them is z (9.5.1)
abbrev pub is_same_or_z : Digit → Digit → Bool
is_same_or_z d e = is_z d || is_z e || is_same d e

-- The digits are the same, or one of them is x or z (9.5.1)
abbrev pub is_same_or_unknown : Digit → Digit → Bool
is_same_or_unknown d e = not (is_known d) || not (is_known e) || is_same d e

-- `casez`: 1 where each position has the same digit or a z (9.5.1)
abbrev pub casez_equality : Vector → Vector → Digit
casez_equality a b = test_digit (all_positions is_same_or_z a.digits b.digits)

-- `casex`: 1 where each position has the same digit, or an x or z (9.5.1)
abbrev pub casex_equality : Vector → Vector → Digit
casex_equality a b = test_digit (all_positions is_same_or_unknown a.digits b.digits)

-- The order of two integers, x where one is not known (5.1.7)
abbrev pub order_digit : Option ℤ → Option ℤ → Digit
order_digit None y = X
order_digit (Some x) None = X
order_digit (Some x) (Some y) = test_digit (int_lt x y)

-- `a < b` (5.1.7)
abbrev pub ordering : Vector → Vector → Digit
ordering a b = order_digit (integer_of a) (integer_of b)

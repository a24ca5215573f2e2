-- How two numbers hold the digits of a vector: one bit of each for each digit, the lowest digit in the lowest bit, by the
-- pairs of `s_vpi_vecval` (IEEE 1364-2005, 27.14): (a, b) is (0, 0) for 0, (1, 0) for 1, (0, 1) for z and (1, 1) for x.
use Rattle.std.specs.Prelude.{ℕ, ◌+◌, ◌*◌, ◌/◌, ◌%◌, List, [], ◌∷◌}
use Rattle.std.proofs.Common.{zero, suc}
use Rattle.vh_logic.specs.declared.digits.Digit.{Digit}
use Rattle.vh_logic.specs.declared.digits.Digit.TheVariants.{Zero, One, X, Z}

-- The digit of a pair of bits
abbrev pub digit_of : ℕ → ℕ → Digit
digit_of zero zero = Zero
digit_of (suc a) zero = One
digit_of zero (suc b) = Z
digit_of (suc a) (suc b) = X

-- The lowest `w` digits of two numbers, lowest first
unfoldable pub digits_of : ℕ → ℕ → ℕ → List Digit
digits_of zero a b = []
digits_of (suc w) a b = digit_of (a % 2) (b % 2) ∷ digits_of w (a / 2) (b / 2)

-- The two bits of a digit
abbrev pub aval_bit : Digit → ℕ
aval_bit Zero = 0
aval_bit One = 1
aval_bit X = 1
aval_bit Z = 0

abbrev pub bval_bit : Digit → ℕ
bval_bit Zero = 0
bval_bit One = 0
bval_bit X = 1
bval_bit Z = 1

-- The number whose bits are those of the digits
unfoldable pub plane_of : (Digit → ℕ) → List Digit → ℕ
plane_of bit [] = 0
plane_of bit (d ∷ ds) = bit d + 2 * plane_of bit ds

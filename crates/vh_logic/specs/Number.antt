-- The number that the digits of a vector stand for, and the digits of a number.
use Rattle.std.specs.Prelude.{ℕ, ◌+◌, ◌-◌, ◌*◌, ◌/◌, ◌%◌, ◌^◌, nat_le, ◌==◌, Bool, if◌then◌else◌, List, [], ◌∷◌, ℤ, pos, neg_ℤ, Option, Some, None, unsigned_abs, replicate}
use Rattle.std.specs.Int.{int_rem_euclid}
use Rattle.std.specs.List.{list_all}
use Rattle.std.proofs.Common.{zero, suc}
use Rattle.vh_logic.specs.declared.digits.Digit.{Digit}
use Rattle.vh_logic.specs.declared.digits.Digit.TheVariants.{Zero, One, X, Z}
use Rattle.vh_logic.specs.Digit.{is_known}
use Rattle.vh_logic.specs.Vector.{Vector, width_of}

-- What a known digit counts at the lowest position (IEEE 1364-2005, 4.3)
abbrev pub digit_value : Digit → ℕ
digit_value Zero = 0
digit_value One = 1
digit_value X = 0
digit_value Z = 0

-- The number that known digits stand for, without a sign (4.3)
unfoldable pub number_of : List Digit → ℕ
number_of [] = 0
number_of (d ∷ ds) = digit_value d + 2 * number_of ds

-- No digit is x or z (5.1.5)
abbrev pub all_known : List Digit → Bool
all_known ds = list_all is_known ds

-- The number of a vector read without a sign, where no digit is x or z (4.3)
abbrev pub known_number : List Digit → Option ℕ
known_number ds = if all_known ds then Some (number_of ds) else None

-- A number below 2 ^ w read in two's complement (4.8)
abbrev pub twos_complement : ℕ → ℕ → ℤ
twos_complement w n = if nat_le (2 ^ w) (2 * n) then neg_ℤ (pos (2 ^ w - n)) else pos n

-- The integer that a number of `w` digits stands for: in two's complement where it is signed (4.8)
abbrev pub integer_at : ℕ → Bool → ℕ → ℤ
integer_at w s n = if s then twos_complement w n else pos n

-- The integer of a vector, where no digit is x or z (5.1.5)
abbrev pub integer_of : Vector → Option ℤ
integer_of v = if all_known v.digits then Some (integer_at (width_of v) v.signed (number_of v.digits)) else None

-- The integer of a sign and a size (own)
abbrev pub signed_integer : Bool → ℕ → ℤ
signed_integer negative size = if negative then neg_ℤ (pos size) else pos size

-- The lowest `w` binary digits of a number (4.3)
unfoldable pub binary : ℕ → ℕ → List Digit
binary zero n = []
binary (suc w) n = (if n % 2 == 0 then Zero else One) ∷ binary w (n / 2)

-- An integer modulo 2 ^ w, as a natural number (5.1.5: results wrap)
abbrev pub wrapped : ℕ → ℤ → ℕ
wrapped w z = unsigned_abs (int_rem_euclid z (pos (2 ^ w)))

-- The `w` digits of a result: an integer, wrapped to the width, or all x where there is none (5.1.5)
abbrev pub result_digits : ℕ → Option ℤ → List Digit
result_digits w None = replicate w X
result_digits w (Some z) = binary w (wrapped w z)

-- A result of `w` digits and a sign mark (5.1.5)
abbrev pub vector_of : ℕ → Bool → Option ℤ → Vector
vector_of w s z = record { digits = result_digits w z; signed = s }

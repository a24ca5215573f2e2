-- The text of a value (IEEE 1364-2005, 17.1.1).
use Rattle.std.specs.Prelude.{ℕ, zero, suc, ◌+◌, ◌-◌, ◌/◌, false, if◌then◌else◌, List, [], ◌∷◌, ◌++◌, take, drop, length, Option, Some, None}
use Rattle.std.specs.Char.{digit_char}
use Rattle.std.specs.Fmt.{digits, signed_decimal}
use Rattle.std.specs.List.{list_all, list_any}
use Rattle.vh_logic.specs.declared.digits.Digit.{Digit}
use Rattle.vh_logic.specs.declared.digits.Digit.TheVariants.{X, Z}
use Rattle.vh_logic.specs.Digit.{is_same}
use Rattle.vh_logic.specs.Vector.{Vector}
use Rattle.vh_logic.specs.Number.{known_number, integer_of}
use Rattle.vh_logic.specs.Planes.{plane_of, aval_bit, bval_bit}
use Rattle.vh_text.specs.declared.radix.Radix.{Radix}
use Rattle.vh_text.specs.declared.radix.Radix.TheVariants.{Binary, Octal, Hex, Decimal}
use Rattle.vh_text.specs.Symbols.{lower_x, lower_z, upper_x, upper_z, colon}

-- The letter of a group that has no number: `x` or `z` where all its digits are, else `X` where it has an x, else `Z` (17.1.1.4)
abbrev pub unknown_letter : List Digit → ℕ
unknown_letter ds =
    if list_all (is_same X) ds then lower_x else
    (if list_all (is_same Z) ds then lower_z else
    (if list_any (is_same X) ds then upper_x else upper_z))

-- The text of a group of digits: that of its number, or its letter where it has none (17.1.1.4)
abbrev pub group_text : {N : Type 0} → (N → List ℕ) → Option N → List Digit → List ℕ
group_text show None ds = unknown_letter ds ∷ []
group_text show (Some n) ds = show n

-- The text of a group that is written with one character (17.1.1.3)
abbrev pub character_text : List Digit → List ℕ
character_text ds = group_text (λ n. digit_char n ∷ []) (known_number ds) ds

-- The text of `n` groups of `k` digits, the highest first; the highest group has only the digits that it has (17.1.1.3)
unfoldable pub groups_text : ℕ → ℕ → List Digit → List ℕ
groups_text zero k ds = []
groups_text (suc n) k ds = groups_text n k (drop k ds) ++ character_text (take k ds)

-- How many groups of `k` digits hold `w` digits (17.1.1.3)
abbrev pub group_count : ℕ → ℕ → ℕ
group_count k w = (w + (k - 1)) / k

-- All digits in groups of `k` (17.1.1.3)
abbrev pub digits_text : ℕ → Vector → List ℕ
digits_text k v = groups_text (group_count k (length v.digits)) k v.digits

-- The text of a value in a base: as `%b`, `%o`, `%h`, and `%0d` show it, the last as one group of all digits (17.1.1.1)
abbrev pub text : Radix → Vector → List ℕ
text Binary v = digits_text 1 v
text Octal v = digits_text 3 v
text Hex v = digits_text 4 v
text Decimal v = group_text signed_decimal (integer_of v) v.digits

-- The two planes of a value in hexadecimal, without leading zeros (own, over the pairs of 27.14)
abbrev pub vector_text : Vector → List ℕ
vector_text v =
    digits 16 false (plane_of aval_bit v.digits) ++ colon ∷ digits 16 false (plane_of bval_bit v.digits)

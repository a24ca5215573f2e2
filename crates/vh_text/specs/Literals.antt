-- The value of a number as a source writes it (IEEE 1364-2005, 3.5.1).
use Rattle.std.specs.Prelude.{ℕ, ◌-◌, ◌^◌, ◌==◌, nat_le, nat_lt, Bool, true, false, if◌then◌else◌, List, [], ◌∷◌, drop, Option, Some, None, Result, Ok, Err}
use Rattle.std.specs.List.{find, prefix_len, take_while}
use Rattle.std.specs.Option.{option_and_then}
use Rattle.vh_logic.specs.declared.digits.Digit.{Digit}
use Rattle.vh_logic.specs.declared.digits.Digit.TheVariants.{X, Z}
use Rattle.vh_logic.specs.Vector.{Vector}
use Rattle.vh_logic.specs.Number.{binary}
use Rattle.vh_logic.specs.declared.vector.TheConstants.{MAX_WIDTH, NATURAL_WIDTHS}
use Rattle.vh_text.specs.declared.number.TheConstants.{INTEGER_WIDTH}
use Rattle.vh_text.specs.declared.radix.Radix.{Radix}
use Rattle.vh_text.specs.declared.radix.Radix.TheVariants.{Binary, Octal, Hex, Decimal}
use Rattle.vh_text.specs.declared.literal.LiteralFault.{LiteralFault}
use Rattle.vh_text.specs.declared.literal.LiteralFault.TheVariants.{Malformed, TooWide}
use Rattle.vh_text.specs.declared.literal.Size.{Size}
use Rattle.vh_text.specs.declared.literal.Size.TheVariants.{Absent, Given, Beyond}
use Rattle.vh_base.specs.Classes.{is_space}
use Rattle.vh_text.specs.Symbols.{apostrophe, is_x_letter, is_z_letter, is_sign_byte, is_number_byte, base_of}
use Rattle.vh_text.specs.Digits.{spelled_digits, decimal_number, spelled_characters, sized_digits, is_held}

-- A literal's value
abbrev pub Reading : Type 0
Reading = Result Vector LiteralFault

-- The number of a text of decimal digits and underscores that begins with a digit (3.5.1)
abbrev pub unsigned_number : List ℕ → Option ℕ
unsigned_number bs = option_and_then decimal_number (spelled_characters bs)

-- The size that a number gives: from 1 to the greatest width (own; 3.5.1 names no greatest one)
abbrev pub size_of_number : Option ℕ → Result Size LiteralFault
size_of_number None = Err Malformed
size_of_number (Some n) =
    if n == 0 then Err Malformed else (if nat_le n MAX_WIDTH then Ok (Given n) else Ok Beyond)

-- The width of a value without a size: the first natural one that holds it (own; 3.5.1 asks for 32 at least)
abbrev pub natural_width : (ℕ → Bool) → Option ℕ
natural_width holds = find holds NATURAL_WIDTHS

-- How many digits of a width a plain number may take: an integer is signed (3.5.1; the wider ones own)
abbrev pub plain_digits : ℕ → ℕ
plain_digits w = if w == INTEGER_WIDTH then w - 1 else w

-- The width of a literal: its size, or the natural width where it has none (3.5.1)
abbrev pub width_by : Size → Option ℕ → Option ℕ
width_by Absent natural = natural
width_by (Given n) natural = Some n
width_by Beyond natural = None

-- A vector at the literal's width
abbrev pub at_width : (ℕ → Vector) → Option ℕ → Reading
at_width make None = Err TooWide
at_width make (Some w) = Ok (make w)

-- The value of a number: its lowest digits (3.5.1)
abbrev pub of_number : Bool → ℕ → ℕ → Vector
of_number s n w = record { digits = binary w n; signed = s }

-- The value of digits, cut or filled (3.5.1)
abbrev pub of_digits : Bool → List Digit → ℕ → Vector
of_digits s ds w = record { digits = sized_digits w ds; signed = s }

-- A number without base, which is signed (3.5.1)
abbrev pub plain_value : Option ℕ → Reading
plain_value None = Err Malformed
plain_value (Some n) = at_width (of_number true n) (natural_width (λ w. nat_lt n (2 ^ plain_digits w)))

-- A decimal number behind a base (3.5.1)
abbrev pub number_value : Size → Bool → Option ℕ → Reading
number_value size s None = Err Malformed
number_value size s (Some n) =
    at_width (of_number s n) (width_by size (natural_width (λ w. nat_lt n (2 ^ w))))

-- Digits behind a base (3.5.1)
abbrev pub pattern_value : Size → Bool → Option (List Digit) → Reading
pattern_value size s None = Err Malformed
pattern_value size s (Some ds) =
    at_width (of_digits s ds) (width_by size (natural_width (λ w. is_held w ds)))

-- The one x or z that base d may have for all digits (3.5.1)
abbrev pub lone_letter : List ℕ → Option Digit
lone_letter [] = None
lone_letter (c ∷ []) = if is_x_letter c then Some X else (if is_z_letter c then Some Z else None)
lone_letter (c ∷ d ∷ cs) = None

-- The characters of base d: one letter, or else a number (3.5.1)
abbrev pub decimal_part : Size → Bool → List ℕ → Option Digit → Reading
decimal_part size s cs (Some d) = pattern_value size s (Some (d ∷ []))
decimal_part size s cs None = number_value size s (decimal_number cs)

-- The characters behind a base letter: 1, 3 or 4 binary digits each in bases b, o and h (3.5.1)
abbrev pub digits_part : Size → Bool → Option Radix → Option (List ℕ) → Reading
digits_part size s None cs = Err Malformed
digits_part size s (Some base) None = Err Malformed
digits_part size s (Some Binary) (Some cs) = pattern_value size s (spelled_digits 1 cs)
digits_part size s (Some Octal) (Some cs) = pattern_value size s (spelled_digits 3 cs)
digits_part size s (Some Hex) (Some cs) = pattern_value size s (spelled_digits 4 cs)
digits_part size s (Some Decimal) (Some cs) = decimal_part size s cs (lone_letter cs)

-- A text without the white space that it begins with (3.2)
abbrev pub after_white : List ℕ → List ℕ
after_white bs = drop (prefix_len is_space bs) bs

-- A base letter, white space, digits (3.5.1)
abbrev pub base_part : Size → Bool → List ℕ → Reading
base_part size s [] = Err Malformed
base_part size s (b ∷ bs) = digits_part size s (base_of b) (spelled_characters (after_white bs))

-- The symbol of a signed number, if any, and what stands behind it (3.5.1)
abbrev pub signed_part : Size → List ℕ → Reading
signed_part size [] = Err Malformed
signed_part size (b ∷ bs) = if is_sign_byte b then base_part size true bs else base_part size false (b ∷ bs)

-- The apostrophe, and what stands behind it (3.5.1)
abbrev pub based_value : List ℕ → Size → Reading
based_value [] size = Err Malformed
based_value (b ∷ bs) size = if b == apostrophe then signed_part size bs else Err Malformed

-- What stands behind a size that is one
abbrev pub behind_size : List ℕ → Result Size LiteralFault → Reading
behind_size bs (Err fault) = Err fault
behind_size bs (Ok size) = based_value bs size

-- A literal by its leading digits and what stands behind them: a plain number, or a size, white space and the rest (3.5.1)
abbrev pub by_front : List ℕ → List ℕ → Reading
by_front [] bs = based_value bs Absent
by_front (c ∷ cs) [] = plain_value (unsigned_number (c ∷ cs))
by_front (c ∷ cs) (b ∷ bs) = behind_size (after_white (b ∷ bs)) (size_of_number (unsigned_number (c ∷ cs)))

-- The value of a literal, or its fault (3.5.1)
abbrev pub literal : List ℕ → Reading
literal bs = by_front (take_while is_number_byte bs) (drop (prefix_len is_number_byte bs) bs)

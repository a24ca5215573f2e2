-- The value that an application's text gives an object, by its format (IEEE 1364-2005, 27.14 and 27.32).
use Rattle.std.specs.Prelude.{ℕ, ◌+◌, ◌-◌, ◌^◌, ◌==◌, nat_le, nat_lt, Bool, true, false, not, ◌&&◌, ◌||◌, if◌then◌else◌, List, [], ◌∷◌, ◌++◌, take, drop, length, replicate, slice_index, Option, Some, None}
use Rattle.std.specs.Char.{is_ascii_digit}
use Rattle.std.specs.Int.{is_in_range}
use Rattle.std.specs.List.{list_all, position}
use Rattle.std.specs.Option.{option_map}
use Rattle.std.specs.Str.Parse.{digits_value}
use Rattle.vh_base.specs.declared.format.Format.{Format}
use Rattle.vh_base.specs.declared.format.Format.TheVariants.{VpiBinStrVal, VpiOctStrVal, VpiHexStrVal, VpiDecStrVal, VpiIntVal, VpiScalarVal, VpiVectorVal}
use Rattle.vh_logic.specs.declared.digits.Digit.{Digit}
use Rattle.vh_logic.specs.declared.digits.Digit.TheVariants.{Zero, One, X, Z}
use Rattle.vh_logic.specs.Vector.{Vector, filled}
use Rattle.vh_logic.specs.Number.{signed_integer, vector_of}
use Rattle.vh_logic.specs.Planes.{digits_of}
use Rattle.vh_logic.specs.declared.vector.TheConstants.{MAX_WIDTH}
use Rattle.vh_text.specs.declared.number.TheConstants.{INTEGER_WIDTH}
use Rattle.vh_text.specs.Symbols.{minus, colon, lower_x, lower_z}
use Rattle.vh_text.specs.Texts.{group_count}
use Rattle.vh_text.specs.Digits.{spelled_digits, decimal_number}

-- Digits cut at the left, or filled with 0, to the object's width (own)
abbrev pub cut_or_padded : ℕ → List Digit → Vector
cut_or_padded w ds = record { digits = take w (ds ++ replicate w Zero); signed = false }

-- A text has a character, and no more than a vector of the greatest width takes of `k` digits each (own)
abbrev pub is_length : ℕ → List ℕ → Bool
is_length k bs = nat_lt 0 (length bs) && nat_le (length bs) (group_count k MAX_WIDTH)

-- A text of characters of `k` binary digits each (27.14; the greatest length own)
abbrev pub string_value : ℕ → ℕ → List ℕ → Option Vector
string_value k w bs =
    if is_length k bs then option_map (cut_or_padded w) (spelled_digits k bs) else None

-- One decimal digit or more, and the number that they write (27.14)
abbrev pub numeral : List ℕ → Option ℕ
numeral [] = None
numeral (c ∷ cs) = decimal_number (c ∷ cs)

-- The integer of a sign and a number up to a greatest one, in two's complement (27.14)
abbrev pub integer_value : ℕ → Bool → ℕ → Option ℕ → Option Vector
integer_value w negative most None = None
integer_value w negative most (Some n) =
    if nat_le n most then Some (vector_of w false (Some (signed_integer negative n))) else None

-- A decimal integer, with a minus if it is negative, up to the greatest size of its sign (27.14)
abbrev pub signed_value : ℕ → ℕ → ℕ → List ℕ → Option Vector
signed_value most_negative most w [] = None
signed_value most_negative most w (c ∷ cs) =
    if c == minus
    then integer_value w true most_negative (numeral cs)
    else integer_value w false most (numeral (c ∷ cs))

-- The digit of a scalar's character (27.14)
abbrev pub scalar_digit : ℕ → Option Digit
scalar_digit c =
    if c == 48 then Some Zero else
    (if c == 49 then Some One else
    (if c == lower_x then Some X else
    (if c == lower_z then Some Z else None)))

-- The digit of a text of one character (27.14)
abbrev pub scalar : List ℕ → Option Digit
scalar [] = None
scalar (c ∷ []) = scalar_digit c
scalar (c ∷ d ∷ cs) = None

-- A scalar's text is one character (27.14)
abbrev pub scalar_value : ℕ → List ℕ → Option Vector
scalar_value w bs = option_map (λ d. filled w d false) (scalar bs)

-- An integer whose size the greatest width holds (27.14; the limit own)
abbrev pub wide_value : ℕ → List ℕ → Option Vector
wide_value w bs = signed_value (2 ^ MAX_WIDTH - 1) (2 ^ MAX_WIDTH - 1) w bs

-- A decimal text, by the digit that it is if it has one character: x or z for all digits, or an integer (27.14)
abbrev pub decimal_by : ℕ → List ℕ → Option Digit → Option Vector
decimal_by w bs (Some X) = Some (filled w X false)
decimal_by w bs (Some Z) = Some (filled w Z false)
decimal_by w bs (Some Zero) = wide_value w bs
decimal_by w bs (Some One) = wide_value w bs
decimal_by w bs None = wide_value w bs

-- A decimal text (27.14)
abbrev pub decimal_value : ℕ → List ℕ → Option Vector
decimal_value w bs = decimal_by w bs (scalar bs)

-- A hexadecimal digit in lower case (own)
abbrev pub is_lower_hex : ℕ → Bool
is_lower_hex c = is_ascii_digit c || is_in_range 97 102 c

-- The number of a text of hexadecimal digits in lower case (own)
abbrev pub hex_number : List ℕ → Option ℕ
hex_number cs = if list_all is_lower_hex cs then Some (digits_value 16 cs) else None

-- A text as long as one of a plane may be, without a leading zero but for `0` itself (own)
abbrev pub has_plane_form : List ℕ → Bool
has_plane_form cs = is_length 4 cs && (not (slice_index cs 0 == 48) || length cs == 1)

-- The plane that a text writes (own)
abbrev pub plane_value : List ℕ → Option ℕ
plane_value cs = if has_plane_form cs then hex_number cs else None

-- The value of two planes, whose bits above the width do not count (27.14)
abbrev pub planes_value : ℕ → Option ℕ → Option ℕ → Option Vector
planes_value w None b = None
planes_value w (Some a) None = None
planes_value w (Some a) (Some b) = Some (record { digits = digits_of w a b; signed = false })

-- Two planes, parted by the first colon, if there is one (own)
abbrev pub parted_value : ℕ → List ℕ → Option ℕ → Option Vector
parted_value w bs None = None
parted_value w bs (Some i) = planes_value w (plane_value (take i bs)) (plane_value (drop (i + 1) bs))

-- The value that a text gives an object of a width, unsigned (27.14, 27.32)
abbrev pub value_of_text : Format → ℕ → List ℕ → Option Vector
value_of_text VpiBinStrVal w bs = string_value 1 w bs
value_of_text VpiOctStrVal w bs = string_value 3 w bs
value_of_text VpiHexStrVal w bs = string_value 4 w bs
value_of_text VpiDecStrVal w bs = decimal_value w bs
value_of_text VpiIntVal w bs =
    signed_value (2 ^ (INTEGER_WIDTH - 1)) (2 ^ (INTEGER_WIDTH - 1) - 1) w bs
value_of_text VpiScalarVal w bs = scalar_value w bs
value_of_text VpiVectorVal w bs = parted_value w bs (position (λ b. b == colon) bs)

-- The greatest width of an object that a format is for (27.14): that of an integer, of a scalar, or of any vector
abbrev pub most_width : Format → ℕ
most_width VpiBinStrVal = MAX_WIDTH
most_width VpiOctStrVal = MAX_WIDTH
most_width VpiHexStrVal = MAX_WIDTH
most_width VpiDecStrVal = MAX_WIDTH
most_width VpiIntVal = INTEGER_WIDTH
most_width VpiScalarVal = 1
most_width VpiVectorVal = MAX_WIDTH

-- What each conversion of a format shows of a value. (IEEE 1364-2005, 17.1.1)
use Rattle.std.specs.Prelude.{ℕ, ◌+◌, ◌-◌, ◌*◌, ◌%◌, ◌^◌, ◌++◌, List, [], ◌∷◌, ◌==◌, Bool, true, false, length, drop, min, replicate, if◌then◌else◌, ℤ, pos, int_lt, unsigned_abs, Option, Some, None}
use Rattle.std.specs.Fmt.{decimal, sign_text}
use Rattle.std.specs.Int.{to_be_bytes, w64}
use Rattle.std.specs.List.{prefix_len}
use Rattle.vh_logic.specs.Vector.{Vector, width_of}
use Rattle.vh_logic.specs.Number.{integer_of, number_of}
use Rattle.vh_text.specs.declared.radix.Radix.TheVariants as radix
use Rattle.vh_text.specs.Texts.{text, group_text}
use Rattle.vh_display.specs.declared.conversion.Form.{Form}
use Rattle.vh_display.specs.declared.conversion.Form.TheVariants as form
use Rattle.vh_display.specs.declared.texts.TheConstants.{TIME_PLACES}

-- A text at the right of so many columns, with spaces before it; a longer one as it is. (17.1.1.2)
abbrev pub at_right : ℕ → List ℕ → List ℕ
at_right columns t = replicate (columns - length t) 32 ++ t

-- Without leading zeros, of which one stays. (17.1.1.2)
abbrev pub trimmed : List ℕ → List ℕ
trimmed t = drop (min (prefix_len (λ b. b == 48) t) (length t - 1)) t

-- The columns of `%d`: those of the greatest number of the width, and one more for a sign. (17.1.1.2; own for the sign)
abbrev pub decimal_columns : Vector → ℕ
decimal_columns v = length (decimal (2 ^ width_of v - 1)) + (if v.signed then 1 else 0)

-- An integer so many times. (own)
abbrev pub scaled : ℕ → ℤ → List ℕ
scaled ratio z = sign_text (int_lt z (pos 0)) ++ decimal (unsigned_abs z * ratio)

-- A time in units of a module, in units of the precision. (17.1.1.5)
abbrev pub time_text : ℕ → Vector → List ℕ
time_text ratio v = group_text (scaled ratio) (integer_of v) v.digits

-- The bytes of a value from the first that isn't 0; x and z count as 0. (17.1.1.7)
abbrev pub string_text : Vector → List ℕ
string_text v = let bytes = to_be_bytes w64 (number_of v.digits) in drop (prefix_len (λ b. b == 0) bytes) bytes

-- What a conversion shows of a value, a row for each; a module's unit is so many times the precision.
-- (17.1.1.1 to 17.1.1.7)
abbrev pub plain_text : ℕ → Form → Vector → List ℕ
plain_text ratio (form.Number r) v = text r v
plain_text ratio form.Time v = time_text ratio v
plain_text ratio form.Text v = string_text v
plain_text ratio form.Character v = number_of v.digits % 256 ∷ []

-- In how many columns at least, where the conversion has no digits. (17.1.1.2)
abbrev pub own_columns : Form → Vector → ℕ
own_columns (form.Number radix.Binary) v = 0
own_columns (form.Number radix.Octal) v = 0
own_columns (form.Number radix.Hex) v = 0
own_columns (form.Number radix.Decimal) v = decimal_columns v
own_columns form.Time v = TIME_PLACES
own_columns form.Text v = 0
own_columns form.Character v = 0

-- Has the shortest form no leading zeros? (17.1.1.2)
abbrev pub is_trimmed : Form → Bool
is_trimmed (form.Number radix.Binary) = true
is_trimmed (form.Number radix.Octal) = true
is_trimmed (form.Number radix.Hex) = true
is_trimmed (form.Number radix.Decimal) = false
is_trimmed form.Time = false
is_trimmed form.Text = false
is_trimmed form.Character = false

-- A value without digits, or in its shortest form in at least so many columns. (17.1.1.2; own for digits but 0)
abbrev pub value_text : ℕ → Form → Option ℕ → Vector → List ℕ
value_text ratio f None v = at_right (own_columns f v) (plain_text ratio f v)
value_text ratio f (Some columns) v =
    at_right columns (if is_trimmed f then trimmed (plain_text ratio f v) else plain_text ratio f v)

-- The bytes that numbers and value texts are written with, by their codes (IEEE 1364-2005, 3.5.1).
use Rattle.std.specs.Prelude.{ℕ, ◌==◌, Bool, ◌||◌, if◌then◌else◌, Option, Some, None}
use Rattle.std.specs.Char.{is_ascii_digit}
use Rattle.vh_text.specs.declared.radix.Radix.{Radix}
use Rattle.vh_text.specs.declared.radix.Radix.TheVariants.{Binary, Octal, Hex, Decimal}

-- `'`
abbrev pub apostrophe : ℕ
apostrophe = 39

-- `-`
abbrev pub minus : ℕ
minus = 45

-- `:`
abbrev pub colon : ℕ
colon = 58

-- `?`, which is written for z (3.5.1)
abbrev pub question : ℕ
question = 63

-- `_`, which may stand behind a digit and says nothing (3.5.1)
abbrev pub underscore : ℕ
underscore = 95

-- `x` and `z`, and `X` and `Z`
abbrev pub lower_x : ℕ
lower_x = 120

abbrev pub lower_z : ℕ
lower_z = 122

abbrev pub upper_x : ℕ
upper_x = 88

abbrev pub upper_z : ℕ
upper_z = 90

-- An x in either case (3.5.1)
abbrev pub is_x_letter : ℕ → Bool
is_x_letter c = c == lower_x || c == upper_x

-- A z in either case (3.5.1)
abbrev pub is_z_letter : ℕ → Bool
is_z_letter c = c == lower_z || c == upper_z

-- The symbol of a signed number, in either case (3.5.1)
abbrev pub is_sign_byte : ℕ → Bool
is_sign_byte c = c == 115 || c == 83

-- A byte of an unsigned number (3.5.1)
abbrev pub is_number_byte : ℕ → Bool
is_number_byte c = is_ascii_digit c || c == underscore

-- The base that a letter names, in either case (3.5.1)
abbrev pub base_of : ℕ → Option Radix
base_of c =
    if c == 98 || c == 66 then Some Binary else
    (if c == 111 || c == 79 then Some Octal else
    (if c == 100 || c == 68 then Some Decimal else
    (if c == 104 || c == 72 then Some Hex else None)))

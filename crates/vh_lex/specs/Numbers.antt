-- The number with which bytes begin: how many bytes it has, and its value (IEEE 1364-2005, 3.5).
use Rattle.std.specs.Prelude.{ℕ, ◌+◌, ◌-◌, Bool, true, false, ◌&&◌, ◌||◌, List, Result, Ok, Err, if◌then◌else◌, take, drop, nat_lt, ◌==◌}
use Rattle.std.specs.List.{prefix_len}
use Rattle.vh_base.specs.declared.faults.DesignFault.TheVariants.{L1, L4}
use Rattle.vh_logic.specs.Vector.{Vector}
use Rattle.vh_text.specs.declared.literal.LiteralFault.{LiteralFault}
use Rattle.vh_text.specs.Literals.{literal}
use Rattle.vh_lex.specs.declared.token.Kind.TheVariants.{Number}
use Rattle.vh_lex.specs.declared.piece.Part.TheVariants.{Token}
use Rattle.vh_lex.specs.declared.piece.Piece.{Piece}
use Rattle.vh_lex.specs.declared.piece.Piece.TheVariants.{Kept, Fault}
use Rattle.vh_lex.specs.Bytes.{begins, is_decimal, is_based_letter, is_question, is_based, is_base_ten, is_base, is_sign_byte, is_exponent, is_plus_or_minus}
use Rattle.vh_base.specs.Classes.{is_space, is_digit}

-- A point with a digit behind it (3.5.2)
abbrev pub begins_fraction : List ℕ → Bool
begins_fraction bytes = begins (λ b. b == 46) bytes && begins is_digit (drop 1 bytes)

-- An exponent: its symbol, and a digit with or without a sign (3.5.2)
abbrev pub begins_exponent : List ℕ → Bool
begins_exponent bytes =
    begins is_exponent bytes && (begins is_digit (drop 1 bytes) || begins is_plus_or_minus (drop 1 bytes) && begins is_digit (drop 2 bytes))

-- A real number goes on so behind its first digits (3.5.2)
abbrev pub begins_real : List ℕ → Bool
begins_real bytes = begins_fraction bytes || begins_exponent bytes

-- How many bytes a base has, with its apostrophe and the symbol of a sign; 0 where no base stands (3.5.1)
abbrev pub base_len_behind : List ℕ → ℕ
base_len_behind bytes =
    if begins is_base bytes then 2 else (if begins is_sign_byte bytes && begins is_base (drop 1 bytes) then 3 else 0)

abbrev pub base_len : List ℕ → ℕ
base_len bytes = if begins (λ b. b == 39) bytes then base_len_behind (drop 1 bytes) else 0

-- How many bytes the digits behind a base have: in base ten a `?` is a digit only as the first one (3.5.1; own)
abbrev pub digits_len : Bool → List ℕ → ℕ
digits_len false bytes = prefix_len is_based bytes
digits_len true bytes =
    if begins is_question bytes then 1 + prefix_len is_based_letter (drop 1 bytes) else prefix_len is_based_letter bytes

-- The same with the white space before them (3.5.1)
abbrev pub spaced_digits_len : Bool → List ℕ → ℕ
spaced_digits_len is_ten bytes = prefix_len is_space bytes + digits_len is_ten (drop (prefix_len is_space bytes) bytes)

-- How many bytes a base and its digits have; 0 where no base stands
abbrev pub based_len_by : ℕ → List ℕ → ℕ
based_len_by len bytes =
    if len == 0 then 0 else len + spaced_digits_len (begins is_base_ten (drop (len - 1) bytes)) (drop len bytes)

abbrev pub based_len : List ℕ → ℕ
based_len bytes = based_len_by (base_len bytes) bytes

-- A number by its value, or L4 at its first byte (3.5.1)
abbrev pub valued : Result Vector LiteralFault → Bool → ℕ → Piece
valued (Ok value) is_sized len = Kept (Token (Number (record { value = value; sized = is_sized }))) len
valued (Err fault) is_sized len = Fault L4 0

-- A number of so many bytes
abbrev pub number_of : List ℕ → Bool → ℕ → Piece
number_of bytes is_sized len = valued (literal (take len bytes)) is_sized len

-- The number by its decimal digits, white space, and the base with its digits; an apostrophe without a base is L1,
-- a real number L4
abbrev pub number_by : List ℕ → ℕ → ℕ → ℕ → Piece
number_by bytes digits spaces based =
    if begins_real (drop digits bytes) then Fault L4 0
    else (if nat_lt 0 based then number_of bytes (nat_lt 0 digits) (digits + spaces + based)
    else (if nat_lt 0 digits then number_of bytes false digits else Fault L1 0))

-- White space may stand behind the size, and a comment may not (3.5.1)
abbrev pub behind_digits : List ℕ → ℕ → ℕ → Piece
behind_digits bytes digits spaces = number_by bytes digits spaces (based_len (drop (digits + spaces) bytes))

abbrev pub number_at : List ℕ → Piece
number_at bytes =
    behind_digits bytes (prefix_len is_decimal bytes) (prefix_len is_space (drop (prefix_len is_decimal bytes) bytes))

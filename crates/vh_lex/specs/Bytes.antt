-- The bytes of which texts are made, by their codes, and what bytes begin with (IEEE 1364-2005, clause 3).
use Rattle.std.specs.Prelude.{ℕ, ◌+◌, Bool, false, ◌&&◌, ◌||◌, not, List, [], ◌∷◌, Option, Some, None, if◌then◌else◌, ◌==◌}
use Rattle.std.specs.Option.{option_map}
use Rattle.vh_base.specs.Classes.{is_between, is_space, is_name_start, is_digit}

-- The line feed, which ends a line (own; 3.3)
abbrev pub is_line_end : ℕ → Bool
is_line_end byte = byte == 10

abbrev pub is_line_byte : ℕ → Bool
is_line_byte byte = not (byte == 10)

-- A byte of which tokens are made (own; 3.1)
abbrev pub is_graphic : ℕ → Bool
is_graphic byte = is_between 33 126 byte

-- A byte that may stand outside strings and comments (own; 3.1)
abbrev pub is_source : ℕ → Bool
is_source byte = is_space byte || is_graphic byte

-- A byte of a string (3.6; the greatest code own)
abbrev pub is_text : ℕ → Bool
is_text byte = is_between 32 126 byte

-- A letter, an underscore, a digit or a dollar sign, with which a name goes on (3.7)
abbrev pub is_name_byte : ℕ → Bool
is_name_byte byte = is_name_start byte || is_digit byte || byte == 36

-- A digit or an underscore, with which a decimal number goes on (3.5.1)
abbrev pub is_decimal : ℕ → Bool
is_decimal byte = is_digit byte || byte == 95

-- The letters X and Z in either case (3.5.1)
abbrev pub is_unknown : ℕ → Bool
is_unknown byte = byte == 120 || byte == 88 || byte == 122 || byte == 90

-- A decimal digit, an underscore, or one of the letters A to F, X and Z in either case: the digits behind a base but `?` (3.5.1)
abbrev pub is_based_letter : ℕ → Bool
is_based_letter byte =
    is_digit byte || byte == 95 || is_between 97 102 byte || is_between 65 70 byte || is_unknown byte

-- `?`, which is written for z (3.5.1)
abbrev pub is_question : ℕ → Bool
is_question byte = byte == 63

-- A digit behind a base (3.5.1)
abbrev pub is_based : ℕ → Bool
is_based byte = is_based_letter byte || is_question byte

-- The letter of base ten, and that of another base, in either case (3.5.1)
abbrev pub is_base_ten : ℕ → Bool
is_base_ten byte = byte == 100 || byte == 68

abbrev pub is_base : ℕ → Bool
is_base byte =
    is_base_ten byte || byte == 98 || byte == 66 || byte == 111 || byte == 79 || byte == 104 || byte == 72

-- The symbol of a signed number, in either case (3.5.1)
abbrev pub is_sign_byte : ℕ → Bool
is_sign_byte byte = byte == 115 || byte == 83

-- The symbol of an exponent, in either case, and its sign (3.5.2)
abbrev pub is_exponent : ℕ → Bool
is_exponent byte = byte == 101 || byte == 69

abbrev pub is_plus_or_minus : ℕ → Bool
is_plus_or_minus byte = byte == 43 || byte == 45

-- An octal digit (3.6.3)
abbrev pub is_octal : ℕ → Bool
is_octal byte = is_between 48 55 byte

-- Bytes begin with a byte of the class
abbrev pub begins : (ℕ → Bool) → List ℕ → Bool
begins is_one [] = false
begins is_one (byte ∷ bytes) = is_one byte

-- Bytes begin with these two
abbrev pub begins_with : ℕ → ℕ → List ℕ → Bool
begins_with first second [] = false
begins_with first second (byte ∷ bytes) = byte == first && begins (λ b. b == second) bytes

-- One byte more, if there is an end
abbrev pub one_more : Option ℕ → Option ℕ
one_more o = option_map (λ len. len + 1) o

-- How many bytes there are through the first `first` with `second` behind it, if they stand there; `half`
-- says that a `first` stands before the bytes
abbrev pub through : ℕ → ℕ → Bool → List ℕ → Option ℕ
through first second half [] = None
through first second half (byte ∷ bytes) =
    if half && byte == second then Some 1 else one_more (through first second (byte == first) bytes)

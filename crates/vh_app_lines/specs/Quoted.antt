-- Texts in quotes. (own)
use Rattle.std.specs.Prelude.{ℕ, ◌+◌, ◌/◌, ◌%◌, ◌++◌, List, [], ◌∷◌, if◌then◌else◌, ◌&&◌, nat_lt, nat_le, ◌==◌, codes}
use Rattle.std.specs.List.{flat_map}

-- A hexadecimal digit, lower case.
abbrev pub hex_digit : ℕ → ℕ
hex_digit n = if nat_lt n 10 then 48 + n else 87 + n

-- A byte in a quoted text: newline, tab, the quote and the backslash by their escapes, a printable
-- byte as it is, and any other as \x with two digits.
abbrev pub escaped : ℕ → List ℕ
escaped b =
    if b == 10 then codes "\\n"
    else (if b == 9 then codes "\\t"
    else (if b == 34 then codes "\\\""
    else (if b == 92 then codes "\\\\"
    else (if nat_le 32 b && nat_le b 126 then b ∷ []
    else codes "\\x" ++ hex_digit (b / 16) ∷ hex_digit (b % 16) ∷ []))))

abbrev pub quoted : List ℕ → List ℕ
quoted text = 34 ∷ flat_map escaped text ++ 34 ∷ []

-- A name as it stands: its bytes. No name of an accepted text has a byte above 127; one would stand as \x
-- with two digits.
abbrev pub plain : ℕ → List ℕ
plain b = if nat_lt b 128 then b ∷ [] else codes "\\x" ++ hex_digit (b / 16) ∷ hex_digit (b % 16) ∷ []

abbrev pub plain_text : List ℕ → List ℕ
plain_text name = flat_map plain name

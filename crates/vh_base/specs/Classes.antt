-- Classes of bytes that all texts share.
use Rattle.std.specs.Prelude.{ℕ, Bool, ◌&&◌, ◌||◌, ◌==◌, nat_le}

-- A byte of a range
abbrev pub is_between : ℕ → ℕ → ℕ → Bool
is_between low high byte = nat_le low byte && nat_le byte high

-- White space: tab, line feed, form feed, carriage return, blank (IEEE 1364-2005, 3.2)
abbrev pub is_space : ℕ → Bool
is_space byte = byte == 9 || byte == 10 || byte == 12 || byte == 13 || byte == 32

-- A letter or an underscore, with which a name begins (IEEE 1364-2005, 3.7)
abbrev pub is_name_start : ℕ → Bool
is_name_start byte = is_between 97 122 byte || is_between 65 90 byte || byte == 95

-- A decimal digit (IEEE 1364-2005, 3.5)
abbrev pub is_digit : ℕ → Bool
is_digit byte = is_between 48 57 byte

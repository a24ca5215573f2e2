-- The place of a byte, by those before it in its file (own: lines and columns are counted from 1, and columns count bytes).
use Rattle.std.specs.Prelude.{ℕ, ◌+◌, List, count_by, reverse}
use Rattle.std.specs.List.{prefix_len}
use Rattle.vh_base.specs.declared.place.Place.{Place}
use Rattle.vh_lex.specs.Bytes.{is_line_end, is_line_byte}

-- How many lines have ended
abbrev pub lines_in : List ℕ → ℕ
lines_in bytes = count_by is_line_end bytes

-- How many bytes stand behind the last line feed
abbrev pub since_line : List ℕ → ℕ
since_line bytes = prefix_len is_line_byte (reverse bytes)

-- The place of a byte in that file before which these bytes stand
abbrev pub place_behind : ℕ → List ℕ → Place
place_behind file bytes = record { file = file; line = 1 + lines_in bytes; column = 1 + since_line bytes }

-- Where a byte stands in a script.
use Rattle.std.specs.Prelude.{◌==◌, ℕ, ◌+◌, ◌-◌, if◌then◌else◌, List, fold, length, take}
use Rattle.vh_base.specs.declared.place.Place.{Place}

-- Where the first byte stands. A script isn't told its file's number (own).
abbrev pub start : Place
start = record { file = 0; line = 1; column = 1 }

-- The place behind a byte: columns count bytes, and a line feed ends a line (own).
abbrev pub behind : Place → ℕ → Place
behind place byte = if byte == 10 then record { file = 0; line = place.line + 1; column = 1 } else record { file = 0; line = place.line; column = place.column + 1 }

-- The place in the bytes at which so many of them are left: behind those in front of it (own).
abbrev pub place_at : List ℕ → ℕ → Place
place_at bytes left = fold behind start (take (length bytes - left) bytes)

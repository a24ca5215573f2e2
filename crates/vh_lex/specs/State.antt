-- What reading has come to: the tokens so far, and what the directives so far say of the text that follows
-- (IEEE 1364-2005, clause 19).
use Rattle.std.specs.Prelude.{ℕ, ◌+◌, List, [], ◌∷◌, if◌then◌else◌}
use Rattle.vh_base.specs.declared.place.Place.{Place}
use Rattle.vh_lex.specs.declared.reader.Reader.{Reader}
use Rattle.vh_lex.specs.declared.setting.Setting.{Setting}
use Rattle.vh_lex.specs.declared.setting.DefaultNet.TheVariants.{Wire}
use Rattle.vh_lex.specs.Bytes.{is_line_end}

-- A state is seen as five parts: `macros`, a list of `Macros`; `made`, a `Made`; `conditionals`, the list of those that are
-- open, the innermost last; `setting`; and `place`, that of the next byte.
abbrev pub State : Type 0
State = Reader

-- A time unit and a precision of 1 ns, and wires where nothing else is declared (own; 19.2, 19.8)
abbrev pub first_setting : Setting
first_setting = record { unit = 6; precision = 6; default_net = Wire }

-- The place of the first byte of a file
abbrev pub start_of : ℕ → Place
start_of file = record { file = file; line = 1; column = 1 }

-- The place after a byte: columns count bytes, and a line feed ends a line (own)
abbrev pub behind : ℕ → Place → Place
behind byte place =
    if is_line_end byte then record place { line = place.line + 1; column = 1 } else record place { column = place.column + 1 }

-- The place after some bytes
abbrev pub moved : List ℕ → Place → Place
moved [] place = place
moved (byte ∷ bytes) place = moved bytes (behind byte place)

-- How contracts see the table of macros that the code holds.
use Rattle.std.specs.Prelude.{ℕ, List, Option, Vec, map}
use Rattle.std.specs.Borrow.{Bor}
use Rattle.std.specs.Option.{option_map}
use Rattle.vh_lex.specs.declared.piece.Part.{Part}
use Rattle.vh_lex.specs.Gathered.{MacroRows}

-- An entry of the table, without where its name lies
abbrev pub entry_seen : {A : Type 0} → Vec ℕ A × Option (List Part) → List ℕ × Option (List Part)
entry_seen e = (e.0.items, e.1)

abbrev pub macros_seen : {A : Type 0} → List (Vec ℕ A × Option (List Part)) → MacroRows
macros_seen = map entry_seen

-- The parts that a reference leads to
abbrev pub parts_seen : Option (Bor (List Part)) → Option (List Part)
parts_seen o = option_map (λ parts. parts.now) o

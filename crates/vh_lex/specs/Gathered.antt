-- The macros that are defined, and what has been made of the text so far (IEEE 1364-2005, 19.3).
use Rattle.std.specs.Prelude.{ℕ, List, [], ◌∷◌, Option, None, if◌then◌else◌, bytes_eq}
use Rattle.vh_lex.specs.declared.token.Token.{Token}
use Rattle.vh_lex.specs.declared.piece.Part.{Part}

-- The parts of each macro's text, and nothing for a name that is undefined again (19.3)
abbrev pub MacroRows : Type 0
MacroRows = List (List ℕ × Option (List Part))

-- The text of a macro, if it is defined (19.3.1)
abbrev pub macro_of : List ℕ → MacroRows → Option (List Part)
macro_of name [] = None
macro_of name (row ∷ rows) = if bytes_eq name row.0 then row.1 else macro_of name rows

-- A macro with a text, or undefined (19.3.1, 19.3.2)
abbrev pub with_macro : List ℕ → Option (List Part) → MacroRows → MacroRows
with_macro name text [] = (name, text) ∷ []
with_macro name text (row ∷ rows) = if bytes_eq name row.0 then (row.0, text) ∷ rows else row ∷ with_macro name text rows

-- The tokens, and how many macros were used
pub record Gathered : Type 0 where
  pub tokens : List Token
  pub uses : ℕ

abbrev pub nothing_gathered : Gathered
nothing_gathered = record { tokens = []; uses = 0 }

-- The code's macros are those of the texts.
use Rattle.std.proofs.Common.{◌≡◌, ℕ, List, [], ◌∷◌, Option, Bool, true, false, cond, bytes_eq, option_map, refl, ap, sym, ◌∙◌}
use Rattle.std.proofs.lemmas.Slice.Eq.{bytes_eq-Decides}
use Rattle.vh_lex.specs.declared.piece.Part.{Part}
use Rattle.vh_lex.specs.Gathered.{MacroRows as Rows, macro_of, with_macro}
use Rattle.vh_lex.specs.MacroTexts.{parts_of}
use Rattle.vh_lex.specs.MacroTokens.{Macros, no_macros, with_text}

abbrev pub Knows : Macros → Rows → Type 0
Knows macros rows = (name : List ℕ) → macro_of name rows ≡ option_map parts_of (macros name)

pub knows-none : Knows no_macros []
knows-none name = refl

bytes-same : (x y : List ℕ) → bytes_eq x y ≡ true → x ≡ y
bytes-same x y e = (bytes_eq-Decides x y).0 e

not-apart : (other name row : List ℕ) → bytes_eq name row ≡ true → bytes_eq other row ≡ true → bytes_eq other name ≡ true
not-apart other name row e f = (bytes_eq-Decides other name).1 (bytes-same other row f ∙ sym (bytes-same name row e))

apart : (other name row : List ℕ) → bytes_eq name row ≡ false → bytes_eq other row ≡ true → bytes_eq other name ≡ false
apart other name row e f = by (bytes_eq other name) refl
  where
    by : (t : Bool) → bytes_eq other name ≡ t → bytes_eq other name ≡ false
    by true g = let h = ap (λ x. bytes_eq x row) (sym (bytes-same other name g)) ∙ f in cc
    by false g = g

macro-with : (other name : List ℕ) (text : Option (List Part)) (rows : Rows) → macro_of other (with_macro name text rows) ≡ cond (bytes_eq other name) text (macro_of other rows)
macro-with other name text [] = refl
macro-with other name text (row ∷ rows) = by (bytes_eq name row.0) refl (bytes_eq other row.0) refl (macro-with other name text rows)
  where
    by : (t : Bool) → bytes_eq name row.0 ≡ t → (u : Bool) → bytes_eq other row.0 ≡ u → macro_of other (with_macro name text rows) ≡ cond (bytes_eq other name) text (macro_of other rows)
        → macro_of other (cond t ((row.0, text) ∷ rows) (row ∷ with_macro name text rows)) ≡ cond (bytes_eq other name) text (cond u row.1 (macro_of other rows))
    by true e true f h = let same = not-apart other name row.0 e f in rw f (rw same refl)
    by true e false f h = let differs = ap (bytes_eq other) (bytes-same name row.0 e) ∙ f in rw f (rw differs refl)
    by false e true f h = let differs = apart other name row.0 e f in rw f (rw differs refl)
    by false e false f h = rw f h

pub knows-with : (name : List ℕ) (text : Option (List ℕ)) (macros : Macros) (rows : Rows) → Knows macros rows
    → Knows (with_text name text macros) (with_macro name (option_map parts_of text) rows)
knows-with name text macros rows h other = macro-with other name (option_map parts_of text) rows ∙ by (bytes_eq other name) (h other)
  where
    by : (t : Bool) → macro_of other rows ≡ option_map parts_of (macros other) → cond t (option_map parts_of text) (macro_of other rows) ≡ option_map parts_of (cond t text (macros other))
    by true e = refl
    by false e = e

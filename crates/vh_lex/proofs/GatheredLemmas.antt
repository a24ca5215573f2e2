-- The table of macros, seen as a list.
use Rattle.std.proofs.Common.{◌≡◌, ℕ, List, [], ◌∷◌, Vec, Option, Some, None, Bool, true, false, cond, refl, ap, sym, ◌∙◌}
use Rattle.std.specs.Prelude.{bytes_eq}
use Rattle.std.specs.Map.{lookup}
use Rattle.indexmap.specs.IndexMap.{insert_entry}
use Rattle.vh_lex.specs.declared.piece.Part.{Part}
use Rattle.vh_lex.specs.Gathered.{MacroRows, macro_of, with_macro}
use Rattle.vh_lex.specs.MacroViews.{entry_seen, macros_seen}

-- A name that is given a text, or loses it
pub seen-insert : {A : Type 0} (eq : Vec ℕ A → Vec ℕ A → Bool) → ((x y : Vec ℕ A) → eq x y ≡ bytes_eq x.items y.items)
    → (es : List (Vec ℕ A × Option (List Part))) (k : Vec ℕ A) (v : Option (List Part)) → macros_seen (insert_entry eq es k v) ≡ with_macro k.items v (macros_seen es)
seen-insert eq same [] k v = refl
seen-insert {A} eq same (e ∷ es) k v = at-first (eq k e.0) (bytes_eq k.items e.0.items) e es k v (insert_entry eq es k v) (same k e.0) (seen-insert eq same es k v)
  where
    at-first : {A : Type 0} (b d : Bool) (e : Vec ℕ A × Option (List Part)) (es : List (Vec ℕ A × Option (List Part))) (k : Vec ℕ A) (v : Option (List Part)) (more : List (Vec ℕ A × Option (List Part)))
        → b ≡ d → macros_seen more ≡ with_macro k.items v (macros_seen es)
        → macros_seen (cond b ((e.0, v) ∷ es) (e ∷ more)) ≡ cond d ((e.0.items, v) ∷ macros_seen es) (entry_seen e ∷ with_macro k.items v (macros_seen es))
    at-first true true e es k v more same h = refl
    at-first false false e es k v more same h = ap (λ rows. entry_seen e ∷ rows) h
    at-first true false e es k v more same h = cc
    at-first false true e es k v more same h = cc

-- Nothing, or what is there
abbrev pub flat : Option (Option (List Part)) → Option (List Part)
flat None = None
flat (Some o) = o

pub seen-get : {A : Type 0} (name : List ℕ) (es : List (Vec ℕ A × Option (List Part))) → macro_of name (macros_seen es) ≡ flat (lookup (λ k. bytes_eq name k.items) es)
seen-get name [] = refl
seen-get {A} name (e ∷ es) = at-first (bytes_eq name e.0.items) e (lookup (λ k. bytes_eq name k.items) es) (macro_of name (macros_seen es)) (seen-get name es)
  where
    at-first : {A : Type 0} (b : Bool) (e : Vec ℕ A × Option (List Part)) (more : Option (Option (List Part))) (rest : Option (List Part)) → rest ≡ flat more
        → cond b e.1 rest ≡ flat (cond b (Some e.1) more)
    at-first true e more rest h = refl
    at-first false e more rest h = h

-- What a look-up in the table gives
pub found-text : {A : Type 0} (name : List ℕ) (es : List (Vec ℕ A × Option (List Part))) (seen : MacroRows) (o : Option (Option (List Part))) → macros_seen es ≡ seen
    → o ≡ lookup (λ k. bytes_eq name k.items) es → flat o ≡ macro_of name seen
found-text name es seen o view e = ap flat e ∙ sym (seen-get name es) ∙ ap (macro_of name) view

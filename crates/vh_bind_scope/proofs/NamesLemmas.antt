-- Lemmas on `specs/Names.antt` and `specs/Views.antt`: the names of a scope, and one more.
use Rattle.std.proofs.Common.{◌≡◌, ◌∙◌, ◌++◌, ℕ, Bool, true, false, cond, List, [], ◌∷◌, Vec, Option, Some, None, refl, ap, sym}
use Rattle.std.specs.Prelude.{bytes_eq, nat_eq, ◌==◌, is_some}
use Rattle.std.specs.Map.{lookup, set_value}
use Rattle.std.specs.Option.{option_and_then}
use Rattle.indexmap.specs.IndexMap.{insert_entry}
use Rattle.vh_bind_scope.specs.declared.names.Meaning.{Meaning}
use Rattle.vh_bind_scope.specs.Names.{Table, Names, named, meaning_in, with_name, declared, with_meaning, declared_anew}
use Rattle.vh_bind_scope.specs.Views.{table_seen}

-- A look-up by bytes is one among the names as they are seen.
pub named_seen : {A : Type 0} (name : List ℕ) (rows : List (Vec ℕ A × Meaning))
    → lookup (λ k. bytes_eq name k.items) rows ≡ named name (table_seen rows)
named_seen name [] = refl
named_seen {A} name (e ∷ es) = ap (cond (bytes_eq name e.0.items) (Some e.1)) (named_seen name es)

-- A name that none of the rows has goes last.
pub one_more : {A : Type 0} (eq : Vec ℕ A → Vec ℕ A → Bool) → ((x y : Vec ℕ A) → eq x y ≡ bytes_eq x.items y.items)
    → (rows : List (Vec ℕ A × Meaning)) (k : Vec ℕ A) (m : Meaning)
    → named k.items (table_seen rows) ≡ None
    → table_seen (insert_entry eq rows k m) ≡ table_seen rows ++ (k.items, m) ∷ []
one_more eq same [] k m h = refl
one_more {A} eq same (e ∷ es) k m h =
    at_first (eq k e.0) (bytes_eq k.items e.0.items) (same k e.0) h (one_more eq same es k m)
  where
    at_first : (b d : Bool) → b ≡ d → cond d (Some e.1) (named k.items (table_seen es)) ≡ None
        → (named k.items (table_seen es) ≡ None → table_seen (insert_entry eq es k m) ≡ table_seen es ++ (k.items, m) ∷ [])
        → table_seen (cond b ((e.0, m) ∷ es) (e ∷ insert_entry eq es k m)) ≡ (e.0.items, e.1) ∷ (table_seen es ++ (k.items, m) ∷ [])
    at_first true true is none rest = absurd (cc)
    at_first false false is none rest = ap (λ rows. (e.0.items, e.1) ∷ rows) (rest none)
    at_first true false is none rest = absurd (cc)
    at_first false true is none rest = absurd (cc)

-- A name more in a scope that has names already, and in one that has none.
pub with_name-there : (scope : ℕ) (d : List ℕ × Meaning) (ns : Names) (t : Table)
    → lookup (λ s. scope == s) ns ≡ Some t → set_value (λ s. scope == s) ns (t ++ d ∷ []) ≡ with_name scope d ns
with_name-there scope d [] t h = absurd (cc)
with_name-there scope d (s ∷ ns) t h = at_first (scope == s.0) h (with_name-there scope d ns t)
  where
    at_first : (b : Bool) → cond b (Some s.1) (lookup (λ n. scope == n) ns) ≡ Some t
        → (lookup (λ n. scope == n) ns ≡ Some t → set_value (λ n. scope == n) ns (t ++ d ∷ []) ≡ with_name scope d ns)
        → cond b ((s.0, t ++ d ∷ []) ∷ ns) (s ∷ set_value (λ n. scope == n) ns (t ++ d ∷ []))
        ≡ cond b ((s.0, s.1 ++ d ∷ []) ∷ ns) (s ∷ with_name scope d ns)
    at_first true is rest = let same : s.1 ≡ t = cc in ap (λ (u : Table). (s.0, u ++ d ∷ []) ∷ ns) (sym same)
    at_first false is rest = ap (λ (rows : Names). s ∷ rows) (rest is)

pub with_name-new : (scope : ℕ) (d : List ℕ × Meaning) (ns : Names)
    → lookup (λ s. scope == s) ns ≡ None → insert_entry nat_eq ns scope (d ∷ []) ≡ with_name scope d ns
with_name-new scope d [] h = refl
with_name-new scope d (s ∷ ns) h = at_first (scope == s.0) h (with_name-new scope d ns)
  where
    at_first : (b : Bool) → cond b (Some s.1) (lookup (λ n. scope == n) ns) ≡ None
        → (lookup (λ n. scope == n) ns ≡ None → insert_entry nat_eq ns scope (d ∷ []) ≡ with_name scope d ns)
        → cond b ((s.0, d ∷ []) ∷ ns) (s ∷ insert_entry nat_eq ns scope (d ∷ []))
        ≡ cond b ((s.0, s.1 ++ d ∷ []) ∷ ns) (s ∷ with_name scope d ns)
    at_first true is rest = absurd (cc)
    at_first false is rest = ap (λ (rows : Names). s ∷ rows) (rest is)

none_of : {X : Type 0} (o : Option X) → is_some o ≡ false → o ≡ None
none_of None h = refl
none_of (Some x) h = absurd (cc)

-- A name that isn't declared in a scope isn't among its names, and declaring it adds it.
pub not_named : (scope : ℕ) (name : List ℕ) (ns : Names) (t : Table)
    → is_some (meaning_in ns scope name) ≡ false → lookup (λ s. scope == s) ns ≡ Some t → named name t ≡ None
not_named scope name ns t absent at =
    none_of (named name t) (ap is_some (ap (option_and_then (named name)) (sym at)) ∙ absent)

pub declared-new : (scope : ℕ) (name : List ℕ) (m : Meaning) (ns : Names)
    → is_some (meaning_in ns scope name) ≡ false → declared scope name m ns ≡ with_name scope (name, m) ns
declared-new scope name m ns absent = rw absent refl

-- Another meaning for a name: among the rows as the code holds them, and where no row has it.
pub set_seen : {A : Type 0} (name : List ℕ) (m : Meaning) (rows : List (Vec ℕ A × Meaning))
    → table_seen (set_value (λ k. bytes_eq name k.items) rows m) ≡ with_meaning name m (table_seen rows)
set_seen name m [] = refl
set_seen {A} name m (e ∷ es) = at_first (bytes_eq name e.0.items) (set_seen name m es)
  where
    at_first : (b : Bool) → table_seen (set_value (λ k. bytes_eq name k.items) es m) ≡ with_meaning name m (table_seen es)
        → table_seen (cond b ((e.0, m) ∷ es) (e ∷ set_value (λ k. bytes_eq name k.items) es m))
        ≡ cond b ((e.0.items, m) ∷ table_seen es) ((e.0.items, e.1) ∷ with_meaning name m (table_seen es))
    at_first true rest = refl
    at_first false rest = ap (λ rows. (e.0.items, e.1) ∷ rows) rest

pub set_none : (name : List ℕ) (m : Meaning) (t : Table) → named name t ≡ None → with_meaning name m t ≡ t
set_none name m [] h = refl
set_none name m (d ∷ t) h = at_first (bytes_eq name d.0) h (set_none name m t)
  where
    at_first : (b : Bool) → cond b (Some d.1) (named name t) ≡ None → (named name t ≡ None → with_meaning name m t ≡ t)
        → cond b ((d.0, m) ∷ t) (d ∷ with_meaning name m t) ≡ d ∷ t
    at_first true is rest = absurd (cc)
    at_first false is rest = ap (λ (rows : Table). d ∷ rows) (rest is)

-- The same of a scope among the scopes.
pub anew-there : (scope : ℕ) (name : List ℕ) (m : Meaning) (ns : Names) (t : Table)
    → lookup (λ s. scope == s) ns ≡ Some t
    → set_value (λ s. scope == s) ns (with_meaning name m t) ≡ declared_anew scope name m ns
anew-there scope name m [] t h = absurd (cc)
anew-there scope name m (s ∷ ns) t h = at_first (scope == s.0) h (anew-there scope name m ns t)
  where
    at_first : (b : Bool) → cond b (Some s.1) (lookup (λ n. scope == n) ns) ≡ Some t
        → (lookup (λ n. scope == n) ns ≡ Some t → set_value (λ n. scope == n) ns (with_meaning name m t) ≡ declared_anew scope name m ns)
        → cond b ((s.0, with_meaning name m t) ∷ ns) (s ∷ set_value (λ n. scope == n) ns (with_meaning name m t))
        ≡ cond b ((s.0, with_meaning name m s.1) ∷ ns) (s ∷ declared_anew scope name m ns)
    at_first true is rest = let same : s.1 ≡ t = cc in ap (λ (u : Table). (s.0, with_meaning name m u) ∷ ns) (sym same)
    at_first false is rest = ap (λ (rows : Names). s ∷ rows) (rest is)

pub anew-none : (scope : ℕ) (name : List ℕ) (m : Meaning) (ns : Names)
    → lookup (λ s. scope == s) ns ≡ None → declared_anew scope name m ns ≡ ns
anew-none scope name m [] h = refl
anew-none scope name m (s ∷ ns) h = at_first (scope == s.0) h (anew-none scope name m ns)
  where
    at_first : (b : Bool) → cond b (Some s.1) (lookup (λ n. scope == n) ns) ≡ None
        → (lookup (λ n. scope == n) ns ≡ None → declared_anew scope name m ns ≡ ns)
        → cond b ((s.0, with_meaning name m s.1) ∷ ns) (s ∷ declared_anew scope name m ns) ≡ s ∷ ns
    at_first true is rest = absurd (cc)
    at_first false is rest = ap (λ (rows : Names). s ∷ rows) (rest is)

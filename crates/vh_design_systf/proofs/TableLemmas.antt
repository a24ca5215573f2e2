-- Lemmas on `specs/Table.antt` and `specs/Seen.antt`: the table as the rows hold it.
use Rattle.std.proofs.Common.{◌≡◌, ◌<◌, ◌+◌, ◌^◌, ◌||◌, ℕ, suc, List, [], ◌∷◌, ◌++◌, length, length-append, Vec, Bor, Option, Some, None, IfSome, Bool, true, false, not, cond, is_some, refl, ap, sym, ◌∙◌, arith}
use Rattle.std.specs.Prelude.{bytes_eq, position}
use Rattle.std.specs.List.{list_any, prefix_len}
use Rattle.std.specs.Option.{option_copied}
use Rattle.std.specs.Map.{lookup, keys_of}
use Rattle.std.proofs.lemmas.List.{length-map, map_push}
use Rattle.indexmap.specs.IndexMap.{insert_entry}
use Rattle.vh_base.specs.declared.orders.SystfEntry.{SystfEntry}
use Rattle.vh_design_systf.specs.Seen.{entries_seen, names_seen, IsKept}
use Rattle.vh_design_systf.specs.Table.{is_built_in, names_of, position_of, has_name, with_entry}

-- A name that no row has goes last.
inserted : {A : Type 0} (eq : Vec ℕ A → Vec ℕ A → Bool) → ((x y : Vec ℕ A) → eq x y ≡ bytes_eq x.items y.items)
    → (rows : List (Vec ℕ A × SystfEntry)) (k : Vec ℕ A) (v : SystfEntry)
    → lookup (λ x. bytes_eq k.items x.items) rows ≡ None → insert_entry eq rows k v ≡ rows ++ (k, v) ∷ []
inserted eq same [] k v h = refl
inserted {A} eq same (e ∷ es) k v h =
    at_first (eq k e.0) (bytes_eq k.items e.0.items) (same k e.0) h (inserted eq same es k v)
  where
    at_first : (b d : Bool) → b ≡ d → cond d (Some e.1) (lookup (λ x. bytes_eq k.items x.items) es) ≡ None
        → (lookup (λ x. bytes_eq k.items x.items) es ≡ None → insert_entry eq es k v ≡ es ++ (k, v) ∷ [])
        → cond b ((e.0, v) ∷ es) (e ∷ insert_entry eq es k v) ≡ e ∷ (es ++ (k, v) ∷ [])
    at_first true true is none rest = absurd (cc)
    at_first false false is none rest = ap (λ rows. e ∷ rows) (rest none)
    at_first true false is none rest = absurd (cc)
    at_first false true is none rest = absurd (cc)

-- A look-up finds exactly the names of the rows.
found : {A : Type 0} (name : List ℕ) (rows : List (Vec ℕ A × SystfEntry))
    → is_some (lookup (λ k. bytes_eq name k.items) rows) ≡ list_any (bytes_eq name) (names_seen rows)
found name [] = refl
found {A} name (e ∷ es) = at_first (bytes_eq name e.0.items) (found name es)
  where
    at_first : (b : Bool) → is_some (lookup (λ k. bytes_eq name k.items) es) ≡ list_any (bytes_eq name) (names_seen es)
        → is_some (cond b (Some e.1) (lookup (λ k. bytes_eq name k.items) es)) ≡ (b || list_any (bytes_eq name) (names_seen es))
    at_first true rest = refl
    at_first false rest = rest

pub found_name : {A : Type 0} (name : List ℕ) (rows : List (Vec ℕ A × SystfEntry))
    → IsKept rows → is_some (lookup (λ k. bytes_eq name k.items) rows) ≡ has_name name (entries_seen rows)
found_name name rows kept = found name rows ∙ ap (list_any (bytes_eq name)) kept.named

pub copied_some : {X : Type 0} (o : Option (Bor X)) → is_some o ≡ is_some (option_copied o)
copied_some None = refl
copied_some (Some x) = refl

-- The position_named of a name among the rows.
prefix_seen : {A : Type 0} (p : List ℕ → Bool) (rows : List (Vec ℕ A × SystfEntry))
    → prefix_len (λ x. not (p x)) (names_seen rows) ≡ prefix_len (λ k. not (p k.items)) (keys_of rows)
prefix_seen p [] = refl
prefix_seen p (e ∷ es) = ap (λ n. cond (not (p e.0.items)) (1 + n) 0) (prefix_seen p es)

length_seen : {A : Type 0} (rows : List (Vec ℕ A × SystfEntry)) → length (names_seen rows) ≡ length (keys_of rows)
length_seen [] = refl
length_seen (e ∷ es) = ap suc (length_seen es)

place_seen : {A : Type 0} (p : List ℕ → Bool) (rows : List (Vec ℕ A × SystfEntry))
    → position p (names_seen rows) ≡ position (λ k. p k.items) (keys_of rows)
place_seen p rows = rw (length_seen rows, prefix_seen p rows) refl

pub place_name : {A : Type 0} (name : List ℕ) (rows : List (Vec ℕ A × SystfEntry))
    → IsKept rows → position (λ k. bytes_eq name k.items) (keys_of rows) ≡ position_of name (entries_seen rows)
place_name name rows kept = sym (place_seen (bytes_eq name) rows) ∙ ap (position (bytes_eq name)) kept.named

pub if_small : (o : Option ℕ) (m : ℕ) → IfSome o (λ n. n < m) → m < 2 ^ 32 → IfSome o (λ n. n < 2 ^ 32)
if_small None m below small = tt
if_small (Some n) m below small = omega arith

-- The rows with one more.
none_of : {X : Type 0} (o : Option X) → is_some o ≡ false → o ≡ None
none_of None h = refl
none_of (Some x) h = absurd (cc)

pub one_more : {A : Type 0} (eq : Vec ℕ A → Vec ℕ A → Bool) → ((x y : Vec ℕ A) → eq x y ≡ bytes_eq x.items y.items)
    → (rows more : List (Vec ℕ A × SystfEntry)) (k : Vec ℕ A) (v : SystfEntry)
    → IsKept rows → has_name k.items (entries_seen rows) ≡ false → more ≡ insert_entry eq rows k v → more ≡ rows ++ (k, v) ∷ []
one_more eq same rows more k v kept fresh are =
    are ∙ inserted eq same rows k v
    (none_of (lookup (λ x. bytes_eq k.items x.items) rows) (found_name k.items rows kept ∙ fresh))

named_more : {A : Type 0} (rows : List (Vec ℕ A × SystfEntry)) (k : Vec ℕ A) (v : SystfEntry)
    → names_seen rows ≡ names_of (entries_seen rows) → k.items ≡ v.name
    → names_seen (rows ++ (k, v) ∷ []) ≡ names_of (entries_seen (rows ++ (k, v) ∷ []))
named_more [] k v h same = ap (λ name. name ∷ []) same
named_more (e ∷ es) k v h same =
    let tail : names_seen es ≡ names_of (entries_seen es) = cc in
    let head : e.0.items ≡ e.1.name = cc in
    let rest = named_more es k v tail same in
    cc

pub kept_more : {A : Type 0} (rows more : List (Vec ℕ A × SystfEntry)) (k : Vec ℕ A) (v : SystfEntry)
    → IsKept rows → k.items ≡ v.name → length (entries_seen rows) + 1 < 2 ^ 32 → more ≡ rows ++ (k, v) ∷ [] → IsKept more
kept_more rows more k v kept same small are =
    let counted : length (rows ++ (k, v) ∷ []) < 2 ^ 32 =
    simp length-append (omega (arith, length-map rows (λ (r : Vec ℕ _ × SystfEntry). r.1))) in
    rw are (record { named = named_more rows k v kept.named same; counted = counted })

pub seen_more : {A : Type 0} (rows : List (Vec ℕ A × SystfEntry)) (k : Vec ℕ A) (v : SystfEntry)
    → entries_seen (rows ++ (k, v) ∷ []) ≡ entries_seen rows ++ v ∷ []
seen_more rows k v = map_push (λ r. r.1) rows (k, v)

-- A registration that is added.
pub with_new : (table : List SystfEntry) (e : SystfEntry)
    → is_built_in e.name ≡ false → has_name e.name table ≡ false → with_entry table e ≡ table ++ e ∷ []
with_new table e ours fresh = rw (ours, fresh) refl

-- Lemmas on `specs/Views.antt`: the lists of children, and one object more.
use Rattle.std.proofs.Common.{◌≡◌, ◌≢◌, ◌∙◌, ◌<◌, ◌+◌, ◌++◌, ◌==◌, ℕ, Bool, true, false, cond, List, [], ◌∷◌, Vec, length, map, filter, IfSome, Option, Some, None, slice_get, get_or, set, refl, sym, ap, arith}
use Rattle.std.specs.declared.alloc.Global.{Global}
use Rattle.std.specs.List.{range_with_len}
use Rattle.std.specs.Option.{option_map, option_map_or}
use Rattle.std.proofs.lemmas.Bool.{eqb-true, eqb-false}
use Rattle.std.proofs.lemmas.List.{append-nil, map-id, map-set, length-set, get_or-set_same, get_or-set_other}
use Rattle.std.proofs.lemmas.List.Elements.{filter-append}
use Rattle.std.proofs.lemmas.List.FromFn.{map-range_with_len_more}
use Rattle.std.proofs.lemmas.Option.{slice_get-map, slice_get-get_or, get_or_from_slice_get}
use Rattle.vh_design_nodes.specs.declared.object.ObjectInfo.{ObjectInfo}
use Rattle.vh_objects.specs.Relations.{same_scope, is_child}
use Rattle.vh_objects.specs.Views.{AreChildren, children_below, lists_of, position_of, with_one}

-- A list is seen where it stands.
pub seen_at : (xs : List (Vec ℕ Global)) (k : ℕ) (d : Vec ℕ Global) → k < length xs
    → get_or (lists_of xs) k [] ≡ (get_or xs k d).items
seen_at xs k d inside =
    get_or_from_slice_get (lists_of xs) k _ []
    (slice_get-map (λ (v : Vec ℕ Global). v.items) xs k ∙ ap (option_map (λ (v : Vec ℕ Global). v.items)) (slice_get-get_or xs k d inside))

pub add-seen : (xs : List (Vec ℕ Global)) (k o : ℕ) (was now : Vec ℕ Global) → k < length xs → was ≡ get_or xs k was
    → now.items ≡ was.items ++ o ∷ [] → lists_of (set xs k now) ≡ with_one k o (lists_of xs)
add-seen xs k o was now inside at is =
    map-set (λ (v : Vec ℕ Global). v.items) xs k now
    ∙ ap (set (lists_of xs) k) (is ∙ ap (λ (v : Vec ℕ Global). v.items ++ o ∷ []) at
    ∙ ap (λ (ys : List ℕ). ys ++ o ∷ []) (sym (seen_at xs k was inside)))

-- The numbers below one more.
range_more : (n : ℕ) → range_with_len 0 (n + 1) ≡ range_with_len 0 n ++ n ∷ []
range_more n =
    sym (map-id (range_with_len 0 (n + 1))) ∙ map-range_with_len_more (λ (x : ℕ). x) 0 n n (omega arith)
    ∙ ap (λ (xs : List ℕ). xs ++ n ∷ []) (map-id (range_with_len 0 n))

filter_one : (test : ℕ → Bool) (n : ℕ) (b : Bool) → test n ≡ b → filter test (n ∷ []) ≡ cond b (n ∷ []) []
filter_one test n b is = ap (λ (x : Bool). cond x (n ∷ []) []) is

child_is : (os : List ObjectInfo) (scope : Option ℕ) (n : ℕ) (i : ObjectInfo) → slice_get os n ≡ Some i
    → is_child os scope n ≡ same_scope scope i.parent
child_is os scope n i at = ap (λ (x : Option ObjectInfo). option_map_or (λ (j : ObjectInfo). same_scope scope j.parent) x false) at

below-more : (n : ℕ) (os : List ObjectInfo) (scope : Option ℕ) (i : ObjectInfo) (b : Bool) → slice_get os n ≡ Some i
    → same_scope scope i.parent ≡ b → children_below (n + 1) os scope ≡ children_below n os scope ++ cond b (n ∷ []) []
below-more n os scope i b at is =
    ap (filter (is_child os scope)) (range_more n) ∙ filter-append (is_child os scope) (range_with_len 0 n) (n ∷ [])
    ∙ ap (λ (xs : List ℕ). children_below n os scope ++ xs) (filter_one (is_child os scope) n b (child_is os scope n i at ∙ is))

-- Positions tell scopes apart.
scope-same : (s p : Option ℕ) → same_scope s p ≡ true → s ≡ p
scope-same None None is = refl
scope-same None (Some p) is = cc
scope-same (Some s) None is = cc
scope-same (Some s) (Some p) is = ap Some (eqb-true s p is)

scope-apart : (s p : Option ℕ) → same_scope s p ≡ false → position_of s ≢ position_of p
scope-apart None None is = cc
scope-apart None (Some p) is = λ e. omega (arith, e)
scope-apart (Some s) None is = λ e. omega (arith, e)
scope-apart (Some s) (Some p) is = λ e. eqb-false s p is (omega (arith, e))

position-inside : (scope : Option ℕ) (n : ℕ) → IfSome scope (λ s. s < n) → position_of scope < n + 1
position-inside None n h = omega arith
position-inside (Some s) n h = omega (arith, h)

one-more : (n : ℕ) (os : List ObjectInfo) (lists : List (List ℕ)) (i : ObjectInfo) (scope : Option ℕ) (b : Bool)
    → AreChildren n os lists → slice_get os n ≡ Some i → IfSome i.parent (λ s. s < length os) → IfSome scope (λ s. s < length os)
    → same_scope scope i.parent ≡ b
    → get_or (with_one (position_of i.parent) n lists) (position_of scope) [] ≡ children_below (n + 1) os scope
one-more n os lists i scope true made at there inside is =
    let same : position_of scope ≡ position_of i.parent = ap position_of (scope-same scope i.parent is) in
    let within : position_of i.parent < length lists = rw made.counted (position-inside i.parent (length os) there) in
    ap (λ (k : ℕ). get_or (with_one (position_of i.parent) n lists) k []) same
    ∙ get_or-set_same lists (position_of i.parent) (get_or lists (position_of i.parent) [] ++ n ∷ []) [] within
    ∙ ap (λ (k : ℕ). get_or lists k [] ++ n ∷ []) (sym same)
    ∙ ap (λ (xs : List ℕ). xs ++ n ∷ []) (made.each scope inside) ∙ sym (below-more n os scope i true at is)
one-more n os lists i scope false made at there inside is =
    get_or-set_other lists (position_of i.parent) (position_of scope) (get_or lists (position_of i.parent) [] ++ n ∷ []) []
    (scope-apart scope i.parent is)
    ∙ made.each scope inside ∙ sym (append-nil (children_below n os scope)) ∙ sym (below-more n os scope i false at is)

pub children-more : (n : ℕ) (os : List ObjectInfo) (lists : List (List ℕ)) (i : ObjectInfo) → AreChildren n os lists
    → slice_get os n ≡ Some i → IfSome i.parent (λ s. s < n) → n < length os
    → AreChildren (n + 1) os (with_one (position_of i.parent) n lists)
children-more n os lists i made at before within = record {
  counted = length-set lists (position_of i.parent) _ ∙ made.counted;
  each = λ scope inside. one-more n os lists i scope (same_scope scope i.parent) made at (there i.parent before) inside refl;
}
  where
    there : (p : Option ℕ) → IfSome p (λ s. s < n) → IfSome p (λ s. s < length os)
    there None h = h
    there (Some p) h = omega (arith, h, within)

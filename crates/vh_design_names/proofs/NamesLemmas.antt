-- Lemmas on `specs/Names.antt`: an object, and the scopes around it.
use Rattle.std.proofs.Common.{◌≡◌, ◌∙◌, ◌<◌, ◌+◌, ◌++◌, ◌==◌, ℕ, zero, suc, Bool, true, false, List, [], ◌∷◌, All, length, IfSome, Option, Some, None, slice_get, get_or, unwrap_or, drop, refl, sym, ap, arith, append_assoc}
use Rattle.std.specs.Option.{option_map, option_and_then}
use Rattle.std.proofs.lemmas.Bool.{eqb-true, eqb-false}
use Rattle.std.proofs.lemmas.List.{append-nil, at_drop_more, drop_all, length-drop}
use Rattle.std.proofs.lemmas.List.Elements.{All-push}
use Rattle.vh_design_nodes.specs.declared.object.ObjectInfo.{ObjectInfo}
use Rattle.vh_design_names.specs.Names.{name_at, scope_at, around, scopes_below, scopes_of, dotted}

step_by : (b : Bool) (k : ℕ) (os : List ObjectInfo) (o : ℕ) → (o == k) ≡ b → o < suc k
    → (o < k → scopes_below k os o ≡ o ∷ around (scopes_below o os) (scope_at os o))
    → elim b [
      | true ↦ o ∷ around (scopes_below k os) (scope_at os o)
      | false ↦ scopes_below k os o
    ]
    ≡ o ∷ around (scopes_below o os) (scope_at os o)
step_by true k os o is below rest =
    ap (λ (n : ℕ). o ∷ around (scopes_below n os) (scope_at os o)) (sym (eqb-true o k is))
step_by false k os o is below rest = let apart = eqb-false o k is in rest (omega (arith, apart))

-- An object stands before the scopes around it, whose numbers are below its own.
scopes_step : (k : ℕ) (os : List ObjectInfo) (o : ℕ) → o < k
    → scopes_below k os o ≡ o ∷ around (scopes_below o os) (scope_at os o)
unfolding scopes_below
scopes_step zero os o below = absurd (omega arith)
scopes_step (suc k) os o below = step_by (o == k) k os o refl below (scopes_step k os o)

-- The bound makes no difference.
same_around : (k m : ℕ) (os : List ObjectInfo) (next : Option ℕ) → IfSome next (λ p. p < k) → IfSome next (λ p. p < m)
    → around (scopes_below k os) next ≡ around (scopes_below m os) next
same_around k m os None h g = refl
same_around k m os (Some p) h g = scopes_step k os p h ∙ sym (scopes_step m os p g)

below_more : (next : Option ℕ) (k m : ℕ) → k < m → IfSome next (λ p. p < k) → IfSome next (λ p. p < m)
below_more None k m lt h = h
below_more (Some p) k m lt h = omega (arith, h, lt)

-- What a walk outwards has gone over, with what is left.
pub record Walked (os : List ObjectInfo) (o : ℕ) (before : List ℕ) (next : Option ℕ) : Type 0 where
  pub rest : before ++ around (scopes_of os) next ≡ scopes_of os o
  pub there : All (λ p. p < length os) before
  pub left : IfSome next (λ p. p < length os)

pub scopes_next : (os : List ObjectInfo) (o : ℕ) (i : ObjectInfo) → o < length os → slice_get os o ≡ Some i
    → IfSome i.parent (λ p. p < o) → o ∷ around (scopes_of os) i.parent ≡ scopes_of os o
scopes_next os o i inside at before =
    sym (scopes_step (length os) os o inside
    ∙ ap (λ (x : Option ObjectInfo). o ∷ around (scopes_below o os) (option_and_then (λ (j : ObjectInfo). j.parent) x)) at
    ∙ ap (λ (xs : List ℕ). o ∷ xs) (same_around o (length os) os i.parent before (below_more i.parent o (length os) inside before)))

pub walked_next : (os : List ObjectInfo) (o p : ℕ) (i : ObjectInfo) (before : List ℕ) → Walked os o before (Some p)
    → slice_get os p ≡ Some i → IfSome i.parent (λ q. q < p) → Walked os o (before ++ p ∷ []) i.parent
walked_next os o p i before w at above = record {
  rest = append_assoc before (p ∷ []) (around (scopes_of os) i.parent)
      ∙ ap (λ (xs : List ℕ). before ++ xs) (scopes_next os p i w.left at above) ∙ w.rest;
  there = All-push (λ q. q < length os) before p w.there w.left;
  left = below_more i.parent p (length os) w.left above;
}

-- The names that are there, and one more.
pub name_is : (os : List ObjectInfo) (o : ℕ) (i : ObjectInfo) → slice_get os o ≡ Some i → i.name ≡ name_at os o
name_is os o i at = ap (λ (x : Option ObjectInfo). unwrap_or (option_map (λ (j : ObjectInfo). j.name) x) []) (sym at)

pub dotted_none : (os : List ObjectInfo) (xs before : List ℕ) → before ≡ before ++ dotted os (drop (length xs) xs)
unfolding dotted
dotted_none os xs before = sym (ap (λ (ys : List ℕ). before ++ dotted os ys) (drop_all (length xs) xs (omega arith)) ∙ append-nil before)

dotted_two : (os : List ObjectInfo) (o : ℕ) (ps : List ℕ) → 0 < length ps → dotted os (o ∷ ps) ≡ dotted os ps ++ 46 ∷ name_at os o
unfolding dotted
dotted_two os o [] h = absurd (omega (arith, h))
dotted_two os o (p ∷ ps) h = refl

dotted_one : (os : List ObjectInfo) (o : ℕ) (ps : List ℕ) → length ps ≡ 0 → (dotted os (o ∷ ps) ≡ name_at os o) × (dotted os ps ≡ [])
unfolding dotted
dotted_one os o [] h = (refl, refl)
dotted_one os o (p ∷ ps) h = absurd (omega (arith, h))

pub dotted_then : (os : List ObjectInfo) (xs : List ℕ) (k d : ℕ) (before now name : List ℕ) → k + 1 < length xs
    → now ≡ before ++ dotted os (drop (k + 1) xs) → name ≡ name_at os (get_or xs k d)
    → (now ++ 46 ∷ []) ++ name ≡ before ++ dotted os (drop k xs)
dotted_then os xs k d before now name inside is called =
    append_assoc now (46 ∷ []) name
    ∙ ap (λ (ys : List ℕ). ys ++ 46 ∷ name) is
    ∙ append_assoc before (dotted os (drop (k + 1) xs)) (46 ∷ name)
    ∙ ap (λ (n : List ℕ). before ++ (dotted os (drop (k + 1) xs) ++ 46 ∷ n)) called
    ∙ ap (λ (ys : List ℕ). before ++ ys) (sym (at_drop_more (dotted os) xs k d (omega arith)
    ∙ dotted_two os (get_or xs k d) (drop (k + 1) xs) (omega (arith, length-drop (k + 1) xs))))

pub dotted_else : (os : List ObjectInfo) (xs : List ℕ) (k d : ℕ) (before now name : List ℕ) → k + 1 ≡ length xs
    → now ≡ before ++ dotted os (drop (k + 1) xs) → name ≡ name_at os (get_or xs k d)
    → now ++ name ≡ before ++ dotted os (drop k xs)
dotted_else os xs k d before now name last is called =
    let one = dotted_one os (get_or xs k d) (drop (k + 1) xs) (omega (arith, length-drop (k + 1) xs)) in
    ap (λ (ys : List ℕ). ys ++ name) (is ∙ ap (λ (ys : List ℕ). before ++ ys) one.1 ∙ append-nil before)
    ∙ ap (λ (n : List ℕ). before ++ n) (called ∙ sym (at_drop_more (dotted os) xs k d (omega arith) ∙ one.0))

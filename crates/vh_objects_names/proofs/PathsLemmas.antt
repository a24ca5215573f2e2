-- Lemmas on `specs/Paths.antt`: an object with those between it and a scope.
use Rattle.std.proofs.Common.{◌≡◌, ◌∙◌, ◌<◌, ◌++◌, ◌==◌, ℕ, zero, suc, Bool, true, false, cond, List, [], ◌∷◌, All, length, IfSome, Option, Some, None, slice_get, refl, sym, ap, arith, append_assoc}
use Rattle.std.specs.Option.{option_map, option_and_then}
use Rattle.std.proofs.lemmas.Bool.{eqb-true, eqb-false}
use Rattle.std.proofs.lemmas.List.Elements.{All-push}
use Rattle.vh_design_nodes.specs.declared.object.ObjectInfo.{ObjectInfo}
use Rattle.vh_design_names.specs.Names.{scope_at}
use Rattle.vh_objects.specs.Relations.{same_scope}
use Rattle.vh_objects_names.specs.Paths.{in_parent, in_scope, objects_below, objects_to}

step_by : (b : Bool) (k : ℕ) (os : List ObjectInfo) (scope : Option ℕ) (o : ℕ) → (o == k) ≡ b → o < suc k
    → (o < k → objects_below k os scope o ≡ in_scope scope (objects_below o os scope) o (scope_at os o))
    → elim b [
      | true ↦ in_scope scope (objects_below k os scope) o (scope_at os o)
      | false ↦ objects_below k os scope o
    ]
    ≡ in_scope scope (objects_below o os scope) o (scope_at os o)
step_by true k os scope o is below rest =
    ap (λ (n : ℕ). in_scope scope (objects_below n os scope) o (scope_at os o)) (sym (eqb-true o k is))
step_by false k os scope o is below rest = let apart = eqb-false o k is in rest (omega (arith, apart))

-- An object stands in the scope, or in one that lies below it and has a lesser number.
pub objects_step : (k : ℕ) (os : List ObjectInfo) (scope : Option ℕ) (o : ℕ) → o < k
    → objects_below k os scope o ≡ in_scope scope (objects_below o os scope) o (scope_at os o)
unfolding objects_below
objects_step zero os scope o below = absurd (omega arith)
objects_step (suc k) os scope o below = step_by (o == k) k os scope o refl below (objects_step k os scope o)

-- The bound makes no difference.
pub same_below : (k m : ℕ) (os : List ObjectInfo) (scope : Option ℕ) (o : ℕ) → o < k → o < m
    → objects_below k os scope o ≡ objects_below m os scope o
same_below k m os scope o h g = objects_step k os scope o h ∙ sym (objects_step m os scope o g)

-- What is left of the way to the scope.
abbrev pub rest_to : List ObjectInfo → Option ℕ → Option ℕ → Option (List ℕ)
rest_to os scope next = option_and_then (objects_to os scope) next

-- What a walk outwards has gone over, with what is left.
pub record Walked (os : List ObjectInfo) (scope : Option ℕ) (o : ℕ) (before : List ℕ) (next : Option ℕ) : Type 0 where
  pub rest : option_map (λ ps. before ++ ps) (rest_to os scope next) ≡ objects_to os scope o
  pub there : All (λ p. p < length os) before
  pub left : IfSome next (λ p. p < length os)

in_parent-length : (os : List ObjectInfo) (scope : Option ℕ) (o : ℕ) (parent : Option ℕ) → o < length os → IfSome parent (λ q. q < o)
    → in_parent (objects_below o os scope) o parent ≡ in_parent (objects_to os scope) o parent
in_parent-length os scope o None inside h = refl
in_parent-length os scope o (Some q) inside h =
    ap (option_map (λ (ps : List ℕ). o ∷ ps)) (same_below o (length os) os scope q h (omega (arith, h, inside)))

pub scope_is : (os : List ObjectInfo) (o : ℕ) (i : ObjectInfo) → slice_get os o ≡ Some i → scope_at os o ≡ i.parent
scope_is os o i at = ap (option_and_then (λ (j : ObjectInfo). j.parent)) at

in_scope-is : (os : List ObjectInfo) (scope : Option ℕ) (o : ℕ) (parent : Option ℕ) (b : Bool) → o < length os
    → scope_at os o ≡ parent → IfSome parent (λ q. q < o) → same_scope scope parent ≡ b
    → objects_to os scope o ≡ cond b (Some (o ∷ [])) (in_parent (objects_to os scope) o parent)
in_scope-is os scope o parent b inside at before is =
    objects_step (length os) os scope o inside
    ∙ ap (in_scope scope (objects_below o os scope) o) at
    ∙ ap (λ (x : Bool). cond x (Some (o ∷ [])) (in_parent (objects_below o os scope) o parent)) is
    ∙ ap (cond b (Some (o ∷ []))) (in_parent-length os scope o parent inside before)

-- It stands in the scope itself.
pub walked_last : (os : List ObjectInfo) (scope : Option ℕ) (o p : ℕ) (parent : Option ℕ) (before : List ℕ)
    → Walked os scope o before (Some p) → scope_at os p ≡ parent → IfSome parent (λ q. q < p) → same_scope scope parent ≡ true
    → Some (before ++ p ∷ []) ≡ objects_to os scope o
walked_last os scope o p parent before w at above is =
    ap (option_map (λ (ps : List ℕ). before ++ ps)) (sym (in_scope-is os scope p parent true w.left at above is)) ∙ w.rest

further : (os : List ObjectInfo) (scope : Option ℕ) (p : ℕ) (before : List ℕ) (x : Option (List ℕ))
    → option_map (λ (ps : List ℕ). (before ++ p ∷ []) ++ ps) x
    ≡ option_map (λ (ps : List ℕ). before ++ ps) (option_map (λ (ps : List ℕ). p ∷ ps) x)
further os scope p before None = refl
further os scope p before (Some ps) = ap Some (append_assoc before (p ∷ []) ps)

parent-rest : (os : List ObjectInfo) (scope : Option ℕ) (p : ℕ) (before : List ℕ) (parent : Option ℕ)
    → option_map (λ (ps : List ℕ). (before ++ p ∷ []) ++ ps) (rest_to os scope parent)
    ≡ option_map (λ (ps : List ℕ). before ++ ps) (in_parent (objects_to os scope) p parent)
parent-rest os scope p before None = refl
parent-rest os scope p before (Some q) = further os scope p before (objects_to os scope q)

below_more : (next : Option ℕ) (k m : ℕ) → k < m → IfSome next (λ p. p < k) → IfSome next (λ p. p < m)
below_more None k m lt h = h
below_more (Some p) k m lt h = omega (arith, h, lt)

pub walked_next : (os : List ObjectInfo) (scope : Option ℕ) (o p : ℕ) (parent : Option ℕ) (before : List ℕ)
    → Walked os scope o before (Some p) → scope_at os p ≡ parent → IfSome parent (λ q. q < p) → same_scope scope parent ≡ false
    → Walked os scope o (before ++ p ∷ []) parent
walked_next os scope o p parent before w at above is = record {
  rest = parent-rest os scope p before parent
      ∙ ap (option_map (λ (ps : List ℕ). before ++ ps)) (sym (in_scope-is os scope p parent false w.left at above is)) ∙ w.rest;
  there = All-push (λ q. q < length os) before p w.there w.left;
  left = below_more parent p (length os) w.left above;
}

pub walk-begins : (os : List ObjectInfo) (scope : Option ℕ) (o : ℕ) → option_map (λ (ps : List ℕ). [] ++ ps) (objects_to os scope o) ≡ objects_to os scope o
walk-begins os scope o = plain (objects_to os scope o)
  where
    plain : (x : Option (List ℕ)) → option_map (λ (ps : List ℕ). [] ++ ps) x ≡ x
    plain None = refl
    plain (Some ps) = refl

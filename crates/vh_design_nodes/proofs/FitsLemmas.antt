-- Lemmas on `specs/Fits.antt`: what the tests mean.
use Rattle.std.proofs.Common.{◌≡◌, ◌<◌, ◌≤◌, ℕ, Bool, true, false, ◌&&◌, nat_le, List, length, IsSomeAnd, Option, Some, None, slice_get, unwrap_or, refl}
use Rattle.std.specs.Cmp.Derive.{both_true}
use Rattle.std.specs.Option.{option_map}
use Rattle.std.proofs.lemmas.Bool.{leb-true}
use Rattle.std.proofs.lemmas.Option.{slice_get_within}
use Rattle.vh_logic.specs.declared.vector.TheConstants.{MAX_WIDTH}
use Rattle.vh_design_nodes.specs.declared.object.Kind.{Kind}
use Rattle.vh_design_nodes.specs.declared.object.ObjectInfo.{ObjectInfo}
use Rattle.vh_design_nodes.specs.Fits.{has_kind, is_width, same_sign, IsOfKind}

-- Two tests that pass, pass each; one that passes, passes beside nothing.
pub and_left : (a b : Bool) → (a && b) ≡ true → a ≡ true
and_left true b h = refl
and_left false b h = h

pub and_right : (a b : Bool) → (a && b) ≡ true → b ≡ true
and_right true b h = h
and_right false b h = cc

pub only : (a : Bool) → a ≡ true → (a && true) ≡ true
only a h = both_true h refl

-- A width that passes.
pub width_least : (w : ℕ) → is_width w ≡ true → 1 ≤ w
width_least w h = leb-true 1 w (and_left (nat_le 1 w) (nat_le w MAX_WIDTH) h)

pub width_most : (w : ℕ) → is_width w ≡ true → w ≤ MAX_WIDTH
width_most w h = leb-true w MAX_WIDTH (and_right (nat_le 1 w) (nat_le w MAX_WIDTH) h)

-- Two signs that pass.
pub same : (a b : Bool) → same_sign a b ≡ true → a ≡ b
same true true h = refl
same true false h = cc
same false true h = cc
same false false h = refl

-- An object whose kind passes is there.
some_of_kind : (test : Kind → Bool) (o : Option ObjectInfo)
    → unwrap_or (option_map (λ (i : ObjectInfo). test i.kind) o) false ≡ true → IsSomeAnd o (λ i. test i.kind ≡ true)
some_of_kind test None h = cc
some_of_kind test (Some i) h = h

some_inside : (os : List ObjectInfo) (test : Kind → Bool) (o : ℕ) (i : Option ObjectInfo)
    → slice_get os o ≡ i → unwrap_or (option_map (λ (x : ObjectInfo). test x.kind) i) false ≡ true → o < length os
some_inside os test o None at h = cc
some_inside os test o (Some i) at h = slice_get_within os o i at

-- Its number is below that of the objects.
pub has_kind-inside : (os : List ObjectInfo) (test : Kind → Bool) (o : ℕ) → has_kind test os o ≡ true → o < length os
has_kind-inside os test o h = some_inside os test o (slice_get os o) refl h

pub of_kind : (os : List ObjectInfo) (test : Kind → Bool) (o : ℕ) → has_kind test os o ≡ true → IsOfKind os test o
of_kind os test o h = some_of_kind test (slice_get os o) h

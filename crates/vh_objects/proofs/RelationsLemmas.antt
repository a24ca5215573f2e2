-- Lemmas on `specs/Relations.antt`: the first module around an object.
use Rattle.std.proofs.Common.{◌≡◌, ◌∙◌, ◌<◌, ℕ, Bool, true, false, List, [], ◌∷◌, length, find, cond, IfSome, Option, Some, None, slice_get, unwrap_or, refl, sym, ap, arith}
use Rattle.std.specs.Option.{option_map}
use Rattle.vh_design_nodes.specs.declared.object.Kind.{Kind}
use Rattle.vh_design_nodes.specs.declared.object.ObjectInfo.{ObjectInfo}
use Rattle.vh_design_nodes.specs.Fits.{has_kind}
use Rattle.vh_design_names.specs.Names.{around, scopes_of}
use Rattle.vh_design_names.proofs.NamesLemmas.{scopes_next}

-- The kind of an object that is there.
pub kind_is : (test : Kind → Bool) (os : List ObjectInfo) (o : ℕ) (i : ObjectInfo) → slice_get os o ≡ Some i
    → has_kind test os o ≡ test i.kind
kind_is test os o i at = ap (λ (x : Option ObjectInfo). unwrap_or (option_map (λ (j : ObjectInfo). test j.kind) x) false) at

find_head : (test : ℕ → Bool) (o : ℕ) (ps : List ℕ) (b : Bool) → test o ≡ b
    → find test (o ∷ ps) ≡ cond b (Some o) (find test ps)
find_head test o ps b is = ap (λ (x : Bool). cond x (Some o) (find test ps)) is

-- A scope, and those around it, of which the first is looked for.
pub find_around : (test : Kind → Bool) (os : List ObjectInfo) (o : ℕ) (i : ObjectInfo) (b : Bool) → o < length os
    → slice_get os o ≡ Some i → IfSome i.parent (λ p. p < o) → test i.kind ≡ b
    → find (has_kind test os) (around (scopes_of os) (Some o)) ≡ cond b (Some o) (find (has_kind test os) (around (scopes_of os) i.parent))
find_around test os o i b inside at before is =
    ap (find (has_kind test os)) (sym (scopes_next os o i inside at before))
    ∙ find_head (has_kind test os) o (around (scopes_of os) i.parent) b (kind_is test os o i at ∙ is)

pub still_there : (next : Option ℕ) (p n : ℕ) → p < n → IfSome next (λ q. q < p) → IfSome next (λ q. q < n)
still_there None p n inside h = h
still_there (Some q) p n inside h = omega (arith, h, inside)

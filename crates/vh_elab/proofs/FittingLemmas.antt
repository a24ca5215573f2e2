-- The rules of a design as a test; and what stands behind others.
use Rattle.std.proofs.Common.{◌≤◌, ◌≡◌, ◌+◌, ◌∙◌, ℕ, zero, suc, Bool, true, false, List, [], ◌∷◌, length, Some, refl, sym, ap, arith, ◌&&◌}
use Rattle.std.specs.Prelude.{slice_get, if◌then◌else◌}
use Rattle.vh_design.specs.Shape.{Shape}
use Rattle.vh_design.specs.Validity.{AllFit, IsValid}
use Rattle.vh_design_nodes.specs.declared.expr.ExprNode.{ExprNode}
use Rattle.vh_design_nodes.specs.declared.object.ObjectInfo.{ObjectInfo}
use Rattle.vh_bind.specs.declared.nodes.TheConstants.{MOST_EXPRS}
use Rattle.vh_bind.specs.Nodes.{AreSound}
use Rattle.vh_elab.specs.Fitting.{all_fit, exprs_fit, is_design}
use Rattle.vh_elab.specs.Elaborated.{designed, made, later}

both-of : (a b : Bool) → a && b ≡ true → (a ≡ true) × (b ≡ true)
both-of true true h = (refl, refl)
both-of true false h = absurd (cc)
both-of false b h = absurd (cc)

of-both : (a b : Bool) → a ≡ true → b ≡ true → a && b ≡ true
of-both a b h k = rw h k

-- Each element passes, from a number on.
each-fits : {T : Type 0} (test : ℕ → T → Bool) (k : ℕ) (xs : List T) → all_fit test k xs ≡ true
    → (i : ℕ) (x : T) → slice_get xs i ≡ Some x → test (k + i) x ≡ true
each-fits test k [] h i x at = absurd (cc)
each-fits test k (y ∷ ys) h zero x at =
    let same : y ≡ x = cc in
    let here = (both-of _ _ h).0 in
    let number : k + 0 ≡ k = omega arith in
    rw (sym same, number) here
each-fits test k (y ∷ ys) h (suc i) x at =
    let rest = each-fits test (k + 1) ys (both-of _ _ h).1 i x at in
    let number : k + suc i ≡ k + 1 + i = omega arith in
    ap (λ (n : ℕ). test n x) number ∙ rest

all-fit-of : {T : Type 0} (test : ℕ → T → Bool) (k : ℕ) (xs : List T)
    → ((i : ℕ) (x : T) → slice_get xs i ≡ Some x → test (k + i) x ≡ true) → all_fit test k xs ≡ true
all-fit-of test k [] h = refl
all-fit-of {T} test k (y ∷ ys) h =
    let number : k ≡ k + 0 = omega arith in
    of-both _ _ (ap (λ (n : ℕ). test n y) number ∙ h 0 y refl) (all-fit-of test (k + 1) ys rest)
  where
    rest : (i : ℕ) (x : T) → slice_get ys i ≡ Some x → test (k + 1 + i) x ≡ true
    rest i x at = let number : k + 1 + i ≡ k + suc i = omega arith in ap (λ (n : ℕ). test n x) number ∙ h (suc i) x at

-- The test says just what the rules say.
pub fits_all : {T : Type 0} (test : ℕ → T → Bool) (xs : List T) → all_fit test 0 xs ≡ true → AllFit test xs
fits_all test xs h i x at =
    let number : i ≡ 0 + i = omega arith in
    ap (λ (n : ℕ). test n x) number ∙ each-fits test 0 xs h i x at

pub all_fits : {T : Type 0} (test : ℕ → T → Bool) (xs : List T) → AllFit test xs → all_fit test 0 xs ≡ true
all_fits {T} test xs h = all-fit-of test 0 xs each
  where
    each : (i : ℕ) (x : T) → slice_get xs i ≡ Some x → test (0 + i) x ≡ true
    each i x at = let number : 0 + i ≡ i = omega arith in ap (λ (n : ℕ). test n x) number ∙ h i x at

pub valid-of : (d : Shape) → is_design d ≡ true → IsValid d
valid-of d h =
    let p = both-of _ _ h in
    let nodes = both-of _ _ p.0 in
    let rest = both-of _ _ p.1 in
    let exprs = both-of _ _ nodes.1 in
    let drivers = both-of _ _ exprs.1 in
    let names = both-of _ _ rest.0 in
    let shows = both-of _ _ names.1 in
    let codes = both-of _ _ rest.1 in
    record {
      nodes = record { objects = fits_all _ _ nodes.0; exprs = fits_all _ _ exprs.0; drivers = fits_all _ _ drivers.0; precise = drivers.1 };
      names = record { waits = fits_all _ _ names.0; shows = fits_all _ _ shows.0; stmts = fits_all _ _ shows.1 };
      codes = fits_all _ _ codes.0;
      bodies = fits_all _ _ codes.1;
    }

pub is-valid : (d : Shape) → IsValid d → is_design d ≡ true
is-valid d v =
    of-both _ _
    (of-both _ _ (all_fits _ _ v.nodes.objects)
    (of-both _ _ (all_fits _ _ v.nodes.exprs) (of-both _ _ (all_fits _ _ v.nodes.drivers) v.nodes.precise)))
    (of-both _ _
    (of-both _ _ (all_fits _ _ v.names.waits) (of-both _ _ (all_fits _ _ v.names.shows) (all_fits _ _ v.names.stmts)))
    (of-both _ _ (all_fits _ _ v.codes) (all_fits _ _ v.bodies)))

-- So a design is made exactly where the rules hold.
pub designed_is : (d : Shape) → IsValid d → designed d ≡ made d
designed_is d v = rw (is-valid d v) refl

pub designed_not : (d : Shape) → (IsValid d → ⊥) → designed d ≡ later
designed_not d none = by (is_design d) refl
  where
    by : (b : Bool) → is_design d ≡ b → (if b then made d else later) ≡ later
    by true is = absurd (none (valid-of d is))
    by false is = refl

-- Expressions that fit are sound.
pub sound_of : (os : List ObjectInfo) (precision : ℕ) (ns : List ExprNode)
    → length ns ≤ MOST_EXPRS → exprs_fit os precision ns ≡ true → AreSound os precision ns
sound_of os precision ns small fit = record { fit = fits_all _ _ fit; small = small }

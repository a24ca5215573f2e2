-- The size of the base decides.
use Rattle.std.proofs.Common.{◌≡◌, ◌%◌, ◌∙◌, refl, arith, ◌&&◌, eqb}
use Rattle.std.specs.Prelude.{ℤ, pos}
use Rattle.vh_logic.specs.declared.vector.TheConstants.{MAX_WIDTH}
use Rattle.vh_logic.specs.Vector.{width_of}
use Rattle.vh_logic.specs.Number.{vector_of, signed_integer}
use Rattle.vh_logic.specs.Arithmetic.{reciprocal_power}
use Rattle.vh_logic.proofs.ArithmeticLemmas.{IfSome-integer, reciprocal-none, reciprocal-zero, reciprocal-one, vector_of-number, vector_of-word}
use Rattle.vh_logic.proofs.arithmetic.negative_power.Goals as goal
use Rattle.vh_logic.proofs.arithmetic.negative_power.Goals.{then-base, else-base}

pub returns-then-base-eq0-clause-value : goal.returns-then-base-eq0-clause-value
returns-then-base-eq0-clause-value c =
    IfSome-integer _ _ _ _ _ (λ (z : ℤ). c.unknown.result ≡ vector_of (width_of c.args.a.now) c.args.a.now.signed (reciprocal_power z c.args.exponent))
    c.a.view_is c.a.invariant.2 c.a.invariant.3
    (rw (c.magnitude_of-base.ensures.value, reciprocal-none _ _ c.args.exponent c.if-base-eq0.true) c.unknown.ensures.value)

pub returns-then-base-gt1-clause-value : goal.returns-then-base-gt1-clause-value
returns-then-base-gt1-clause-value c =
    IfSome-integer _ _ _ _ _ (λ (z : ℤ). c.with_number.result ≡ vector_of (width_of c.args.a.now) c.args.a.now.signed (reciprocal_power z c.args.exponent))
    c.a.view_is c.a.invariant.2 c.a.invariant.3
    (rw (c.magnitude_of-base.ensures.value, reciprocal-zero _ _ c.args.exponent c.if-base-gt1.true)
    (c.with_number.ensures.value ∙ vector_of-number _ _ _ _ _ _ (pos 0) c.a.view_is (record { up = 0; down = 0; same = refl })))

pub returns-clause-value : goal.returns-clause-value
returns-clause-value c =
    let one : c.magnitude_of-base.result.size ≡ 1 = omega (arith, c.if-base-eq0.false) in
    let sign : c.if-base.signed_word ≡ (c.magnitude_of-base.result.negative && eqb (c.args.exponent % 2) 1) =
    elim c.if-base.branch [ then-base w ↦ rw w.if-base.true w.signed_word-is | else-base w ↦ rw w.if-base.false (w.signed_word-is ∙ w.if-base.false) ] in
    IfSome-integer _ _ _ _ _ (λ (z : ℤ). c.with_number-2.result ≡ vector_of (width_of c.args.a.now) c.args.a.now.signed (reciprocal_power z c.args.exponent))
    c.a.view_is c.a.invariant.2 c.a.invariant.3
    (rw (c.magnitude_of-base.ensures.value, reciprocal-one c.magnitude_of-base.result.negative _ c.args.exponent one, ← sign)
    (c.with_number-2.ensures.value ∙ vector_of-word _ _ _ MAX_WIDTH _ _ _ (signed_integer c.if-base.signed_word 1) c.a.view_is c.a.invariant.1 c.signed_word.ensures))

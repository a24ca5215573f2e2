-- The machine's power differs from that of the integers by a multiple of 2 ^ width.
use Rattle.std.proofs.Common.{◌≡◌, ap, ◌∙◌, sym, Some}
use Rattle.std.specs.Int.{int_pow}
use Rattle.vh_logic.specs.declared.vector.TheConstants.{MAX_WIDTH}
use Rattle.vh_logic.specs.Vector.{width_of}
use Rattle.vh_logic.specs.Number.{integer_at, integer_of, vector_of}
use Rattle.vh_logic.specs.Arithmetic.{power, reciprocal_power}
use Rattle.vh_logic.proofs.ArithmeticLemmas.{arithmetic-unknown, arithmetic-known, arithmetic-result, Differs-power, power-negative, power-natural}
use Rattle.vh_logic.proofs.NumberLemmas.{integer_at-differs, known_integer, or_zero}
use Rattle.vh_logic.proofs.arithmetic.pow.Goals as goal

pub returns-then-a-b-ne0-clause-value : goal.returns-then-a-b-ne0-clause-value
returns-then-a-b-ne0-clause-value c =
    c.unknown.ensures.value ∙ arithmetic-unknown _ _ _ _ _ _ _ _ _ _ _ c.a.view_is c.b.view_is
    c.a.invariant.2 c.a.invariant.3 c.b.invariant.2 c.b.invariant.3 c.if-a-b-ne0.true

pub returns-then-exponent-clause-value : goal.returns-then-exponent-clause-value
returns-then-exponent-clause-value c =
    let base : integer_of c.args.a.now ≡ Some (integer_at c.a.inside.width c.a.inside.signed c.a.inside.aval) =
    known_integer _ _ _ _ _ c.a.view_is c.a.invariant.2 (or_zero _ _ c.if-a-b-ne0.false).0 in
    let answer = rw base at c.negative_power.ensures.value in
    let is : power (integer_at c.a.inside.width c.a.inside.signed c.a.inside.aval) (integer_at c.b.inside.width c.b.inside.signed c.b.inside.aval)
    ≡ reciprocal_power (integer_at c.a.inside.width c.a.inside.signed c.a.inside.aval) c.magnitude_of-exponent.result.size =
    rw c.magnitude_of-exponent.ensures.value (power-negative _ _ _ c.if-exponent.true (c.magnitude_of-exponent.ensures.negative c.if-exponent.true)) in
    answer ∙ sym (arithmetic-known power _ _ _ _ _ _ _ _ _ _ c.a.view_is c.b.view_is c.a.invariant.2 c.b.invariant.2 c.if-a-b-ne0.false
    ∙ ap (vector_of (width_of c.args.a.now) c.args.a.now.signed) is)

pub returns-else-exponent-clause-value : goal.returns-else-exponent-clause-value
returns-else-exponent-clause-value c =
    let is : power (integer_at c.a.inside.width c.a.inside.signed c.a.inside.aval) (integer_at c.b.inside.width c.b.inside.signed c.b.inside.aval)
    ≡ Some (int_pow (integer_at c.a.inside.width c.a.inside.signed c.a.inside.aval) c.magnitude_of-exponent.result.size) =
    rw c.magnitude_of-exponent.ensures.value (power-natural _ _ _ c.if-exponent.false) in
    c.with_number.ensures.value ∙ rw c.wrapping_power.ensures
    (arithmetic-result power _ _ _ _ _ _ _ MAX_WIDTH _ _ _ _ _ c.a.view_is c.b.view_is c.a.invariant.2 c.b.invariant.2 c.if-a-b-ne0.false
    is c.a.invariant.1 (Differs-power _ _ _ _ (integer_at-differs _ _ _ c.a.invariant.2)))

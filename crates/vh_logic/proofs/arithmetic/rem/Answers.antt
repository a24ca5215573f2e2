-- The remainder of two integers is that of their sizes, with its sign.
use Rattle.std.proofs.Common.{◌≡◌, ◌<◌, ◌%◌, ◌∙◌, sym, refl, arith, Some}
use Rattle.vh_logic.specs.declared.vector.TheConstants.{MAX_WIDTH}
use Rattle.vh_logic.specs.Arithmetic.{remainder}
use Rattle.vh_logic.specs.Number.{integer_at, signed_integer}
use Rattle.vh_logic.proofs.ArithmeticLemmas.{arithmetic-unknown, arithmetic-known, integer_at-zero, arithmetic-word, remainder-signed}
use Rattle.vh_logic.proofs.arithmetic.rem.Goals as goal

pub returns-then-a-b-ne0-clause-value : goal.returns-then-a-b-ne0-clause-value
returns-then-a-b-ne0-clause-value c =
    c.unknown.ensures.value ∙ arithmetic-unknown _ _ _ _ _ _ _ _ _ _ _ c.a.view_is c.b.view_is
    c.a.invariant.2 c.a.invariant.3 c.b.invariant.2 c.b.invariant.3 c.if-a-b-ne0.true

pub returns-then-modulus-eq0-clause-value : goal.returns-then-modulus-eq0-clause-value
returns-then-modulus-eq0-clause-value c =
    c.unknown-then-modulus-eq0.ensures.value ∙ sym (arithmetic-known remainder _ _ _ _ _ _ _ _ _ _ c.a.view_is c.b.view_is c.a.invariant.2 c.b.invariant.2 c.if-a-b-ne0.false
    ∙ rw (c.if-modulus-eq0.true, integer_at-zero c.b.inside.width c.b.inside.signed) refl)

pub returns-clause-value : goal.returns-clause-value
returns-clause-value c =
    let positive : 0 < c.b.inside.aval = omega (arith, c.if-modulus-eq0.false) in
    let left = c.magnitude_of-left.result in
    let right = c.magnitude_of-right.result in
    let is : remainder (integer_at c.a.inside.width c.a.inside.signed c.a.inside.aval) (integer_at c.b.inside.width c.b.inside.signed c.b.inside.aval)
    ≡ Some (signed_integer (left.negative) (left.size % right.size)) =
    rw (c.magnitude_of-left.ensures.value, c.magnitude_of-right.ensures.value) (remainder-signed _ _ _ _ (c.magnitude_of-right.ensures.zero positive)) in
    c.with_number.ensures.value ∙ arithmetic-word remainder _ _ _ _ _ _ MAX_WIDTH _ _ _ _ _ (signed_integer (left.negative) (left.size % right.size))
    c.a.view_is c.b.view_is c.a.invariant.2 c.b.invariant.2 c.if-a-b-ne0.false is c.a.invariant.1 c.signed_word.ensures

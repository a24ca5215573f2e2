-- The machine's word that makes 0 with the number differs from the negative integer by a multiple of 2 ^ width.
use Rattle.std.proofs.Common.{◌∙◌, refl}
use Rattle.vh_logic.specs.declared.vector.TheConstants.{MAX_WIDTH}
use Rattle.vh_logic.proofs.NumberLemmas.{known_integer, unknown_integer, integer_at-differs, Differs-negative}
use Rattle.vh_logic.proofs.ArithmeticLemmas.{vector_of-number}
use Rattle.vh_logic.proofs.arithmetic.negate.Goals as goal

pub returns-then-a-ne0-clause-value : goal.returns-then-a-ne0-clause-value
returns-then-a-ne0-clause-value c =
    c.unknown.ensures.value ∙ rw (unknown_integer _ _ _ _ _ c.a.view_is c.a.invariant.2 c.a.invariant.3 c.if-a-ne0.true) refl

pub returns-clause-value : goal.returns-clause-value
returns-clause-value c =
    c.with_number.ensures.value ∙ rw (known_integer _ _ _ _ _ c.a.view_is c.a.invariant.2 c.if-a-ne0.false)
    (vector_of-number _ _ _ _ _ _ _ c.a.view_is
    (Differs-negative _ MAX_WIDTH _ _ _ c.a.invariant.1 c.wrapping_neg.ensures (integer_at-differs _ _ _ c.a.invariant.2)))

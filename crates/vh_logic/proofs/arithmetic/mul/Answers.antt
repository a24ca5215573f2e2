-- The machine's product differs from that of the integers by a multiple of 2 ^ width.
use Rattle.std.proofs.Common.{◌*ℤ◌, ◌∙◌}
use Rattle.vh_logic.specs.declared.vector.TheConstants.{MAX_WIDTH}
use Rattle.vh_logic.proofs.NumberLemmas.{Differs-product}
use Rattle.vh_logic.proofs.ArithmeticLemmas.{arithmetic-unknown, word-result}
use Rattle.vh_logic.proofs.arithmetic.mul.Goals as goal

pub returns-then-a-b-ne0-clause-value : goal.returns-then-a-b-ne0-clause-value
returns-then-a-b-ne0-clause-value c =
    c.unknown.ensures.value ∙ arithmetic-unknown _ _ _ _ _ _ _ _ _ _ _ c.a.view_is c.b.view_is
    c.a.invariant.2 c.a.invariant.3 c.b.invariant.2 c.b.invariant.3 c.if-a-b-ne0.true

pub returns-clause-value : goal.returns-clause-value
returns-clause-value c =
    c.with_number.ensures.value ∙ word-result ◌*ℤ◌ _ _ _ _ _ _ _ MAX_WIDTH _ _ _ _ c.a.view_is c.b.view_is c.requires.widths
    c.a.invariant.2 c.b.invariant.2 c.if-a-b-ne0.false c.a.invariant.1 (λ below left right. Differs-product _ _ _ _ _ left right)

-- Numbers whose highest bit is turned round are in the order of the signed integers.
use Rattle.std.proofs.Common.{ap, ◌∙◌, sym}
use Rattle.vh_logic.specs.Digit.{test_digit}
use Rattle.vh_logic.proofs.CompareLemmas.{ordering-unknown, ordering-known, order-then, order-else, signs-planes}
use Rattle.vh_logic.proofs.ArithmeticLemmas.{widths-planes}
use Rattle.vh_logic.specs.declared.vector.TheConstants.{MAX_WIDTH}
use Rattle.vh_logic.proofs.compare.less.Goals as goal
use Rattle.vh_logic.proofs.compare.less.Goals.{then-a, else-a}

pub returns-then-a-b-ne0 : goal.returns-then-a-b-ne0
returns-then-a-b-ne0 c =
    ordering-unknown _ _ _ _ _ _ _ _ _ _ c.a.view_is c.b.view_is c.a.invariant.2 c.a.invariant.3 c.b.invariant.2 c.b.invariant.3 c.if-a-b-ne0.true

pub returns : goal.returns
returns c =
    let same = widths-planes _ _ _ _ _ _ _ _ _ _ c.a.view_is c.b.view_is c.requires.widths in
    let signs = signs-planes _ _ _ _ _ _ _ _ _ _ c.a.view_is c.b.view_is c.requires.signs in
    c.from_test.ensures ∙ ap test_digit (elim c.if-a.branch [
      | then-a w ↦ order-then _ MAX_WIDTH _ _ _ _ _ _ same signs w.if-a.true c.a.invariant.0 c.a.invariant.1 w.sign-is c.a.invariant.2 c.b.invariant.2
      | else-a w ↦ order-else _ _ _ _ _ _ _ signs w.if-a.false w.sign-is
    ])
    ∙ sym (ordering-known _ _ _ _ _ _ _ _ _ _ c.a.view_is c.b.view_is c.a.invariant.2 c.b.invariant.2 c.if-a-b-ne0.false)

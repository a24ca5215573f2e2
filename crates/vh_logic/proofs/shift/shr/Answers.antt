-- The bits of both planes move as the digits do.
use Rattle.std.proofs.Common.{ap, ◌∙◌}
use Rattle.vh_logic.proofs.PlanesLemmas.{digits_with}
use Rattle.vh_logic.proofs.PartsLemmas.{positions_known, positions_unknown, digits_of-shr, zeros-moved_down}
use Rattle.vh_logic.proofs.ArithmeticLemmas.{literal-width}
use Rattle.vh_logic.proofs.shift.shr.Goals as goal

pub returns-then-b-ne0-clause-value : goal.returns-then-b-ne0-clause-value
returns-then-b-ne0-clause-value c = rw (positions_unknown _ _ _ _ _ c.b.view_is c.b.invariant.2 c.b.invariant.3 c.if-b-ne0.true) c.unknown.ensures.value

pub returns-then-b-a-clause-value : goal.returns-then-b-a-clause-value
returns-then-b-a-clause-value c =
    rw (positions_known _ _ _ _ _ c.b.view_is c.b.invariant.2 c.if-b-ne0.false)
    (c.with_number.ensures.value ∙ zeros-moved_down _ _ _ _ _ _ c.a.view_is c.if-b-a.true)

pub returns-clause-value : goal.returns-clause-value
returns-clause-value c =
    rw (positions_known _ _ _ _ _ c.b.view_is c.b.invariant.2 c.if-b-ne0.false, ← c.a.view_is)
    ((ap (λ ds. digits_with ds c.a.inside.signed) (digits_of-shr _ _ _ _ c.a.invariant.2 c.a.invariant.3)))

pub returns-clause-width : goal.returns-clause-width
returns-clause-width c = literal-width _ _ _ _ _ _ c.a.view_is

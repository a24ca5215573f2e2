-- A signed vector is extended by its highest digit.
use Rattle.std.proofs.Common.{ap, ◌∙◌, true, false}
use Rattle.vh_logic.proofs.PlanesLemmas.{digits_with}
use Rattle.vh_logic.proofs.PartsLemmas.{digits_of-resized, digits_of-resized_signed}
use Rattle.vh_logic.proofs.parts.resize.Goals as goal
use Rattle.vh_logic.proofs.parts.resize.Goals.{else-a-via-then-a+else-signed, else-a-via-else-a}

pub returns-then-signed-clause-value : goal.returns-then-signed-clause-value
returns-then-signed-clause-value c =
    c.from_planes.ensures.value ∙ rw (← c.a.view_is) (rw (c.if-a.true, c.if-signed.true) (ap (λ ds. digits_with ds true)
    (digits_of-resized_signed c.a.inside.width c.a.inside.aval c.a.inside.bval c.args.width _ _ c.a.invariant.0 c.extended-aval.ensures c.extended-bval.ensures)))

pub returns-clause-value : goal.returns-clause-value
returns-clause-value c =
    c.from_planes-2.ensures.value ∙ rw (← c.a.view_is) (elim c.else-a.branch [
      | else-a-via-then-a+else-signed w ↦
          rw (w.if-a.true, w.if-signed.false) (ap (λ ds. digits_with ds false) (digits_of-resized c.a.inside.width c.a.inside.aval c.a.inside.bval c.args.width c.a.invariant.2 c.a.invariant.3))
      | else-a-via-else-a w ↦
          rw w.if-a.false (ap (λ ds. digits_with ds c.args.signed) (digits_of-resized c.a.inside.width c.a.inside.aval c.a.inside.bval c.args.width c.a.invariant.2 c.a.invariant.3))
    ])

-- The highest bits of both planes fill as the highest digit does.
use Rattle.std.proofs.Common.{ap, ◌∙◌, sym, true}
use Rattle.vh_logic.specs.Vector.{Vector}
use Rattle.vh_logic.proofs.PlanesLemmas.{digits_with}
use Rattle.vh_logic.proofs.PartsLemmas.{positions_known, positions_unknown, digits_of-sshr, shifted_right-unsigned}
use Rattle.vh_logic.proofs.ArithmeticLemmas.{literal-width}
use Rattle.vh_logic.proofs.shift.sshr.Goals as goal

pub returns-then-b-ne0-clause-value : goal.returns-then-b-ne0-clause-value
returns-then-b-ne0-clause-value c = rw (positions_unknown _ _ _ _ _ c.b.view_is c.b.invariant.2 c.b.invariant.3 c.if-b-ne0.true) c.unknown.ensures.value

pub returns-then-not-a-clause-value : goal.returns-then-not-a-clause-value
returns-then-not-a-clause-value c =
    c.shr.ensures.value ∙ shifted_right-unsigned c.args.a.now c.args.b.now (sym (ap (λ (v : Vector). v.signed) c.a.view_is) ∙ c.if-not-a.true)

pub returns-clause-value : goal.returns-clause-value
returns-clause-value c =
    rw (positions_known _ _ _ _ _ c.b.view_is c.b.invariant.2 c.if-b-ne0.false, ← c.a.view_is)
    (rw c.if-not-a.false (ap (λ ds. digits_with ds true) (digits_of-sshr c.a.inside.width c.a.inside.aval c.a.inside.bval
    c.min-positions.result c.b.inside.aval _ _ c.a.invariant.0 c.min-positions.ensures c.moved_down-aval.ensures.bits c.moved_down-bval.ensures.bits)))

pub returns-clause-width : goal.returns-clause-width
returns-clause-width c = literal-width _ _ _ _ _ _ c.a.view_is

use Rattle.std.proofs.Common.{arith, sym, ◌∙◌}
use Rattle.vh_cases_plain.proofs.ViewsLemmas.{held-more, held-same}
use Rattle.vh_cases_plain.proofs.slots.PlainSlots.held.Goals as goal
use Rattle.vh_cases_plain.proofs.slots.PlainSlots.held.Goals.{then-is_held, else-is_held}

pub loop-slot-preserved : goal.loop-slot-preserved
loop-slot-preserved g c =
    let few = c.loop-slot.invariant.0 in
    let inside = c.loop-slot-test.true in
    elim c.if-is_held.branch [
      | then-is_held w ↦ (
        omega (arith, few, w.held-is),
        w.held-is ∙ held-more c.args.self.now.cells c.loop-slot.slot c.loop-slot.held (omega (arith, inside, c.slots-slot-end.ensures))
            (sym c.is_held.ensures ∙ w.if-is_held.true) c.loop-slot.invariant.1,
      )
      | else-is_held w ↦ (
        omega (arith, few, w.held-is),
        w.held-is ∙ held-same c.args.self.now.cells c.loop-slot.slot c.loop-slot.held (omega (arith, inside, c.slots-slot-end.ensures))
            (sym c.is_held.ensures ∙ w.if-is_held.false) c.loop-slot.invariant.1,
      )
    ]

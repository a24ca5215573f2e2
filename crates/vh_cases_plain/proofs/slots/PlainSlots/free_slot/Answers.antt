use Rattle.std.proofs.Common.{arith}
use Rattle.vh_cases_plain.proofs.ViewsLemmas.{none-free}
use Rattle.vh_cases_plain.proofs.slots.PlainSlots.free_slot.Goals as goal

pub returns-clause-none : goal.returns-clause-none
returns-clause-none g c =
    λ _. none-free c.args.self.now.cells (λ k h. c.loop-slot.invariant k (omega (arith, h, c.loop-slot-test.false, c.slots-slot-end.ensures)))

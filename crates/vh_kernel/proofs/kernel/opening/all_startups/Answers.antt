use Rattle.std.proofs.Common.{append_assoc}
use Rattle.vh_kernel.proofs.Opening.{startups_next}
use Rattle.vh_kernel.proofs.kernel.opening.all_startups.Goals as goal

pub loop-i-preserved : goal.loop-i-preserved
loop-i-preserved c =
    rw (c.in_ok-push_back.ensures.items, append_assoc, ← startups_next c.args.scripts c.loop-i.i c.loop-i-test.true) c.loop-i.invariant

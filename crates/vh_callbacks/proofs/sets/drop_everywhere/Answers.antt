use Rattle.std.proofs.Common.{arith}
use Rattle.vh_callbacks.proofs.MarksLemmas.{dropped_more, dropped_all}
use Rattle.vh_callbacks.proofs.sets.drop_everywhere.Goals as goal

pub loop-depth-preserved : goal.loop-depth-preserved
loop-depth-preserved c = λ d.
    dropped_more c.args.c d c.loop-depth.depth c.args.sets.now.items c.loop-depth.sets.items c.drop_at.new.sets.items (c.loop-depth.invariant d) (c.drop_at.ensures d)

pub returns : goal.returns
returns c = λ d.
    dropped_all c.args.c d c.loop-depth.depth c.args.sets.now.items c.loop-depth.sets.items (omega arith) (c.loop-depth.invariant d)

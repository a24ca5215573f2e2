use Rattle.std.proofs.Common.{◌∙◌}
use Rattle.vh_proc.proofs.LoopsLemmas.{next-drop, next-left}
use Rattle.vh_proc.proofs.threads.Threads.leave_all.Goals as goal

pub loop-p-preserved : goal.loop-p-preserved
loop-p-preserved c = record {
  gone = next-left c.args.d.now c.args.target _ _ _ _ _ (next-drop c.args.leaves.now c.loop-p.p-index _ c.loop-p-test.true) c.leave_one.ensures.left ∙ c.loop-p.invariant.gone;
  runs = c.leave_one.ensures.runs;
  now = c.leave_one.ensures.now ∙ c.loop-p.invariant.now;
  waits = c.leave_one.ensures.waits ∙ c.loop-p.invariant.waits;
}

use Rattle.std.proofs.Common.{◌∙◌}
use Rattle.vh_proc.proofs.LoopsLemmas.{next-drop, next-ended}
use Rattle.vh_proc.proofs.threads.Threads.end_all.Goals as goal

pub loop-p-preserved : goal.loop-p-preserved
loop-p-preserved c = record {
  ended = next-ended _ _ _ _ _ (next-drop c.args.ends.now c.loop-p.p-index _ c.loop-p-test.true) c.end_one.ensures.ended ∙ c.loop-p.invariant.ended;
  runs = λ d own. c.end_one.ensures.runs d (c.loop-p.invariant.runs d own);
  now = c.end_one.ensures.now ∙ c.loop-p.invariant.now;
  waits = c.end_one.ensures.waits ∙ c.loop-p.invariant.waits;
}

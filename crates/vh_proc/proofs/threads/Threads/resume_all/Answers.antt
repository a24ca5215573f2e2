use Rattle.std.proofs.Common.{◌∙◌}
use Rattle.vh_proc.proofs.LoopsLemmas.{next-drop, next-resumed}
use Rattle.vh_proc.proofs.threads.Threads.resume_all.Goals as goal

pub loop-p-preserved : goal.loop-p-preserved
loop-p-preserved c = record {
  resumed = next-resumed c.args.own _ _ _ _ _ (next-drop c.args.leaves.now c.loop-p.p-index _ c.loop-p-test.true) c.in_ok-resume_but.ensures.done
      ∙ c.loop-p.invariant.resumed;
  runs = λ d own. c.in_ok-resume_but.ensures.runs d (c.loop-p.invariant.runs d own);
  now = c.in_ok-resume_but.ensures.now ∙ c.loop-p.invariant.now;
}

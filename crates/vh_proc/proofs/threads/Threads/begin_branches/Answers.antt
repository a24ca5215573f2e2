use Rattle.std.proofs.Common.{◌∙◌}
use Rattle.vh_proc.proofs.LoopsLemmas.{next-drop, next-begun}
use Rattle.vh_proc.proofs.threads.Threads.begin_branches.Goals as goal

pub loop-position-preserved : goal.loop-position-preserved
loop-position-preserved c = record {
  begun = next-begun c.args.p _ _ _ _ _ (next-drop c.args.positions.now c.loop-position.position-index _ c.loop-position-test.true) c.in_ok-begin_branch.ensures.done ∙ c.loop-position.invariant.begun;
  runs = λ d own. c.in_ok-begin_branch.ensures.runs d (c.loop-position.invariant.runs d own);
  now = c.in_ok-begin_branch.ensures.now ∙ c.loop-position.invariant.now;
}

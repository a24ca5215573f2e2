use Rattle.std.proofs.Common.{◌∙◌, ◌+◌, ◌∷◌, drop, sym, ap}
use Rattle.vh_design_code.specs.declared.change.Made.{Made}
use Rattle.vh_proc_simulation.proofs.LoopsLemmas.{next-drop, next-entered}
use Rattle.vh_proc_simulation.proofs.entries.enter_all.Goals as goal

pub loop-it-preserved : goal.loop-it-preserved
loop-it-preserved c = record {
  entered = next-entered c.args.d.now c.args.s.now c.it-item.result _ _ _ _
      (next-drop c.args.made.now c.loop-it.it-index c.it-item.result c.loop-it-test.true
      ∙ ap (λ (m : Made). m ∷ drop (c.loop-it.it-index + 1) c.args.made.now) (sym c.it-item.is)) c.in_ok-enter.ensures.done
      ∙ c.loop-it.invariant.entered;
  waits = c.in_ok-enter.ensures.waits ∙ c.loop-it.invariant.waits;
  time = c.in_ok-enter.ensures.now ∙ c.loop-it.invariant.time;
  runs = λ d before. c.in_ok-enter.ensures.runs d (c.loop-it.invariant.runs d before);
}

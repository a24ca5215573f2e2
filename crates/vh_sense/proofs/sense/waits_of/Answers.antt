use Rattle.std.proofs.Common.{◌∙◌}
use Rattle.vh_sense.proofs.ViewsLemmas.{one_wait_more}
use Rattle.vh_sense.proofs.sense.waits_of.Goals as goal

pub loop-w-preserved : goal.loop-w-preserved
loop-w-preserved c =
    c.in_ok-push.ensures.items
    ∙ one_wait_more c.args.d.now.waits c.loop-w.w c.wait.result.now c.in_ok-terms.terms c.loop-w.waits.items
    (rw (← c.new.ensures) c.wait.ensures.value) (c.in_ok-terms.ensures ∙ c.as_slice.ensures) c.loop-w.invariant

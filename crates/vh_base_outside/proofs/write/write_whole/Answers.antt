use Rattle.std.proofs.Common.{arith, ◌∙◌}
use Rattle.vh_base_outside.proofs.Appended.{appended_front, sliced_rest}
use Rattle.vh_base_outside.proofs.write.write_whole.Goals as goal

pub loop-done-preserved : goal.loop-done-preserved
loop-done-preserved g c = (
  omega (arith, c.in_ok-done.ensures.most),
  appended_front _ _ _ _ _ _ (rw sliced_rest at c.in_ok-done.ensures.bytes) c.loop-done.invariant.1,
  c.in_ok-done.ensures.calm (λ e. cc) ∙ c.loop-done.invariant.2,
)

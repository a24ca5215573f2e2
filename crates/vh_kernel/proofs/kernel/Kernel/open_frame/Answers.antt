use Rattle.std.proofs.Common.{◌<◌, ℕ, length, subst}
use Rattle.vh_base.specs.declared.limits.TheConstants.{MOST_FRAMES}
use Rattle.vh_dispatch.proofs.FramesLemmas.{stack_length}
use Rattle.vh_kernel.proofs.kernel.Kernel.open_frame.Goals as goal

pub begin-requires : goal.begin-requires
begin-requires c =
    let world = c.args.self.now.world in
    subst (λ (n : ℕ). n < MOST_FRAMES) (stack_length (length world.dispatch) world.registry.sets) c.requires

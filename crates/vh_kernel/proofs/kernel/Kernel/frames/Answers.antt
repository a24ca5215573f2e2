use Rattle.std.proofs.Common.{length, sym, ◌∙◌}
use Rattle.vh_dispatch.proofs.FramesLemmas.{stack_length}
use Rattle.vh_kernel.proofs.kernel.Kernel.frames.Goals as goal

pub returns-clause-len : goal.returns-clause-len
returns-clause-len c =
    let world = c.args.self.now.world in
    c.len.ensures.len ∙ sym (stack_length (length world.dispatch) world.registry.sets)

use Rattle.std.proofs.Common.{refl}
use Rattle.vh_dispatch.proofs.FramesLemmas.{loses_number}
use Rattle.vh_orders.proofs.world.World.forget.Goals as goal

pub returns : goal.returns
returns c =
    rw (
      c.remove.ensures.callbacks,
      c.free.ensures.frees,
      loses_number c.args.self.now.dispatch c.args.c c.args.self.now.registry c.remove.new.self c.remove.ensures.sets,
    ) refl

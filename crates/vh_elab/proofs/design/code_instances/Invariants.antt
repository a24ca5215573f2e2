use Rattle.std.proofs.Common.{◌≡◌, map, drop}
use Rattle.vh_elab_walk.specs.Views.{placed_seen, source_seen}
use Rattle.vh_elab.specs.Elaborated.{instances_made}
use Rattle.vh_elab.specs.Views.{AreSoundIn, coding_seen, ready_seen}
use Rattle.vh_elab.proofs.design.code_instances.Given as goal

-- What is made of the instances so far, with those that are left, is what is made of all.
abbrev pub invariant-loop-placed : goal.invariant-loop-placed
invariant-loop-placed l = record {
  coded : instances_made (source_seen l.pass.modules) (ready_seen l.pass.ready)
      (map placed_seen (drop l.placed-index l.all)) (coding_seen l.coding)
      ≡ instances_made (source_seen l.pass.modules) (ready_seen l.pass.ready) (map placed_seen l.all) (coding_seen l.initial.coding);
  sound : AreSoundIn l.pass (coding_seen l.coding).added.exprs;
}

use Rattle.std.proofs.Common.{◌≡◌, drop}
use Rattle.vh_elab_cycles.specs.Laid.{see_all}
use Rattle.vh_elab_cycles.specs.Views.{walk_seen}
use Rattle.vh_elab_cycles.proofs.walk.Walk.see_all.Given as goal

-- What is seen so far, with the nodes that are left.
abbrev pub invariant-loop-node : goal.invariant-loop-node
invariant-loop-node l =
    see_all (walk_seen l.self) (drop l.node-index l.nodes) ≡ see_all (walk_seen l.initial.self) l.nodes

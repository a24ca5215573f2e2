use Rattle.std.proofs.Common.{◌≡◌, ◌++◌, drop, map}
use Rattle.vh_elab_cycles.specs.Laid.{depth_behind}
use Rattle.vh_elab_cycles.proofs.depth.depths_behind.Given as goal

-- Those so far, with those of the nodes that are left, are all.
abbrev pub invariant-loop-node : goal.invariant-loop-node
invariant-loop-node l =
    l.found.items ++ map (depth_behind l.base l.depths) (drop l.node-index l.nodes) ≡ map (depth_behind l.base l.depths) l.nodes

use Rattle.std.proofs.Common.{◌≡◌, drop, replicate}
use Rattle.vh_elab_cycles.specs.Laid.{all_deepened, nodes_from}
use Rattle.vh_elab_cycles.specs.Views.{edges_seen}
use Rattle.vh_elab_cycles.proofs.depth.next_depths.Given as goal

-- The edges so far, with those that are left, are all.
abbrev pub invariant-loop-edge : goal.invariant-loop-edge
invariant-loop-edge l =
    all_deepened l.depths l.next.items (edges_seen (drop l.edge-index l.edges))
    ≡ all_deepened l.depths (replicate (nodes_from 0 (edges_seen l.edges)) 0) (edges_seen l.edges)

use Rattle.std.proofs.Common.{◌≡◌, drop}
use Rattle.vh_elab_cycles.specs.Laid.{nodes_from}
use Rattle.vh_elab_cycles.specs.Views.{edges_seen}
use Rattle.vh_elab_cycles.proofs.rows.node_count.Given as goal

-- Those of the edges so far, and of the edges that are left, are those of all.
abbrev pub invariant-loop-edge : goal.invariant-loop-edge
invariant-loop-edge l =
    nodes_from l.count (edges_seen (drop l.edge-index l.edges)) ≡ nodes_from 0 (edges_seen l.edges)

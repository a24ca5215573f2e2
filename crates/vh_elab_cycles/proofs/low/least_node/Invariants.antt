use Rattle.std.proofs.Common.{◌≡◌, drop}
use Rattle.vh_elab_cycles.specs.Laid.{least_from}
use Rattle.vh_elab_cycles.specs.Views.{edges_seen}
use Rattle.vh_elab_cycles.proofs.low.least_node.Given as goal

-- That of the edges so far, and of the edges that are left, is that of all.
abbrev pub invariant-loop-edge : goal.invariant-loop-edge
invariant-loop-edge l =
    least_from l.least (edges_seen (drop l.edge-index l.edges)) ≡ least_from 4294967295 (edges_seen l.edges)

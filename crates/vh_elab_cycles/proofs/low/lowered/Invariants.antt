use Rattle.std.proofs.Common.{◌≡◌, ◌++◌, drop}
use Rattle.vh_elab_cycles.specs.Laid.{raised}
use Rattle.vh_elab_cycles.specs.Views.{edges_seen}
use Rattle.vh_elab_cycles.proofs.low.lowered.Given as goal

-- Those so far, raised, and the edges that are left are all.
abbrev pub invariant-loop-edge : goal.invariant-loop-edge
invariant-loop-edge l =
    raised l.base (edges_seen l.low.items) ++ edges_seen (drop l.edge-index l.edges) ≡ edges_seen l.edges

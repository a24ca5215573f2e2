use Rattle.std.proofs.Common.{◌≡◌, ◌++◌, drop, map, nat_eq}
use Rattle.vh_elab_cycles.specs.Cycles.{is_on_cycle}
use Rattle.vh_elab_cycles.specs.Views.{edges_seen}
use Rattle.vh_elab_cycles.proofs.cycles.on_cycles.Given as goal

-- The answers so far, with those for the edges that are left.
abbrev pub invariant-loop-edge : goal.invariant-loop-edge
invariant-loop-edge l =
    l.on.items ++ map (is_on_cycle nat_eq (edges_seen l.edges)) (edges_seen (drop l.edge-index l.edges))
    ≡ map (is_on_cycle nat_eq (edges_seen l.edges)) (edges_seen l.edges)

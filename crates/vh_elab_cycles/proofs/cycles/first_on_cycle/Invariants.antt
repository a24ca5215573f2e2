use Rattle.std.proofs.Common.{◌≡◌, drop}
use Rattle.vh_elab_cycles.specs.Cycles.{first_from}
use Rattle.vh_elab_cycles.specs.Views.{edges_seen}
use Rattle.vh_elab_cycles.proofs.cycles.first_on_cycle.Given as goal

-- None so far: the first of those that are left is the first of all.
abbrev pub invariant-loop-place : goal.invariant-loop-place
invariant-loop-place l =
    first_from l.place (edges_seen l.edges) (edges_seen (drop l.place l.edges)) ≡ first_from 0 (edges_seen l.edges) (edges_seen l.edges)

use Rattle.std.proofs.Common.{◌≡◌, ◌++◌, drop}
use Rattle.std.specs.Prelude.{map}
use Rattle.vh_elab_cycles.specs.Views.{edges_seen}
use Rattle.vh_elab_modules.specs.Views.{holdings_seen}
use Rattle.vh_elab_modules.proofs.faults.edges_of.Given as goal

-- The edges so far, with those that are left, are all of them.
abbrev pub invariant-loop-holding : goal.invariant-loop-holding
invariant-loop-holding l =
    edges_seen l.edges.items ++ map (λ h. h.0) (holdings_seen (drop l.holding-index l.graph)) ≡ map (λ h. h.0) (holdings_seen l.graph)

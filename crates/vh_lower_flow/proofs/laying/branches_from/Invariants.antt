use Rattle.std.proofs.Common.{◌≡◌, ◌++◌, map, drop}
use Rattle.vh_lower_flow.specs.Trees.{flows}
use Rattle.vh_lower_flow.specs.Laid.{branches_from}
use Rattle.vh_lower_flow.specs.Views.{flow_tree}
use Rattle.vh_lower_flow.proofs.laying.branches_from.Given as goal

-- The positions so far, with those of the branches that are left, are all of them.
abbrev pub invariant-loop-flow : goal.invariant-loop-flow
invariant-loop-flow l =
    l.positions.items ++ branches_from l.position (flows (map flow_tree (drop l.flow-index l.flows)))
    ≡ branches_from l.first (flows (map flow_tree l.flows))

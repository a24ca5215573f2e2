use Rattle.std.proofs.Common.{◌≡◌, ◌+◌, map, drop}
use Rattle.vh_lower_flow.specs.Trees.{flows, row_size}
use Rattle.vh_lower_flow.specs.Views.{flow_tree}
use Rattle.vh_lower_flow.proofs.sizes.row_size.Given as goal

-- The instructions so far, with those of the statements that are left, are those of all.
abbrev pub invariant-loop-flow : goal.invariant-loop-flow
invariant-loop-flow l =
    l.sum + row_size (flows (map flow_tree (drop l.flow-index l.flows))) ≡ row_size (flows (map flow_tree l.flows))

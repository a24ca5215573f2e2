use Rattle.std.proofs.Common.{◌≡◌, ◌++◌, map, drop}
use Rattle.vh_lower_flow.specs.Trees.{case_items}
use Rattle.vh_lower_flow.specs.Laid.{arms_from}
use Rattle.vh_lower_flow.specs.Views.{item_tree}
use Rattle.vh_lower_flow.proofs.laying.arms_from.Given as goal

-- The arms so far, with those of the statements that are left, are all of them.
abbrev pub invariant-loop-item : goal.invariant-loop-item
invariant-loop-item l =
    l.arms.items ++ arms_from l.position l.after (case_items (map item_tree (drop l.item-index l.items)))
    ≡ arms_from l.first l.after (case_items (map item_tree l.items))

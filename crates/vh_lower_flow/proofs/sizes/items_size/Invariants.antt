use Rattle.std.proofs.Common.{◌≡◌, ◌+◌, map, drop}
use Rattle.vh_lower_flow.specs.Trees.{case_items, items_size}
use Rattle.vh_lower_flow.specs.Views.{item_tree}
use Rattle.vh_lower_flow.proofs.sizes.items_size.Given as goal

-- The instructions so far, with those of the statements that are left, are those of all.
abbrev pub invariant-loop-item : goal.invariant-loop-item
invariant-loop-item l =
    l.sum + items_size (case_items (map item_tree (drop l.item-index l.items))) ≡ items_size (case_items (map item_tree l.items))

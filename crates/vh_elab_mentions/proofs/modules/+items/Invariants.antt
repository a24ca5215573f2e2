use Rattle.std.proofs.Common.{◌≡◌, ◌+◌, ◌*◌, drop}
use Rattle.std.specs.Prelude.{map}
use Rattle.vh_ast.specs.Items.{items}
use Rattle.vh_ast.specs.Views.{item_tree}
use Rattle.vh_elab_mentions.specs.Mentions.{items_modules}
use Rattle.vh_elab_mentions.specs.Views.{ids_seen}
use Rattle.vh_elab_mentions.proofs.modules.+items.Given as goal

-- What a function hands on is smaller, or as deep and handed to one further down.
abbrev pub decreases-item_modules : goal.decreases-item_modules
decreases-item_modules l = 4 * goal.size-item_modules l

abbrev pub decreases-else_modules : goal.decreases-else_modules
decreases-else_modules l = 4 * goal.size-else_modules l + 3

abbrev pub decreases-gblock_modules : goal.decreases-gblock_modules
decreases-gblock_modules l = 4 * goal.size-gblock_modules l + 2

abbrev pub decreases-items_modules : goal.decreases-items_modules
decreases-items_modules l = 4 * goal.size-items_modules l + 1

-- The modules so far, with those of what is left, are those of all.
abbrev pub invariant-items_modules-loop-item : goal.invariant-items_modules-loop-item
invariant-items_modules-loop-item l =
    items_modules (items (map item_tree (drop l.item-index l.items))) (ids_seen l.ids.items)
    ≡ items_modules (items (map item_tree l.items)) (ids_seen l.initial.ids.items)

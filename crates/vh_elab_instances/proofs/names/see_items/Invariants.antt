use Rattle.std.proofs.Common.{◌≡◌, ◌++◌, map, drop}
use Rattle.vh_ast.specs.Items.{items}
use Rattle.vh_ast.specs.Views.{item_tree}
use Rattle.vh_elab_ports.specs.Views.{ids_seen}
use Rattle.vh_elab_instances.specs.Instances.{items_ids}
use Rattle.vh_elab_instances.proofs.names.see_items.Given as goal

-- Those so far, with those that are left, are all of them.
abbrev pub invariant-loop-item : goal.invariant-loop-item
invariant-loop-item l =
    ids_seen l.ids.items ++ items_ids (items (map item_tree (drop l.item-index l.items)))
    ≡ ids_seen l.initial.ids.items ++ items_ids (items (map item_tree l.items))

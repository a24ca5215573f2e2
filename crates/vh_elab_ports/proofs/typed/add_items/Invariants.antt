use Rattle.std.proofs.Common.{◌≡◌, ◌++◌, map, drop}
use Rattle.vh_ast.specs.Views.{item_tree}
use Rattle.vh_elab_ports.specs.Ports.{items_typed}
use Rattle.vh_elab_ports.specs.Views.{typed_seen}
use Rattle.vh_elab_ports.proofs.typed.add_items.Given as goal

-- Those so far, with those that are left, are all of them.
abbrev pub invariant-loop-item : goal.invariant-loop-item
invariant-loop-item l =
    map typed_seen l.typed.items ++ items_typed (map item_tree (drop l.item-index l.items))
    ≡ map typed_seen l.initial.typed.items ++ items_typed (map item_tree l.items)

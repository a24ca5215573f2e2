use Rattle.std.proofs.Common.{◌≡◌, ◌++◌, map, drop}
use Rattle.vh_ast.specs.Views.{item_tree}
use Rattle.vh_elab_ports.specs.Ports.{items_gathered, plain_directed}
use Rattle.vh_elab_ports.specs.Views.{directed_seen}
use Rattle.vh_elab_ports.proofs.directed.add_items.Given as goal

-- Those so far, with those that are left, are all of them.
abbrev pub invariant-loop-item : goal.invariant-loop-item
invariant-loop-item l =
    map directed_seen l.all.items
    ++ items_gathered plain_directed (map item_tree (drop l.item-index l.items))
    ≡ map directed_seen l.initial.all.items
    ++ items_gathered plain_directed (map item_tree l.items)

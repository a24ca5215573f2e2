use Rattle.std.proofs.Common.{◌≡◌, ◌++◌, map, drop}
use Rattle.vh_ast.specs.Views.{item_tree}
use Rattle.vh_elab_walk.specs.Overrides.{items_parameters}
use Rattle.vh_elab_walk.specs.Views.{names_seen}
use Rattle.vh_elab_walk.proofs.parameters.add_items.Given as goal

-- Those so far, with those that are left, are all of them.
abbrev pub invariant-loop-item : goal.invariant-loop-item
invariant-loop-item l =
    names_seen l.names.items ++ items_parameters (map item_tree (drop l.item-index l.items))
    ≡ names_seen l.initial.names.items ++ items_parameters (map item_tree l.items)

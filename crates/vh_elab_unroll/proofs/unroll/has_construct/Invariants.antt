use Rattle.std.proofs.Common.{◌≡◌, drop, map}
use Rattle.std.specs.List.{list_any}
use Rattle.vh_ast.specs.Views.{item_tree}
use Rattle.vh_elab_unroll.specs.Constructs.{is_construct}
use Rattle.vh_elab_unroll.proofs.unroll.has_construct.Given as goal

-- None of those so far is one.
abbrev pub invariant-loop-item : goal.invariant-loop-item
invariant-loop-item l =
    list_any is_construct (map item_tree (drop l.item-index l.items)) ≡ list_any is_construct (map item_tree l.items)

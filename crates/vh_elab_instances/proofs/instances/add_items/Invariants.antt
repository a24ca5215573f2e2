use Rattle.std.proofs.Common.{◌≡◌, map, drop}
use Rattle.vh_ast.specs.Items.{items}
use Rattle.vh_ast.specs.Views.{item_tree}
use Rattle.vh_elab_instances.specs.Instances.{own_items}
use Rattle.vh_elab_sites.specs.Views.{sites_seen, around_seen}
use Rattle.vh_elab_instances.proofs.instances.add_items.Given as goal

-- Those so far, with those that are left, are all of them.
abbrev pub invariant-loop-item : goal.invariant-loop-item
invariant-loop-item l =
    own_items (around_seen l.around_it) (items (map item_tree (drop l.item-index l.items)))
    (sites_seen l.sites)
    ≡ own_items (around_seen l.around_it) (items (map item_tree l.items))
    (sites_seen l.initial.sites)

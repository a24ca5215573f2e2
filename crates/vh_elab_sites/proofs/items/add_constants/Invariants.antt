use Rattle.std.proofs.Common.{◌≡◌, map, drop}
use Rattle.vh_ast.specs.Views.{assigned_tree, type_tree}
use Rattle.vh_elab_sites.specs.Sites.{each, constant_site}
use Rattle.vh_elab_sites.specs.Views.{sites_seen}
use Rattle.vh_elab_sites.proofs.items.add_constants.Given as goal

-- Those so far, with those that are left, are all of them.
abbrev pub invariant-loop-assigned : goal.invariant-loop-assigned
invariant-loop-assigned l =
    each (constant_site l.scope l.word (type_tree l.data_type))
    (map assigned_tree (drop l.assigned-index l.all)) (sites_seen l.sites)
    ≡ each (constant_site l.scope l.word (type_tree l.data_type)) (map assigned_tree l.all)
    (sites_seen l.initial.sites)

use Rattle.std.proofs.Common.{◌≡◌, drop}
use Rattle.vh_ast.specs.Views.{type_tree}
use Rattle.vh_elab_sites.specs.Sites.{each, port_id}
use Rattle.vh_elab_sites.specs.Views.{sites_seen, around_seen}
use Rattle.vh_elab_sites.proofs.items.add_directed.Given as goal

-- Those so far, with those that are left, are all of them.
abbrev pub invariant-loop-id : goal.invariant-loop-id
invariant-loop-id l =
    each (port_id (around_seen l.around_it) l.direction l.port_type (type_tree l.data_type))
    (drop l.id-index l.ids) (sites_seen l.sites)
    ≡ each (port_id (around_seen l.around_it) l.direction l.port_type (type_tree l.data_type))
    l.ids (sites_seen l.initial.sites)

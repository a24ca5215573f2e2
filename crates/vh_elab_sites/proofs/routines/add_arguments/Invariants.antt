use Rattle.std.proofs.Common.{◌≡◌, drop}
use Rattle.vh_elab_sites.specs.Sites.{each, argument_site}
use Rattle.vh_elab_sites.specs.Views.{sites_seen, var_type_seen}
use Rattle.vh_elab_sites.proofs.routines.add_arguments.Given as goal

-- Those so far, with those that are left, are all of them.
abbrev pub invariant-loop-id : goal.invariant-loop-id
invariant-loop-id l =
    each (argument_site l.scope l.direction (var_type_seen l.var_type)) (drop l.id-index l.ids)
    (sites_seen l.sites)
    ≡ each (argument_site l.scope l.direction (var_type_seen l.var_type)) l.ids
    (sites_seen l.initial.sites)

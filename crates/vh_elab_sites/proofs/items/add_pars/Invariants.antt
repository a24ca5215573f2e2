use Rattle.std.proofs.Common.{◌≡◌, map, drop, None}
use Rattle.vh_ast.specs.Views.{par_tree}
use Rattle.vh_elab_sites.specs.Sites.{pars_sites}
use Rattle.vh_elab_ports.specs.Views.{data_type_seen}
use Rattle.vh_elab_sites.specs.Views.{sites_seen}
use Rattle.vh_elab_sites.proofs.items.add_pars.Given as goal

-- Those so far, with those that are left, are all of them.
abbrev pub invariant-loop-par : goal.invariant-loop-par
invariant-loop-par l =
    pars_sites l.scope (data_type_seen l.last) (map par_tree (drop l.par-index l.pars))
    (sites_seen l.sites)
    ≡ pars_sites l.scope None (map par_tree l.pars) (sites_seen l.initial.sites)

use Rattle.std.proofs.Common.{◌≡◌, map, drop}
use Rattle.vh_ast.specs.Views.{init_tree}
use Rattle.vh_elab_sites.specs.Sites.{each, init_site}
use Rattle.vh_elab_sites.specs.Views.{sites_seen, var_type_seen}
use Rattle.vh_elab_sites.proofs.decls.add_inits.Given as goal

-- Those so far, with those that are left, are all of them.
abbrev pub invariant-loop-init : goal.invariant-loop-init
invariant-loop-init l =
    each (init_site l.scope (var_type_seen l.var_type)) (map init_tree (drop l.init-index l.inits))
    (sites_seen l.sites)
    ≡ each (init_site l.scope (var_type_seen l.var_type)) (map init_tree l.inits)
    (sites_seen l.initial.sites)

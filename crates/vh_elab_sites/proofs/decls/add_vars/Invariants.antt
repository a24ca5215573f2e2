use Rattle.std.proofs.Common.{◌≡◌, map, drop}
use Rattle.vh_ast.specs.Views.{type_tree, var_tree}
use Rattle.vh_elab_sites.specs.Sites.{each, var_site}
use Rattle.vh_elab_sites.specs.Views.{home_seen, sites_seen}
use Rattle.vh_elab_sites.proofs.decls.add_vars.Given as goal

-- Those so far, with those that are left, are all of them.
abbrev pub invariant-loop-var : goal.invariant-loop-var
invariant-loop-var l =
    each (var_site (home_seen l.home) l.scope (type_tree l.data_type))
    (map var_tree (drop l.var-index l.vars)) (sites_seen l.sites)
    ≡ each (var_site (home_seen l.home) l.scope (type_tree l.data_type)) (map var_tree l.vars)
    (sites_seen l.initial.sites)

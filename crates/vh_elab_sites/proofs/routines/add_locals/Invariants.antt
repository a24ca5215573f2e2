use Rattle.std.proofs.Common.{◌≡◌, map, drop}
use Rattle.vh_ast.specs.Views.{local_tree}
use Rattle.vh_elab_sites.specs.Sites.{each, local_sites}
use Rattle.vh_elab_sites.specs.Views.{sites_seen}
use Rattle.vh_elab_sites.proofs.routines.add_locals.Given as goal

-- Those so far, with those that are left, are all of them.
abbrev pub invariant-loop-local : goal.invariant-loop-local
invariant-loop-local l =
    each (local_sites l.scope) (map local_tree (drop l.local-index l.locals)) (sites_seen l.sites)
    ≡ each (local_sites l.scope) (map local_tree l.locals) (sites_seen l.initial.sites)

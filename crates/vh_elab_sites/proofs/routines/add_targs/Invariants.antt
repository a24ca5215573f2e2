use Rattle.std.proofs.Common.{◌≡◌, map, drop}
use Rattle.vh_ast.specs.Views.{targ_tree}
use Rattle.vh_elab_sites.specs.Sites.{each, targ_sites}
use Rattle.vh_elab_sites.specs.Views.{sites_seen}
use Rattle.vh_elab_sites.proofs.routines.add_targs.Given as goal

-- Those so far, with those that are left, are all of them.
abbrev pub invariant-loop-targ : goal.invariant-loop-targ
invariant-loop-targ l =
    each (targ_sites l.scope) (map targ_tree (drop l.targ-index l.targs)) (sites_seen l.sites)
    ≡ each (targ_sites l.scope) (map targ_tree l.targs) (sites_seen l.initial.sites)

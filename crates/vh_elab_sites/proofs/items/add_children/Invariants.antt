use Rattle.std.proofs.Common.{◌≡◌, map, drop}
use Rattle.vh_ast.specs.Views.{conn_tree, inst_tree}
use Rattle.vh_elab_sites.specs.Sites.{each, child_site}
use Rattle.vh_elab_sites.specs.Views.{sites_seen, around_seen}
use Rattle.vh_elab_sites.proofs.items.add_children.Given as goal

-- Those so far, with those that are left, are all of them.
abbrev pub invariant-loop-inst : goal.invariant-loop-inst
invariant-loop-inst l =
    each (child_site (around_seen l.around_it) l.module (map conn_tree l.parameters))
    (map inst_tree (drop l.inst-index l.insts)) (sites_seen l.sites)
    ≡ each (child_site (around_seen l.around_it) l.module (map conn_tree l.parameters))
    (map inst_tree l.insts) (sites_seen l.initial.sites)

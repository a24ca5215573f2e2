use Rattle.std.proofs.Common.{◌≡◌, map, drop, None}
use Rattle.vh_ast.specs.Views.{decl_tree}
use Rattle.vh_elab_sites.specs.Sites.{each, decl_sites}
use Rattle.vh_elab_sites.specs.Views.{sites_seen}
use Rattle.vh_elab_sites.proofs.decls.add_decls.Given as goal

-- Those so far, with those that are left, are all of them.
abbrev pub invariant-loop-decl : goal.invariant-loop-decl
invariant-loop-decl l =
    each (decl_sites None l.scope) (map decl_tree (drop l.decl-index l.decls)) (sites_seen l.sites)
    ≡ each (decl_sites None l.scope) (map decl_tree l.decls) (sites_seen l.initial.sites)

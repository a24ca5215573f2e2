use Rattle.std.proofs.Common.{◌≡◌, map, drop}
use Rattle.vh_ast.specs.Statements.{stmts, citems}
use Rattle.vh_ast.specs.Views.{citem_tree, stmt_tree}
use Rattle.vh_elab_sites.specs.Sites.{stmts_sites, citems_sites}
use Rattle.vh_elab_sites.specs.Views.{sites_seen}
use Rattle.vh_elab_sites.proofs.stmts.+stmts.Given as goal

-- Those so far, with those that are left, are all of them.
abbrev pub invariant-add_stmts-loop-stmt : goal.invariant-add_stmts-loop-stmt
invariant-add_stmts-loop-stmt l =
    stmts_sites l.scope (stmts (map stmt_tree (drop l.stmt-index l.stmts))) (sites_seen l.sites)
    ≡ stmts_sites l.scope (stmts (map stmt_tree l.stmts)) (sites_seen l.initial.sites)

-- Those so far, with those that are left, are all of them.
abbrev pub invariant-add_citems-loop-citem : goal.invariant-add_citems-loop-citem
invariant-add_citems-loop-citem l =
    citems_sites l.scope (citems (map citem_tree (drop l.citem-index l.citems)))
    (sites_seen l.sites)
    ≡ citems_sites l.scope (citems (map citem_tree l.citems)) (sites_seen l.initial.sites)

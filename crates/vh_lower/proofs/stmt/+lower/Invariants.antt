use Rattle.std.proofs.Common.{◌≡◌, [], map, drop}
use Rattle.vh_ast.specs.Statements.{stmts, citems}
use Rattle.vh_ast.specs.Views.{stmt_tree, citem_tree}
use Rattle.vh_lower.specs.Statements.{stmts_flow, items_flow}
use Rattle.vh_lower.specs.Views.{HasSound, IsSame, added_of, around_of, cases_seen, flows_seen}
use Rattle.vh_lower.proofs.stmt.+lower.Given as goal

-- The statements so far, with those that are left, are all of them.
abbrev pub invariant-lower_row-loop-stmt : goal.invariant-lower_row-loop-stmt
invariant-lower_row-loop-stmt l = record {
  made : stmts_flow (around_of l.initial.maker) (flows_seen l.row) (stmts (map stmt_tree (drop l.stmt-index l.stmts))) (added_of l.maker)
      ≡ stmts_flow (around_of l.initial.maker) [] (stmts (map stmt_tree l.stmts)) (added_of l.initial.maker);
  sound : HasSound l.initial.maker (added_of l.maker);
  same : IsSame l.initial.maker l.maker;
}

-- The same of those of a `case`.
abbrev pub invariant-lower_items-loop-citem : goal.invariant-lower_items-loop-citem
invariant-lower_items-loop-citem l = record {
  made : items_flow (around_of l.initial.maker) (cases_seen l.cases) (citems (map citem_tree (drop l.citem-index l.citems))) (added_of l.maker)
      ≡ items_flow (around_of l.initial.maker) (cases_seen l.initial.cases) (citems (map citem_tree l.citems)) (added_of l.initial.maker);
  sound : HasSound l.initial.maker (added_of l.maker);
  same : IsSame l.initial.maker l.maker;
}

-- How contracts see what the code holds.
use Rattle.std.specs.Prelude.{List, map, Option, option_map}
use Rattle.vh_base.specs.declared.place.Place.{Place}
use Rattle.vh_ast.specs.declared.token.Id.{Id}
use Rattle.vh_ast.specs.declared.timing.Delay.{Delay}
use Rattle.vh_ast.specs.declared.expr.Expr.{Expr}
use Rattle.vh_ast.specs.declared.stmt.Stmt.{Stmt}
use Rattle.vh_ast.specs.declared.stmt.Citem.{Citem}
use Rattle.vh_ast.specs.Expressions.{ExprTree}
use Rattle.vh_ast.specs.Declarations.{DeclTree}
use Rattle.vh_ast.specs.Statements.{DelayTree, SetTree, StmtTree, CitemTree}
use Rattle.vh_ast.specs.Views.{expr_tree, decl_tree, delay_tree, set_tree, stmt_tree, citem_tree}
use Rattle.vh_parse_expr.specs.Views.{exprs_seen}
use Rattle.vh_parse_stmt.specs.declared.head.ForHead.{ForHead}
use Rattle.vh_parse_stmt.specs.declared.head.Naming.{Naming}
use Rattle.vh_parse_stmt.specs.declared.head.Values.{Values}

-- A value, with the delay in front of it if there is one (own).
abbrev pub value_pair : Option Delay × Expr → Option DelayTree × ExprTree
value_pair v = (option_map delay_tree v.0, expr_tree v.1)

-- Arguments of a system task, each of which may be absent (own).
abbrev pub slots_seen : List (Option Expr) → List (Option ExprTree)
slots_seen = map (option_map expr_tree)

-- What stands in front of a statement (own).
abbrev pub head_tree : ForHead → SetTree × (ExprTree × SetTree)
head_tree h = (set_tree h.start, (expr_tree h.test, set_tree h.step))

abbrev pub naming_tree : Naming → Id × List DeclTree
naming_tree l = (l.id, map decl_tree l.decls)

abbrev pub values_tree : Values → Place × List ExprTree
values_tree v = (v.place, exprs_seen v.all)

-- Statements, and those of a case (own).
abbrev pub stmts_seen : List Stmt → List StmtTree
stmts_seen = map stmt_tree

abbrev pub citems_seen : List (Citem Stmt) → List CitemTree
citems_seen = map citem_tree

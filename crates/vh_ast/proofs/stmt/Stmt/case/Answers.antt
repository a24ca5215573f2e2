use Rattle.vh_ast.proofs.ViewsLemmas.{stmt_tree-Case}
use Rattle.vh_ast.proofs.stmt.Stmt.case.Goals as goal

pub returns : goal.returns
returns c = stmt_tree-Case _ _ _ _

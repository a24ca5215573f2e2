use Rattle.vh_ast.proofs.ViewsLemmas.{expr_tree-Call}
use Rattle.vh_ast.proofs.expr.Expr.called.Goals as goal

pub returns : goal.returns
returns c = rw c.get.ensures (expr_tree-Call _ _ _)

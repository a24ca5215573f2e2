use Rattle.vh_ast.proofs.ViewsLemmas.{expr_tree-Name}
use Rattle.vh_ast.proofs.expr.Expr.named.Goals as goal

pub returns : goal.returns
returns c = rw c.get.ensures (expr_tree-Name _ _ _)

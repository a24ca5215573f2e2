use Rattle.vh_ast.proofs.ViewsLemmas.{chained-some}
use Rattle.vh_ast.proofs.expr.Expr.chained.Goals as goal

-- With an operator it is a chain.
pub returns : goal.returns
returns c = chained-some _ _ _ c.in_ok-new.ensures c.if-is_empty.ensures

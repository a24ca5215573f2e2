-- With an operator it is a chain.
use Rattle.std.proofs.Common.{refl}
use Rattle.vh_ast.proofs.ViewsLemmas.{chained-some}
use Rattle.vh_parse_expr.proofs.made.chained.Goals as goal

pub returns : goal.returns
returns c = rw (c.in_ok-new.ensures, c.get.ensures) (chained-some c.args.first c.args.first c.args.links refl c.if-is_empty.ensures)

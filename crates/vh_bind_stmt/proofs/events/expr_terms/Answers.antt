use Rattle.std.proofs.Common.{rules}
use Rattle.vh_bind.proofs.TreesLemmas.{tree-of}
use Rattle.vh_bind_stmt.proofs.events.expr_terms.Goals as goal

pub returns-in-Name : goal.returns-in-Name
returns-in-Name c = rw (tree-of c.args.ev.now.expr _ _ c.in-Primary.is c.in-Name.is) (search rules)

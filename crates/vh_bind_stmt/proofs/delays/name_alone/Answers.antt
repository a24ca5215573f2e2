use Rattle.vh_bind.specs.Views.{scope_seen}
use Rattle.vh_bind_expr.proofs.ReadsLemmas.{alone-readable}
use Rattle.vh_bind_stmt.proofs.delays.name_alone.Goals as goal

pub returns-clause-kind : goal.returns-clause-kind
returns-clause-kind c = rw c.alone_read.ensures (alone-readable (scope_seen c.args.scope.now) c.as_slice.result.now)

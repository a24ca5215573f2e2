use Rattle.vh_bind.specs.Views.{scope_seen}
use Rattle.vh_bind_expr.proofs.ReadsLemmas.{path-readable}
use Rattle.vh_bind_expr.proofs.names.path_named.Goals as goal

pub returns-clause-kind : goal.returns-clause-kind
returns-clause-kind c = rw c.path_read.ensures (path-readable (scope_seen c.args.here.now) c.in_ok-meaning.meaning)

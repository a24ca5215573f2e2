use Rattle.vh_bind.specs.Views.{scope_seen}
use Rattle.vh_bind_expr.proofs.ReadsLemmas.{called-callable}
use Rattle.vh_bind_expr.proofs.names.function_called.Goals as goal

pub returns-clause-kinds : goal.returns-clause-kinds
returns-clause-kinds c = called-callable (scope_seen c.args.scope.now) _ _ _ _ _ c.function_meant.ensures c.called.ensures

use Rattle.std.proofs.Common.{◌∙◌, ap, length}
use Rattle.std.specs.Prelude.{bytes_eq}
use Rattle.vh_bind.specs.Constants.{time_name}
use Rattle.vh_bind.specs.Views.{scope_seen}
use Rattle.vh_bind_expr.proofs.NamesLemmas.{time-argument}
use Rattle.vh_bind_expr.proofs.reads.push_system.Goals as goal

pub returns-then-count-ne0-clause-step : goal.returns-then-count-ne0-clause-step
returns-then-count-ne0-clause-step c =
    time-argument (bytes_eq c.args.id.now.name time_name) (scope_seen c.args.scope.now) c.args.id.now.place
    c.args.arguments.now c.args.nodes.now.items (λ nil. c.if-count-ne0.true (ap length (c.as_slice-arguments.ensures ∙ nil)))

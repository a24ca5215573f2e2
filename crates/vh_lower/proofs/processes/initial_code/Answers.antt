use Rattle.vh_ast.specs.Views.{expr_tree}
use Rattle.vh_lower.specs.Views.{added_of, around_of}
use Rattle.vh_lower.proofs.MeasuredLemmas.{initial-closed}
use Rattle.vh_lower.proofs.processes.initial_code.Goals as goal

pub returns-clause-closed : goal.returns-clause-closed
returns-clause-closed c =
    let a = c.args in
    initial-closed (around_of a.maker.now) a.object (expr_tree a.value.now) (added_of a.maker.now) c.laid_value.result
    (added_of c.laid_value.new.maker) c.laid_value.ensures.made

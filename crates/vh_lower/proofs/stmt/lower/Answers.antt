use Rattle.vh_ast.specs.Views.{stmt_tree}
use Rattle.vh_lower.specs.Views.{added_of, around_of}
use Rattle.vh_lower.proofs.MeasuredLemmas.{lowered-closed}
use Rattle.vh_lower.proofs.stmt.lower.Goals as goal

pub returns-clause-closed : goal.returns-clause-closed
returns-clause-closed c =
    let a = c.args in
    lowered-closed a.kind (around_of a.maker.now) (stmt_tree a.stmt.now) (added_of a.maker.now) c.laid_statement.result
    (added_of c.laid_statement.new.maker) c.laid_statement.ensures.made

use Rattle.std.specs.Option.{option_map}
use Rattle.vh_ast.specs.Views.{delay_tree, expr_tree}
use Rattle.vh_lower.specs.Views.{added_of, around_of}
use Rattle.vh_lower.proofs.MeasuredLemmas.{drive-closed}
use Rattle.vh_lower.proofs.processes.drive_code.Goals as goal

pub returns-clause-closed : goal.returns-clause-closed
returns-clause-closed c =
    let a = c.args in
    drive-closed (around_of a.maker.now) a.drivers (option_map delay_tree a.delay.now) (expr_tree a.value.now)
    (added_of a.maker.now) c.laid_assignment.result (added_of c.laid_assignment.new.maker) c.laid_assignment.ensures.made

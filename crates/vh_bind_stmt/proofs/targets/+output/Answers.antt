use Rattle.std.proofs.Common.{rules}
use Rattle.vh_bind.proofs.TreesLemmas.{tree-of}
use Rattle.vh_bind_stmt.proofs.targets.+output.Goals as goal

pub output_pieces-returns-in-Name-clause-step : goal.output_pieces-returns-in-Name-clause-step
output_pieces-returns-in-Name-clause-step t c =
    rw (tree-of c.args.e.now _ _ c.in-Primary.is c.in-Name.is) (search rules)

pub output_pieces-returns-in-Concat-clause-step : goal.output_pieces-returns-in-Concat-clause-step
output_pieces-returns-in-Concat-clause-step t c =
    rw (tree-of c.args.e.now _ _ c.in-Primary.is c.in-Concat.is) (search rules)

-- What is read from the start on is what is read from here on.
use Rattle.std.proofs.Common.{◌≡◌, length}
use Rattle.vh_parse_expr.specs.Pieces.{rows_of}
use Rattle.vh_parse_expr.specs.Views.{read_from, row_tree}
use Rattle.vh_parse_expr.proofs.targets.row_rest.Given as goal

abbrev pub invariant-row : goal.invariant-row
invariant-row l = read_from l.depth (rows_of l.calls (row_tree l.initial.row)) l.initial.rest ≡ read_from l.depth (rows_of l.calls (row_tree l.row)) l.rest

abbrev pub decreases-row : goal.decreases-row
decreases-row l = length l.rest.tokens.now

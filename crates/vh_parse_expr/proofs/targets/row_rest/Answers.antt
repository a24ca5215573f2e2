-- A row goes on by a turn.
use Rattle.std.proofs.Common.{sym, ◌∙◌}
use Rattle.vh_parse_expr.proofs.Loops.{fewer, row_goes_on, row_less}
use Rattle.vh_parse_expr.proofs.targets.row_rest.Goals as goal

pub row-smaller : goal.row-smaller
row-smaller c = fewer _ _ (row_less _ _ _ _ _ _ _ c.in_ok-rest.ensures)

pub row-preserved : goal.row-preserved
row-preserved c = c.row.invariant ∙ row_goes_on _ _ _ _ _ _ _ _ (sym c.row-test.ensures) c.in_ok-rest.ensures

-- Arguments go on by one.
use Rattle.std.proofs.Common.{sym, ◌∙◌}
use Rattle.vh_parse_expr.proofs.Loops.{fewer}
use Rattle.vh_parse_parts.proofs.Loops.{targs_go_on, targ_less}
use Rattle.vh_parse_parts.proofs.targs.more_targs.Goals as goal

pub targs-smaller : goal.targs-smaller
targs-smaller c = fewer _ _ (targ_less _ _ _ _ _ _ c.in_ok-longer.ensures)

pub targs-preserved : goal.targs-preserved
targs-preserved c = c.targs.invariant ∙ targs_go_on _ _ _ _ _ _ _ (sym c.targs-test.ensures) c.in_ok-longer.ensures

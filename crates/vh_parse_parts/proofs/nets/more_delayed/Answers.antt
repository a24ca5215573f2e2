-- Nets go on by one.
use Rattle.std.proofs.Common.{sym, ◌∙◌}
use Rattle.vh_parse_expr.proofs.Loops.{fewer}
use Rattle.vh_parse_parts.proofs.Loops.{delayed_go_on, delayed_less}
use Rattle.vh_parse_parts.proofs.nets.more_delayed.Goals as goal

pub nets-smaller : goal.nets-smaller
nets-smaller c = fewer _ _ (delayed_less _ _ _ _ _ _ c.in_ok-longer.ensures)

pub nets-preserved : goal.nets-preserved
nets-preserved c = c.nets.invariant ∙ delayed_go_on _ _ _ _ _ _ _ (sym c.nets-test.ensures) c.in_ok-longer.ensures

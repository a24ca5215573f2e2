-- Ports go on by one.
use Rattle.std.proofs.Common.{sym, ◌∙◌}
use Rattle.vh_parse_expr.proofs.Loops.{fewer}
use Rattle.vh_parse_parts.proofs.Loops.{ports_go_on, port_less}
use Rattle.vh_parse_parts.proofs.port.more_ports.Goals as goal

pub ports-smaller : goal.ports-smaller
ports-smaller c = fewer _ _ (port_less _ _ _ _ _ _ c.in_ok-longer.ensures)

pub ports-preserved : goal.ports-preserved
ports-preserved c = c.ports.invariant ∙ ports_go_on _ _ _ _ _ _ _ (sym c.ports-test.ensures) c.in_ok-longer.ensures

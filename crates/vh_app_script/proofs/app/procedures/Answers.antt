-- Procedures go on by one.
use Rattle.std.proofs.Common.{sym, ◌∙◌}
use Rattle.vh_app_script.proofs.Loops.{fewer, procedures_go_on, procedure_less}
use Rattle.vh_app_script.proofs.app.procedures.Goals as goal

pub procedures-smaller : goal.procedures-smaller
procedures-smaller c = fewer _ _ (procedure_less _ _ _ _ _ _ c.in_ok-rest.ensures)

pub procedures-preserved : goal.procedures-preserved
procedures-preserved c = c.procedures.invariant ∙ procedures_go_on _ _ _ _ _ _ (sym c.procedures-test.ensures) c.in_ok-rest.ensures

-- Declarations go on by one.
use Rattle.std.proofs.Common.{sym, ◌∙◌}
use Rattle.vh_app_script.proofs.Loops.{fewer, declarations_go_on, declaration_less}
use Rattle.vh_app_script.proofs.app.declarations.Goals as goal

pub declarations-smaller : goal.declarations-smaller
declarations-smaller c = fewer _ _ (declaration_less _ _ _ _ _ _ c.in_ok-rest.ensures)

pub declarations-preserved : goal.declarations-preserved
declarations-preserved c = c.declarations.invariant ∙ declarations_go_on _ _ _ _ _ _ (sym c.declarations-test.ensures) c.in_ok-rest.ensures

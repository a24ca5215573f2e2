use Rattle.vh_design_code.specs.Codes.{fits_statement}
use Rattle.vh_design.proofs.ValidityLemmas.{FitBelow}
use Rattle.vh_design.proofs.fitting.stmts_fit.Given as goal

abbrev pub invariant-loop-statement : goal.invariant-loop-statement
invariant-loop-statement l = FitBelow (λ k. fits_statement l.objects) l.stmts l.statement-index

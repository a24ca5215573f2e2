use Rattle.vh_design_code.specs.Codes.{fits_code}
use Rattle.vh_design.proofs.ValidityLemmas.{FitBelow}
use Rattle.vh_design.proofs.fitting.codes_fit.Given as goal

abbrev pub invariant-loop-code : goal.invariant-loop-code
invariant-loop-code l = FitBelow (λ k. fits_code l.objects l.exprs l.drivers l.limits) l.codes l.code-index

use Rattle.vh_design_code.specs.Codes.{fits_wait}
use Rattle.vh_design.proofs.ValidityLemmas.{FitBelow}
use Rattle.vh_design.proofs.fitting.waits_fit.Given as goal

abbrev pub invariant-loop-wait : goal.invariant-loop-wait
invariant-loop-wait l = FitBelow (λ k. fits_wait l.objects) l.waits l.wait-index

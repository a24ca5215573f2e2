use Rattle.std.proofs.Common.{length}
use Rattle.vh_design_code.specs.Codes.{fits_show}
use Rattle.vh_design.proofs.ValidityLemmas.{FitBelow}
use Rattle.vh_design.proofs.fitting.shows_fit.Given as goal

abbrev pub invariant-loop-show : goal.invariant-loop-show
invariant-loop-show l = FitBelow (λ k. fits_show l.objects (length l.exprs) l.precision) l.shows l.show-index

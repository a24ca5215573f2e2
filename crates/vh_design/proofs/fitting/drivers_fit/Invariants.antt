use Rattle.vh_design_nodes.specs.Fits.{fits_driver}
use Rattle.vh_design.proofs.ValidityLemmas.{FitBelow}
use Rattle.vh_design.proofs.fitting.drivers_fit.Given as goal

abbrev pub invariant-loop-driver : goal.invariant-loop-driver
invariant-loop-driver l = FitBelow (λ x. fits_driver l.objects) l.drivers l.driver-index

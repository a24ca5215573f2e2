use Rattle.vh_design_nodes.specs.Fits.{fits_object}
use Rattle.vh_design.proofs.ValidityLemmas.{FitBelow}
use Rattle.vh_design.proofs.fitting.objects_fit.Given as goal

abbrev pub invariant-loop-o : goal.invariant-loop-o
invariant-loop-o l = FitBelow (fits_object l.exprs l.bodies l.objects) l.objects l.o

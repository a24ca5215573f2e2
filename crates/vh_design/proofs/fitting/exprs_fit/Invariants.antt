use Rattle.vh_design_nodes.specs.Fits.{fits_node}
use Rattle.vh_design.proofs.ValidityLemmas.{FitBelow}
use Rattle.vh_design.proofs.fitting.exprs_fit.Given as goal

abbrev pub invariant-loop-e : goal.invariant-loop-e
invariant-loop-e l = FitBelow (fits_node l.exprs l.objects l.precision) l.exprs l.e

use Rattle.std.proofs.Common.{◌≡◌, drop}
use Rattle.vh_design_nodes.specs.Fits.{fits_node}
use Rattle.vh_elab.specs.Fitting.{all_fit, exprs_fit}
use Rattle.vh_elab.proofs.design.exprs_fit.Given as goal

-- Those so far fit: whether all do is whether those do that are left.
abbrev pub invariant-loop-e : goal.invariant-loop-e
invariant-loop-e l =
    all_fit (fits_node l.exprs l.objects l.precision) l.e (drop l.e l.exprs)
    ≡ exprs_fit l.objects l.precision l.exprs

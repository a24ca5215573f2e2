use Rattle.std.proofs.Common.{refl}
use Rattle.vh_design_nodes.specs.Fits.{fits_node}
use Rattle.vh_design.proofs.ValidityLemmas.{FitBelow-more, AllFit-below}
use Rattle.vh_design.proofs.fitting.exprs_fit.Goals as goal

pub loop-e-preserved : goal.loop-e-preserved
loop-e-preserved c =
    FitBelow-more (fits_node c.args.exprs.now c.args.objects.now c.args.precision) c.args.exprs.now c.loop-e.e
    c.index-exprs-e.result
    c.loop-e.invariant c.loop-e-test.true c.index-exprs-e.is (cc)

pub returns : goal.returns
returns c = (
  λ _. AllFit-below (fits_node c.args.exprs.now c.args.objects.now c.args.precision) c.args.exprs.now c.loop-e.e
      c.loop-e.invariant c.loop-e-test.false,
  λ _. refl,
)

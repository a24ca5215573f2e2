use Rattle.std.proofs.Common.{refl}
use Rattle.vh_design_nodes.specs.Fits.{fits_object}
use Rattle.vh_design.proofs.ValidityLemmas.{FitBelow-more, AllFit-below}
use Rattle.vh_design.proofs.fitting.objects_fit.Goals as goal

pub loop-o-preserved : goal.loop-o-preserved
loop-o-preserved c =
    FitBelow-more (fits_object c.args.exprs c.args.bodies c.args.objects.now) c.args.objects.now c.loop-o.o
    c.index-objects-o.result
    c.loop-o.invariant c.loop-o-test.true c.index-objects-o.is (cc)

pub returns : goal.returns
returns c = (
  λ _. AllFit-below (fits_object c.args.exprs c.args.bodies c.args.objects.now) c.args.objects.now c.loop-o.o
      c.loop-o.invariant c.loop-o-test.false,
  λ _. refl,
)

use Rattle.std.proofs.Common.{length, refl}
use Rattle.vh_design_code.specs.Codes.{fits_show}
use Rattle.vh_design.proofs.ValidityLemmas.{FitBelow-more, AllFit-below, AllFit-at}
use Rattle.vh_design.proofs.fitting.shows_fit.Goals as goal

pub returns-then-not-fits_show : goal.returns-then-not-fits_show
returns-then-not-fits_show c = (
  λ h. absurd (cc),
  λ all.
      let passes =
      AllFit-at (λ k. fits_show c.args.objects.now (length c.args.exprs.now) c.args.precision) c.args.shows.now c.loop-show.show-index c.show-item.result all
      c.loop-show-test.true c.show-item.is in
      cc,
)

pub loop-show-preserved : goal.loop-show-preserved
loop-show-preserved c =
    FitBelow-more (λ k. fits_show c.args.objects.now (length c.args.exprs.now) c.args.precision) c.args.shows.now c.loop-show.show-index c.show-item.result
    c.loop-show.invariant c.loop-show-test.true c.show-item.is (cc)

pub returns : goal.returns
returns c = (
  λ _. AllFit-below (λ k. fits_show c.args.objects.now (length c.args.exprs.now) c.args.precision) c.args.shows.now c.loop-show.show-index c.loop-show.invariant
      c.loop-show-test.false,
  λ _. refl,
)

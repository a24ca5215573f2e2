use Rattle.std.proofs.Common.{refl}
use Rattle.vh_design_code.specs.Codes.{fits_wait}
use Rattle.vh_design.proofs.ValidityLemmas.{FitBelow-more, AllFit-below, AllFit-at}
use Rattle.vh_design.proofs.fitting.waits_fit.Goals as goal

pub returns-then-not-fits_wait : goal.returns-then-not-fits_wait
returns-then-not-fits_wait c = (
  λ h. absurd (cc),
  λ all.
      let passes =
      AllFit-at (λ k. fits_wait c.args.objects.now) c.args.waits.now c.loop-wait.wait-index c.wait-item.result all
      c.loop-wait-test.true c.wait-item.is in
      cc,
)

pub loop-wait-preserved : goal.loop-wait-preserved
loop-wait-preserved c =
    FitBelow-more (λ k. fits_wait c.args.objects.now) c.args.waits.now c.loop-wait.wait-index c.wait-item.result
    c.loop-wait.invariant c.loop-wait-test.true c.wait-item.is (cc)

pub returns : goal.returns
returns c = (
  λ _. AllFit-below (λ k. fits_wait c.args.objects.now) c.args.waits.now c.loop-wait.wait-index c.loop-wait.invariant
      c.loop-wait-test.false,
  λ _. refl,
)

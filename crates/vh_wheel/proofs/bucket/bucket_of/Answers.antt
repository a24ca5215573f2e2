use Rattle.std.proofs.Common.{◌≡◌, ◌-◌, ◌/◌, ◌+◌, ◌*◌, ◌<◌, ℕ, arith, subst, ap, ◌∙◌, sym}
use Rattle.vh_wheel.specs.Views.{bucket_from}
use Rattle.vh_wheel.proofs.TimesLemmas.{HasBytes, bucket-step, bucket-end, bytes-step, bucket-zero}
use Rattle.vh_wheel.proofs.bucket.bucket_of.Goals as goal

-- A level more, as the loop counts them
next : (n r level : ℕ) → level < 7 → (n / 256 ≡ r / 256 → ⊥) → HasBytes (7 - level) r
    → (bucket_from (7 - level) n r ≡ 256 + bucket_from (7 - (level + 1)) (n / 256) (r / 256)) × HasBytes (7 - (level + 1)) (r / 256)
next n r level h e b =
    let one : 7 - level - 1 ≡ 7 - (level + 1) = omega arith in
    let step = bucket-step (7 - level) n r (omega arith) e in (
      step ∙ ap (λ m. 256 + bucket_from m (n / 256) (r / 256)) one,
      subst (λ m. HasBytes m (r / 256)) one (bytes-step (7 - level) r (omega arith) b),
    )

pub loop-level-init : goal.loop-level-init
loop-level-init c = (omega arith, omega arith)

pub loop-level-preserved : goal.loop-level-preserved
loop-level-preserved c =
    let more = next c.loop-level.base c.loop-level.rest c.loop-level.level c.loop-level-test.true c.if-base-rest.false c.loop-level.invariant.1 in
    (omega (arith, c.loop-level.invariant.0, more.0), more.1)

pub returns-then-base-rest-clause-value : goal.returns-then-base-rest-clause-value
returns-then-base-rest-clause-value c =
    let end = bucket-end (7 - c.loop-level.level) c.loop-level.base c.loop-level.rest (omega (arith, c.loop-level-test.true)) c.if-base-rest.true in
    sym (c.loop-level.invariant.0 ∙ ap (λ m. 256 * c.loop-level.level + m) end)

pub returns-clause-value : goal.returns-clause-value
returns-clause-value c =
    let level : c.loop-level.level ≡ 7 = omega arith in
    let zero : 7 - c.loop-level.level ≡ 0 = omega arith in
    let end = ap (λ k. bucket_from k c.loop-level.base c.loop-level.rest) zero ∙ bucket-zero c.loop-level.base c.loop-level.rest in
    omega (arith, c.loop-level.invariant.0, end, level)

use Rattle.std.proofs.Common.{◌≡◌, ◌+◌, ◌-◌, ℕ, drop, arith}
use Rattle.vh_logic.specs.Number.{number_of}
use Rattle.vh_display.proofs.TextsLemmas.{known_none, known_twice, known_fits, known_more}
use Rattle.vh_display.proofs.texts.known_part.Goals as goal

pub loop-i-init : goal.loop-i-init
loop-i-init c = known_none c.args.v.now.digits c.width-i.result c.width-i.ensures.value

pub overflow_mul-number : goal.overflow_mul-number
overflow_mul-number c =
    let h = known_twice c.args.v.now.digits c.loop-i.i c.loop-i.number (omega (arith, c.loop-i-test.true)) (omega (arith, c.width-i.ensures.value, c.width-i.ensures.most)) c.loop-i.invariant in omega (arith, h)

pub overflow_add-number : goal.overflow_add-number
overflow_add-number c =
    let h = known_fits c.args.v.now.digits c.loop-i.i c.loop-i.number c.digit.result (omega (arith, c.loop-i-test.true)) (omega (arith, c.width-i.ensures.value, c.width-i.ensures.most)) c.loop-i.invariant in
    omega (arith, h, c.digit_value.ensures)

pub loop-i-preserved : goal.loop-i-preserved
loop-i-preserved c =
    let k : ℕ = c.loop-i.i - 1 in
    let next : k + 1 ≡ c.loop-i.i = omega (arith, c.loop-i-test.true) in
    let old : c.loop-i.number ≡ number_of (drop (k + 1) c.args.v.now.digits) = rw next c.loop-i.invariant in
    rw c.digit_value.ensures (known_more c.args.v.now.digits k c.loop-i.number c.digit.result c.digit.ensures old)

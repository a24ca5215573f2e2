use Rattle.std.proofs.Common.{arith}
use Rattle.vh_text.proofs.ValuesLemmas.{room}
use Rattle.vh_text.proofs.value.hex_number.Goals as goal

pub overflow_mul-number : goal.overflow_mul-number
overflow_mul-number c =
    let small = room c.loop-b.number c.loop-b.b-index c.loop-b.invariant.1 (omega (arith, c.loop-b-test.true, c.requires)) in omega (arith, small)

pub overflow_add-number : goal.overflow_add-number
overflow_add-number c =
    let small = room c.loop-b.number c.loop-b.b-index c.loop-b.invariant.1 (omega (arith, c.loop-b-test.true, c.requires)) in
    omega (arith, small, c.in_ok-number.ensures.below)

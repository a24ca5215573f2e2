-- Each edge leads from and to a node.
use Rattle.std.proofs.Common.{ap, arith, length}
use Rattle.vh_elab_cycles.proofs.LaidLemmas.{laid-within}
use Rattle.vh_elab_cycles.proofs.cycles.first_on_cycle.Goals as goal

pub is_on_cycle-requires-clause-begins : goal.is_on_cycle-requires-clause-begins
is_on_cycle-requires-clause-begins c =
    let low = laid-within c.args.edges.now c.in_ok-rows.rows.items c.in_ok-rows.ensures c.loop-place.place (record { from = 0; to = 0 }) c.loop-place-test.true in
    omega (arith, low, ap length c.deref.ensures.value)

pub is_on_cycle-requires-clause-ends : goal.is_on_cycle-requires-clause-ends
is_on_cycle-requires-clause-ends c =
    let low = laid-within c.args.edges.now c.in_ok-rows.rows.items c.in_ok-rows.ensures c.loop-place.place (record { from = 0; to = 0 }) c.loop-place-test.true in
    omega (arith, low, ap length c.deref.ensures.value)

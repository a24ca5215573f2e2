use Rattle.std.proofs.Common.{refl}
use Rattle.vh_store.proofs.ContentsLemmas.{wired_more}
use Rattle.vh_store.proofs.opening.connect.Goals as goal

pub loop-x-preserved : goal.loop-x-preserved
loop-x-preserved c =
    wired_more _ _ _ c.args.d.now.drivers c.loop-x.x c.driver-driver.result.now (rw (← c.new.ensures) c.driver-driver.ensures.value)
    (rw (c.in_ok-index.ensures.records, c.in_ok-push.ensures.items, c.in_ok-index.ensures.position) refl) c.loop-x.invariant

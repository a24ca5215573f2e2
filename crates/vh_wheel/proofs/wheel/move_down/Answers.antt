use Rattle.std.proofs.Common.{◌≡◌, ◌<◌, ◌∙◌, arith}
use Rattle.vh_wheel.specs.Views.{AreMoving, entries_of, moves_of_all}
use Rattle.vh_wheel.proofs.MovesLemmas.{moved-step}
use Rattle.vh_wheel.proofs.wheel.move_down.Given.{Over}
use Rattle.vh_wheel.proofs.wheel.move_down.Goals as goal

turn : (g : Over) (c : goal.After-tick g) → (entries_of c.put.new.self ≡ entries_of c.loop-number.buckets) × AreMoving c.args.time c.args.from c.put.new.self
    × (moves_of_all c.put.new.self < moves_of_all c.loop-number.buckets)
turn g c =
    moved-step c.args.time c.args.from c.bucket_of-bucket.result c.in-Some.number c.get-node.result c.loop-number.buckets c.put.new.self c.loop-number.invariant.1
    c.in-Some.ensures.some.0 c.in-Some.ensures.some.1 c.requires.high c.bucket_of-bucket.ensures.range c.get-node.ensures c.bucket_of-bucket.ensures.value c.put.ensures

pub loop-number-smaller : goal.loop-number-smaller
loop-number-smaller g c = (turn g c).2

pub loop-number-preserved : goal.loop-number-preserved
loop-number-preserved g c =
    let t = turn g c in
    (t.0 ∙ c.loop-number.invariant.0, t.1, omega (arith, t.2, c.tick.ensures, c.loop-number.invariant.2))

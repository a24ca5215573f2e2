use Rattle.std.proofs.Common.{arith}
use Rattle.vh_wheel.proofs.MovesLemmas.{are-moving, are-settled}
use Rattle.vh_wheel.proofs.wheel.advance.Goals as goal

pub move_down-requires-clause-moving : goal.move_down-requires-clause-moving
move_down-requires-clause-moving g c =
    are-moving c.args.now c.args.time c.bucket_of-bucket.result c.args.buckets.now c.requires.now c.requires.later c.requires.placed
    c.bucket_of-bucket.ensures.value c.if-bucket-ge256.true

pub returns-else-bucket-ge256-clause-placed : goal.returns-else-bucket-ge256-clause-placed
returns-else-bucket-ge256-clause-placed g c =
    are-settled c.args.now c.args.time c.args.buckets.now c.requires.now c.requires.later c.requires.placed
    (omega (arith, c.bucket_of-bucket.ensures.value, c.if-bucket-ge256.false))

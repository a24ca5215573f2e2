use Rattle.std.proofs.Common.{◌∙◌, sym, ap, length}
use Rattle.vh_queue.proofs.EndsLemmas.{ends-before, key-up-to}
use Rattle.vh_queue.proofs.RankedLemmas.{none-in}
use Rattle.vh_queue.specs.Ranked.{key}
use Rattle.vh_queue.proofs.key.count_of.Goals as goal

pub returns-then-from-below : goal.returns-then-from-below
returns-then-from-below c = sym (ap length (none-in c.args.time c.args.rank c.args.from c.args.below c.args.ranked.now c.if-from-below.true))

pub returns-then-le : goal.returns-then-le
returns-then-le c =
    let least = c.in-Some.least.now in
    sym (ap length (ends-before c.args.time c.args.rank c.args.from c.args.below least c.args.ranked.now
    (key-up-to (key c.args.time c.args.rank c.args.below) least (sym c.le.ensures ∙ c.if-le.true)) c.in-Some.ensures.all_from))

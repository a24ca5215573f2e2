use Rattle.std.proofs.Common.{◌∙◌, ℕ, List, sym, ap, slice_get}
use Rattle.vh_queue.proofs.RankedLemmas.{none-in}
use Rattle.vh_queue.proofs.EndsLemmas.{ends-before, begins-before, key-up-to, key-past}
use Rattle.vh_queue.specs.Ranked.{key}
use Rattle.vh_queue.proofs.key.first_of.Goals as goal

pub returns-then-from-below : goal.returns-then-from-below
returns-then-from-below c = sym (ap (λ (ks : List ℕ). slice_get ks 0) (none-in c.args.time c.args.rank c.args.from c.args.below c.args.ranked.now c.if-from-below.true))

pub returns-then-le : goal.returns-then-le
returns-then-le c =
    let least = c.in_ok-least.least.now in
    sym (ap (λ (ks : List ℕ). slice_get ks 0) (ends-before c.args.time c.args.rank c.args.from c.args.below least c.args.ranked.now
    (key-up-to (key c.args.time c.args.rank c.args.below) least (sym c.le.ensures ∙ c.if-le.true)) c.in_ok-least.ensures.all_from))

pub returns-then-le-2 : goal.returns-then-le-2
returns-then-le-2 c =
    let least = c.in_ok-least.least.now in
    sym (begins-before c.args.time c.args.rank c.args.from c.args.below least c.args.ranked.now c.in_ok-least.ensures.first
    (key-up-to (key c.args.time c.args.rank c.args.from) least (sym c.le-2.ensures ∙ c.if-le-2.true))
    (key-past (key c.args.time c.args.rank c.args.below) least (sym c.le.ensures ∙ c.if-le.false)))

use Rattle.std.proofs.Common.{ℕ, List, sym, ap, slice_get}
use Rattle.vh_queue.proofs.EndsLemmas.{dated-none, dated-first}
use Rattle.vh_queue.proofs.index.Index.first_dated.Goals as goal

pub returns-then-below-least : goal.returns-then-below-least
returns-then-below-least c =
    sym (ap (λ (ks : List ℕ). slice_get ks 0) (dated-none c.args.below c.in_ok-least.least.now c.args.self.now.untimed
    c.if-below-least.true c.in_ok-least.ensures.all_from))

pub returns : goal.returns
returns c = sym (dated-first c.args.below c.in_ok-least.least.now c.args.self.now.untimed c.in_ok-least.ensures.first c.if-below-least.false)

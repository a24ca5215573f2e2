use Rattle.std.proofs.Common.{◌≡◌, ◌<◌, ◌∙◌, ap, length, false, arith}
use Rattle.vh_sense.specs.Views.{names, set_to, SetsTo, watches}
use Rattle.vh_sense.proofs.ViewsLemmas.{names_of_wait, holds-entered, holds-free, set_back}
use Rattle.vh_sense.proofs.watchers.enter.Goals as goal

pub watch-requires : goal.watch-requires
watch-requires c = λ o h.
    c.requires.holds.placed c.args.number o
    (names_of_wait c.args.waits.now c.args.number c.index-waits-number.result c.as_slice-terms.result.now o c.requires.there c.as_slice-terms.ensures ∙ h)

pub unwatch-requires : goal.unwatch-requires
unwatch-requires c = λ o h.
    let below : o < length c.args.watchers.now = c.requires.holds.placed c.args.number o
    (names_of_wait c.args.waits.now c.args.number c.index-waits-number.result c.as_slice-terms.result.now o c.requires.there c.as_slice-terms.ensures ∙ h) in
    let kept : length c.watch.new.watchers ≡ length c.args.watchers.now = c.watch.auto.watchers in omega (arith, below, kept)

pub returns-in-Ok-clause-holds : goal.returns-in-Ok-clause-holds
returns-in-Ok-clause-holds c =
    holds-entered c.args.waits.now c.args.watchers.now c.watch.new.watchers c.args.waiting.now.entries c.insert.new.self.entries c.args.p c.args.number
    c.as_slice-terms.result.now c.requires.holds c.requires.there
    (λ o. names_of_wait c.args.waits.now c.args.number c.index-waits-number.result c.as_slice-terms.result.now o c.requires.there c.as_slice-terms.ensures)
    c.in_ok-watch.ensures.added c.watch.auto.watchers c.requires.free c.in-Ok.ensures.updates.0 c.in-Ok.ensures.ordered

pub returns-in-Err-clause-holds : goal.returns-in-Err-clause-holds
returns-in-Err-clause-holds c =
    let old = c.args.watchers.now in let ts = c.as_slice-terms.result.now in let p = c.args.p in
    let kept : length c.watch.new.watchers ≡ length old = c.watch.auto.watchers in
    let again : length c.unwatch.new.watchers ≡ length c.watch.new.watchers = c.unwatch.auto.watchers in
    let sets : SetsTo false (names ts) p old c.unwatch.new.watchers = λ o q.
    c.unwatch.ensures o q ∙ ap (λ x. set_to false (names ts o) p q x) (c.in_ok-watch.ensures.added o q)
    ∙ set_back (names ts o) (names ts o) p q (watches old o q) (λ h. h) in
    rw c.in-Err.ensures.err (holds-free c.args.waits.now old c.unwatch.new.watchers c.args.waiting.now.entries p ts c.requires.holds sets (omega (arith, kept, again)) c.requires.free)

use Rattle.std.proofs.Common.{◌<◌, ◌∙◌, sym, length}
use Rattle.vh_sense.proofs.ViewsLemmas.{names_of_wait, holds-left}
use Rattle.vh_sense.proofs.watchers.leave.Goals as goal

pub unwatch-requires : goal.unwatch-requires
unwatch-requires c = λ o h.
    let there : c.in-Some.number < length c.args.waits.now = c.requires.known c.args.p c.in-Some.number (sym c.in-Some.ensures.value) in
    c.requires.placed c.in-Some.number o
    (names_of_wait c.args.waits.now c.in-Some.number c.index-waits-number.result c.as_slice.result.now o there c.as_slice.ensures ∙ h)

pub returns-in-Some-clause-holds : goal.returns-in-Some-clause-holds
returns-in-Some-clause-holds c =
    let there : c.in-Some.number < length c.args.waits.now = c.requires.known c.args.p c.in-Some.number (sym c.in-Some.ensures.value) in
    holds-left c.args.waits.now c.args.watchers.now c.unwatch.new.watchers c.args.waiting.now.entries c.remove.new.self.entries c.args.p c.in-Some.number
    c.as_slice.result.now c.requires (sym c.in-Some.ensures.value)
    (λ o. names_of_wait c.args.waits.now c.in-Some.number c.index-waits-number.result c.as_slice.result.now o there c.as_slice.ensures)
    c.unwatch.ensures c.unwatch.auto.watchers c.in-Some.ensures.updates.0 c.in-Some.ensures.ordered

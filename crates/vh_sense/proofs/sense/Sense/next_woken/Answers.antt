use Rattle.std.proofs.Common.{◌∙◌, ap, map, None, Some}
use Rattle.vh_sense.specs.Views.{follows_in}
use Rattle.vh_sense.proofs.SensitivityLemmas.{woken_there, woken_past}
use Rattle.vh_sense.proofs.sense.Sense.next_woken.Goals as goal

pub returns-in_err-watchers-clause-woken : goal.returns-in_err-watchers-clause-woken
returns-in_err-watchers-clause-woken c =
    c.from_residual.ensures
    ∙ woken_past c.args.self.now c.self.inside.waits.items (map follows_in c.self.inside.readers.items) c.self.inside.watchers.items c.deref.result.now
    c.self.inside.waiting.entries c.number.result c.args.c.now c.args.after c.self.view_is c.self.invariant c.deref.ensures.value
    c.in_err-watchers.ensures.lookup.3 c.number.ensures

pub returns-in_err-p-clause-woken : goal.returns-in_err-p-clause-woken
returns-in_err-p-clause-woken c =
    let l = c.in_ok-watchers.ensures.lookup in
    c.from_residual-in_err-p.ensures
    ∙ woken_there c.args.self.now c.self.inside.waits.items c.deref-2.result.now (map follows_in c.self.inside.readers.items) c.self.inside.watchers.items
    c.deref.result.now c.self.inside.waiting.entries c.number.result c.in_ok-watchers.watchers.now c.args.c.now c.args.after None
    c.self.view_is c.self.invariant c.deref-2.ensures.value c.deref.ensures.value l.1 l.3.0 c.number.ensures c.in_err-p.ensures.sorted c.in_err-p.ensures.value

pub returns-clause-woken : goal.returns-clause-woken
returns-clause-woken c =
    let l = c.in_ok-watchers.ensures.lookup in
    ap Some c.new.ensures
    ∙ woken_there c.args.self.now c.self.inside.waits.items c.deref-2.result.now (map follows_in c.self.inside.readers.items) c.self.inside.watchers.items
    c.deref.result.now c.self.inside.waiting.entries c.number.result c.in_ok-watchers.watchers.now c.args.c.now c.args.after (Some c.in_ok-p.p)
    c.self.view_is c.self.invariant c.deref-2.ensures.value c.deref.ensures.value l.1 l.3.0 c.number.ensures c.in_ok-p.ensures.sorted c.in_ok-p.ensures.value

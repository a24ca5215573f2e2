use Rattle.std.proofs.Common.{◌∙◌, sym, ap, subst, Some}
use Rattle.std.specs.List.Sorted.{IsStrictlySortedBy}
use Rattle.vh_sense.specs.Follows.{follow_cmp}
use Rattle.vh_sense.proofs.FollowsLemmas.{none_sorted}
use Rattle.vh_sense.proofs.SensitivityLemmas.{follow_none, follow_some, follow_sorted, none_follow_there}
use Rattle.vh_sense.proofs.sense.Sense.next_follow.Goals as goal

pub returns-in_err-readers-clause-rising : goal.returns-in_err-readers-clause-rising
returns-in_err-readers-clause-rising c =
    subst (IsStrictlySortedBy follow_cmp)
    (sym (none_follow_there c.args.self.now c.self.inside.waits.items c.self.inside.readers.items c.deref.result.now c.self.inside.waiting.entries c.number.result
    c.args.c.now.object.id c.self.view_is c.deref.ensures.value c.in_err-readers.ensures.lookup.3 c.number.ensures)) none_sorted

pub returns-in_err-key-clause-follow : goal.returns-in_err-key-clause-follow
returns-in_err-key-clause-follow c =
    let l = c.in_ok-readers.ensures.lookup in
    c.from_residual-in_err-key.ensures
    ∙ follow_none c.args.self.now c.self.inside.waits.items c.self.inside.readers.items c.deref.result.now c.self.inside.waiting.entries c.number.result
    c.in_ok-readers.readers.now c.args.c.now c.args.after c.behind.result c.range.result c.self.view_is c.deref.ensures.value l.1 l.3.0 c.number.ensures
    c.behind.ensures (c.range.ensures.between tt) c.in_err-key.ensures.steps.0

pub returns-in_err-key-clause-rising : goal.returns-in_err-key-clause-rising
returns-in_err-key-clause-rising c =
    let l = c.in_ok-readers.ensures.lookup in
    follow_sorted c.args.self.now c.self.inside.waits.items c.self.inside.readers.items c.deref.result.now c.self.inside.waiting.entries c.number.result
    c.args.c.now.object.id c.in_ok-readers.readers.now c.self.view_is c.deref.ensures.value l.1 l.3.0 c.number.ensures c.range.ensures.ordered

pub returns-clause-follow : goal.returns-clause-follow
returns-clause-follow c =
    let l = c.in_ok-readers.ensures.lookup in
    ap Some c.follow.ensures
    ∙ follow_some c.args.self.now c.self.inside.waits.items c.self.inside.readers.items c.deref.result.now c.self.inside.waiting.entries c.number.result
    c.in_ok-readers.readers.now c.args.c.now c.args.after c.behind.result c.range.result c.in_ok-key.key.now c.next.new.self
    c.self.view_is c.deref.ensures.value l.1 l.3.0 c.number.ensures c.behind.ensures (c.range.ensures.between tt) c.in_ok-key.ensures.steps

pub returns-clause-rising : goal.returns-clause-rising
returns-clause-rising c =
    let l = c.in_ok-readers.ensures.lookup in
    follow_sorted c.args.self.now c.self.inside.waits.items c.self.inside.readers.items c.deref.result.now c.self.inside.waiting.entries c.number.result
    c.args.c.now.object.id c.in_ok-readers.readers.now c.self.view_is c.deref.ensures.value l.1 l.3.0 c.number.ensures c.range.ensures.ordered

use Rattle.std.proofs.Common.{◌≡◌, ◌∙◌, ◌-◌, ℕ, subst, Bool, false, cond, List, Some, None, sym, ap, arith}
use Rattle.vh_queue.specs.declared.entry.Entry.{Entry}
use Rattle.vh_queue.specs.declared.region.Region.TheVariants as region
use Rattle.vh_queue.specs.Entries.{is_due}
use Rattle.vh_queue.specs.Events.{Events, entry_of, without}
use Rattle.vh_queue.specs.Serials.{is_active_of}
use Rattle.vh_queue.specs.Views.{seen, Holds}
use Rattle.vh_queue.proofs.QueuesLemmas.{entry-found, view-taken, counted-once, holds-taken, none-removed}
use Rattle.vh_queue.proofs.queue.Queue.take.Goals as goal

pub returns-in_err-stored-clause-entry : goal.returns-in_err-stored-clause-entry
returns-in_err-stored-clause-entry c =
    let i = c.self.inside in
    c.from_residual.ensures
    ∙ entry-found i.next i.time i.starts i.ready c.args.serial i.horizons i.entries i.index None c.self.invariant c.in_err-stored.ensures.value
    ∙ ap (λ (q : Events). entry_of c.args.serial q) c.self.view_is

pub returns-in_err-stored-clause-gone : goal.returns-in_err-stored-clause-gone
returns-in_err-stored-clause-gone c =
    let i = c.self.inside in
    ap (λ (es : List Entry). (let q : Events = record { entries = es; next = i.next; time = i.time } in q))
    (view-taken i.next i.time i.starts i.ready c.args.serial i.horizons i.entries c.remove.new.self i.index c.self.invariant c.remove.ensures.rest)
    ∙ ap (λ (q : Events). without c.args.serial q) c.self.view_is

pub overflow_sub-self : goal.overflow_sub-self
overflow_sub-self c =
    let i = c.self.inside in
    let both = counted-once i.next i.time i.starts i.ready c.args.serial i.horizons i.entries i.index c.in_ok-stored.stored c.self.invariant
    (sym c.in_ok-stored.ensures.value) in
    let one = both.0 in
    let is : c.one_if.result ≡ cond (is_due region.Start i.time (seen i.time i.horizons c.in_ok-stored.stored)) 1 0 =
    c.one_if.ensures ∙ ap (λ (b : Bool). cond b 1 0) (c.is_due.ensures ∙ ap (λ (e : Entry). is_due region.Start i.time e) c.seen-entry.ensures) in
    omega (arith, one, is)

pub overflow_sub-self-2 : goal.overflow_sub-self-2
overflow_sub-self-2 c =
    let i = c.self.inside in
    let both = counted-once i.next i.time i.starts i.ready c.args.serial i.horizons i.entries i.index c.in_ok-stored.stored c.self.invariant
    (sym c.in_ok-stored.ensures.value) in
    let one = both.1 in
    let is : c.one_if-2.result ≡ cond (is_active_of false (seen i.time i.horizons c.in_ok-stored.stored)) 1 0 =
    c.one_if-2.ensures ∙ ap (λ (b : Bool). cond b 1 0) (c.is_plain.ensures ∙ ap (λ (e : Entry). is_active_of false e) c.seen-entry.ensures) in
    omega (arith, one, is)

pub invariant_of-self-2 : goal.invariant_of-self-2
invariant_of-self-2 c =
    let i = c.self.inside in let e = c.in_ok-stored.stored in
    let both = counted-once i.next i.time i.starts i.ready c.args.serial i.horizons i.entries i.index e c.self.invariant
    (sym c.in_ok-stored.ensures.value) in
    let one = both.0 in let other = both.1 in
    let is : c.one_if.result ≡ cond (is_due region.Start i.time (seen i.time i.horizons e)) 1 0 =
    c.one_if.ensures ∙ ap (λ (b : Bool). cond b 1 0) (c.is_due.ensures ∙ ap (λ (x : Entry). is_due region.Start i.time x) c.seen-entry.ensures) in
    let also : c.one_if-2.result ≡ cond (is_active_of false (seen i.time i.horizons e)) 1 0 =
    c.one_if-2.ensures ∙ ap (λ (b : Bool). cond b 1 0) (c.is_plain.ensures ∙ ap (λ (x : Entry). is_active_of false x) c.seen-entry.ensures) in
    holds-taken i.next i.time i.starts i.ready c.args.serial (i.starts - c.one_if.result) (i.ready - c.one_if-2.result) i.horizons i.entries
    c.remove.new.self i.index c.leave.new.self e c.self.invariant (sym c.in_ok-stored.ensures.value) c.remove.ensures.rest
    c.leave.ensures.left c.leave.ensures.sorted (omega (arith, one, is)) (omega (arith, other, also))

pub returns-clause-entry : goal.returns-clause-entry
returns-clause-entry c =
    let i = c.self.inside in
    ap Some c.seen-entry.ensures
    ∙ entry-found i.next i.time i.starts i.ready c.args.serial i.horizons i.entries i.index (Some c.in_ok-stored.stored) c.self.invariant c.in_ok-stored.ensures.value
    ∙ ap (λ (q : Events). entry_of c.args.serial q) c.self.view_is

pub returns-clause-gone : goal.returns-clause-gone
returns-clause-gone c =
    let i = c.self.inside in
    ap (λ (es : List Entry). (let q : Events = record { entries = es; next = i.next; time = i.time } in q))
    (view-taken i.next i.time i.starts i.ready c.args.serial i.horizons i.entries c.remove.new.self i.index c.self.invariant c.remove.ensures.rest)
    ∙ ap (λ (q : Events). without c.args.serial q) c.self.view_is

pub invariant_of-self : goal.invariant_of-self
invariant_of-self c =
    let i = c.self.inside in
    subst (λ (ps : List (ℕ × Entry)). Holds i.next i.time i.horizons i.starts i.ready ps i.index)
    (sym (c.remove.ensures.rest ∙ none-removed c.args.serial i.entries (sym c.in_err-stored.ensures.value))) c.self.invariant

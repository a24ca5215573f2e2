use Rattle.std.proofs.Common.{◌≡◌, ◌∙◌, ◌+◌, ◌∷◌, ◌++◌, [], ℕ, List, length, sym, ap, subst, arith}
use Rattle.std.specs.Map.{values_of}
use Rattle.vh_queue.specs.declared.entry.Entry.{Entry}
use Rattle.vh_queue.specs.Entries.{IsFrom, IsPresent}
use Rattle.vh_queue.specs.Events.{Events, added}
use Rattle.vh_queue.specs.Views.{all_seen, IsTimely}
use Rattle.vh_queue.proofs.QueuesLemmas.{on-ok, on-err, holds-added, holds-same, view-added, insert-undone, inserted, all-below, full-not, few-due, few-plain, seen-size}
use Rattle.vh_queue.proofs.queue.Queue.add.Goals as goal

pub invariant_of-self-then-is_err-2 : goal.invariant_of-self-then-is_err-2
invariant_of-self-then-is_err-2 c =
    let i = c.self.inside in let h = c.self.invariant in
    let e : Entry = record { serial = c.new-serial.result; time = c.args.time; region = c.args.region; work = c.args.work } in
    holds-same i.next i.time i.starts i.ready i.horizons i.entries c.remove.new.self i.index c.enter.new.self h
    (insert-undone i.next e i.entries c.push.new.self c.remove.new.self h.keyed h.rises c.new-serial.ensures
    (on-ok c.push.result _ (sym c.is_err.ensures.value ∙ c.if-is_err.false) c.push.ensures.added ∙ inserted i.next e i.entries h.keyed h.rises c.new-serial.ensures) c.remove.ensures.rest)
    (on-err c.enter.result _ (sym c.is_err-2.ensures.value ∙ c.if-is_err-2.true) c.enter.ensures.kept) c.enter.ensures.sorted

pub returns-then-is_err-2-clause-kept : goal.returns-then-is_err-2-clause-kept
returns-then-is_err-2-clause-kept c =
    let i = c.self.inside in let h = c.self.invariant in
    let e : Entry = record { serial = c.new-serial.result; time = c.args.time; region = c.args.region; work = c.args.work } in
    ap (λ (ps : List (ℕ × Entry)). (let q : Events = record { entries = all_seen i.time i.horizons (values_of ps); next = i.next; time = i.time } in q))
    (insert-undone i.next e i.entries c.push.new.self c.remove.new.self h.keyed h.rises c.new-serial.ensures
    (on-ok c.push.result _ (sym c.is_err.ensures.value ∙ c.if-is_err.false) c.push.ensures.added ∙ inserted i.next e i.entries h.keyed h.rises c.new-serial.ensures) c.remove.ensures.rest)
    ∙ c.self.view_is

pub overflow_add-self : goal.overflow_add-self
overflow_add-self c =
    let i = c.self.inside in
    let few = few-due i.next i.time i.starts i.ready i.horizons i.entries i.index c.is_due.result c.self.invariant in
    let is = c.one_if.ensures in omega (arith, few, is)

pub overflow_add-self-2 : goal.overflow_add-self-2
overflow_add-self-2 c =
    let i = c.self.inside in
    let few = few-plain i.next i.time i.starts i.ready i.horizons i.entries i.index c.is_plain.result c.self.invariant in
    let is = c.one_if-2.ensures in omega (arith, few, is)

pub invariant_of-self-2 : goal.invariant_of-self-2
invariant_of-self-2 c =
    let i = c.self.inside in let h = c.self.invariant in
    let e : Entry = record { serial = c.new-serial.result; time = c.args.time; region = c.args.region; work = c.args.work } in
    let at : c.args.self.now.time ≡ i.time = sym (ap (λ (q : Events). q.time) c.self.view_is) in
    let timely : IsTimely i.time e = record {
      from = subst (λ (t : ℕ). IsFrom t c.args.time) at c.requires.from;
      present = subst (λ (t : ℕ). IsPresent c.args.region t c.args.time) at c.requires.present;
      timed = c.requires.timed;
    } in
    let size : length c.args.self.now.entries ≡ length i.entries =
    sym (ap (λ (q : Events). length q.entries) c.self.view_is) ∙ seen-size i.time i.horizons i.entries in
    let full = full-not c.args.self.now (sym c.is_full.ensures ∙ c.if-is_full.false) in
    let below = full.0 in
    rw (c.one_if.ensures, c.one_if-2.ensures, c.is_due.ensures, c.is_plain.ensures)
    (holds-added i.next i.time i.starts i.ready i.horizons i.entries c.push.new.self i.index c.enter.new.self e h c.new-serial.ensures timely
    (omega (arith, size, below)) (on-ok c.push.result _ (sym c.is_err.ensures.value ∙ c.if-is_err.false) c.push.ensures.added ∙ inserted i.next e i.entries h.keyed h.rises c.new-serial.ensures)
    (on-ok c.enter.result _ (sym c.is_err-2.ensures.value ∙ c.if-is_err-2.false) c.enter.ensures.entered) c.enter.ensures.sorted)

pub returns-clause-added : goal.returns-clause-added
returns-clause-added c =
    let i = c.self.inside in let h = c.self.invariant in
    let e : Entry = record { serial = c.new-serial.result; time = c.args.time; region = c.args.region; work = c.args.work } in
    ap (λ (es : List Entry). (let q : Events = record { entries = es; next = i.next + 1; time = i.time } in q))
    (view-added i.next i.time i.starts i.ready i.horizons i.entries c.push.new.self i.index e c.self.invariant c.new-serial.ensures
    (on-ok c.push.result _ (sym c.is_err.ensures.value ∙ c.if-is_err.false) c.push.ensures.added ∙ inserted i.next e i.entries h.keyed h.rises c.new-serial.ensures)
    ∙ ap (λ (s : ℕ). all_seen i.time i.horizons (values_of i.entries) ++ record { serial = s; time = c.args.time; region = c.args.region; work = c.args.work } ∷ [])
    c.new-serial.ensures)
    ∙ ap (λ (q : Events). added c.args.time c.args.region c.args.work q) c.self.view_is

pub push-requires : goal.push-requires
push-requires c = let h = c.self.invariant in all-below c.self.inside.next c.self.inside.entries h.keyed h.rises

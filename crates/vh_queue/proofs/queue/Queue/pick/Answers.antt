use Rattle.std.proofs.Common.{◌∙◌, ℕ, sym, ap}
use Rattle.vh_queue.specs.Events.{Events, is_eligible, eligible, without}
use Rattle.vh_queue.proofs.ChangesLemmas.{found-serial}
use Rattle.vh_queue.proofs.QueuesLemmas.{find-first, within-some}
use Rattle.vh_queue.proofs.queue.Queue.pick.Goals as goal

pub unreachable-requires-in_default-take : goal.unreachable-requires-in_default-take
unreachable-requires-in_default-take c =
    let q : Events = c.args.self.now in
    let at = find-first (is_eligible q) 1 q.next c.args.k c.in-Some.serial q.entries c.serial_at.ensures.rising (sym c.in-Some.ensures.serial) in
    within-some (eligible q) c.args.k c.requires (at.1 ∙ sym c.take.ensures.entry ∙ c.in_default-take.is)

pub returns-clause-entry : goal.returns-clause-entry
returns-clause-entry c =
    let q : Events = c.args.self.now in
    let at = find-first (is_eligible q) 1 q.next c.args.k c.in-Some.serial q.entries c.serial_at.ensures.rising (sym c.in-Some.ensures.serial) in
    at.1 ∙ sym c.take.ensures.entry ∙ c.in-Some-take.is

pub returns-clause-gone : goal.returns-clause-gone
returns-clause-gone c =
    let q : Events = c.args.self.now in
    c.take.ensures.gone
    ∙ ap (λ (s : ℕ). without s q) (sym (found-serial c.in-Some.serial q.entries c.in-Some-take.entry (sym c.take.ensures.entry ∙ c.in-Some-take.is)))

use Rattle.std.proofs.Common.{◌∙◌, List, map, slice_get, ap, filter, refl, nat_lt}
use Rattle.vh_queue.specs.declared.entry.Entry.{Entry}
use Rattle.vh_queue.specs.Events.{Events}
use Rattle.vh_queue.specs.Serials.{picked_by}
use Rattle.vh_queue.proofs.QueuesLemmas.{counts-of, picked-are}
use Rattle.vh_queue.proofs.queue.Queue.walk.Goals as goal

pub returns-clause-serial : goal.returns-clause-serial
returns-clause-serial c =
    let i = c.self.inside in let first = c.first_update-first.result in
    let counts = counts-of i.next i.time i.starts i.ready i.horizons i.entries i.index c.args.self.now c.self.invariant c.self.view_is in
    c.nth_picked.ensures
    ∙ ap (λ (q : Events). slice_get (map (λ (e : Entry). e.serial) (filter (picked_by (nat_lt 0 i.starts) q.time first) q.entries)) c.args.k) c.self.view_is
    ∙ ap (λ (es : List Entry). slice_get (map (λ (e : Entry). e.serial) es) c.args.k)
    (picked-are c.args.self.now i.starts i.ready (nat_lt 0 i.starts) first counts refl c.first_update-first.ensures)

pub returns-clause-rising : goal.returns-clause-rising
returns-clause-rising c =
    let i = c.self.inside in
    (counts-of i.next i.time i.starts i.ready i.horizons i.entries i.index c.args.self.now c.self.invariant c.self.view_is).rises

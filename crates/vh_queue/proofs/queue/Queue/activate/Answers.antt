use Rattle.std.proofs.Common.{◌∙◌, List, Option, sym, ap, subst, arith}
use Rattle.std.specs.Map.{values_of}
use Rattle.vh_queue.specs.declared.entry.Entry.{Entry}
use Rattle.vh_queue.specs.declared.horizons.Horizons.{Horizons}
use Rattle.vh_queue.specs.declared.region.Region.{Region}
use Rattle.vh_queue.specs.Events.{Events, activated, activated_next}
use Rattle.vh_queue.specs.Views.{all_seen, AreHorizons}
use Rattle.vh_queue.proofs.ChangesLemmas.{with-horizons, all-made}
use Rattle.vh_queue.proofs.QueuesLemmas.{few-starts, few-ready, holds-at}
use Rattle.vh_queue.proofs.queue.Queue.activate.Goals as goal

pub count_start-requires : goal.count_start-requires
count_start-requires c =
    let i = c.self.inside in let h = c.self.invariant in
    few-starts i.next i.time i.starts i.ready i.horizons i.entries i.index h i.time c.set.new.self h.timely

pub overflow_cast-self : goal.overflow_cast-self
overflow_cast-self c =
    let i = c.self.inside in let h = c.self.invariant in
    let few = few-starts i.next i.time i.starts i.ready i.horizons i.entries i.index h i.time c.set.new.self h.timely in
    let is = c.count_start.ensures in omega (arith, few, is)

pub count_four-requires : goal.count_four-requires
count_four-requires c =
    let i = c.self.inside in let h = c.self.invariant in
    few-ready i.next i.time i.starts i.ready i.horizons i.entries i.index h i.time c.set.new.self h.timely

pub overflow_cast-self-2 : goal.overflow_cast-self-2
overflow_cast-self-2 c =
    let i = c.self.inside in let h = c.self.invariant in
    let few = few-ready i.next i.time i.starts i.ready i.horizons i.entries i.index h i.time c.set.new.self h.timely in
    let is = c.count_four.ensures in omega (arith, few, is)

pub invariant_of-self : goal.invariant_of-self
invariant_of-self c =
    let i = c.self.inside in let h = c.self.invariant in
    rw (c.count_start.ensures, c.count_four.ensures)
    (holds-at i.next i.time i.starts i.ready i.horizons i.entries i.index h i.time c.set.new.self h.timely
    (subst (λ (k : Horizons). AreHorizons i.next k) (sym c.set.ensures) (with-horizons c.in_ok-region.region i.next i.horizons h.horizons)))

pub returns-clause-active : goal.returns-clause-active
returns-clause-active c =
    let i = c.self.inside in let h = c.self.invariant in let r = c.in_ok-region.region in
    let es : List Entry = values_of i.entries in
    ap (λ (k : Horizons). (let q : Events = record { entries = all_seen i.time k es; next = i.next; time = i.time } in q)) c.set.ensures
    ∙ ap (λ (xs : List Entry). (let q : Events = record { entries = xs; next = i.next; time = i.time } in q))
    (all-made i.time 1 i.next i.horizons r es h.rises h.timely c.in_ok-region.ensures.later)
    ∙ ap (λ (q : Events). activated r q) c.self.view_is
    ∙ ap (λ (o : Option Region). activated_next o c.args.self.now) c.in_ok-region.ensures.region

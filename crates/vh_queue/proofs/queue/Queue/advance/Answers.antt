use Rattle.std.proofs.Common.{◌∙◌, ◌==◌, ℕ, Bool, List, Option, map, sym, ap, subst, arith}
use Rattle.std.proofs.lemmas.Bool.{eqb-true, eqb-false}
use Rattle.std.specs.Map.{values_of}
use Rattle.vh_queue.specs.declared.entry.Entry.{Entry}
use Rattle.vh_queue.specs.declared.horizons.Horizons.{Horizons}
use Rattle.vh_queue.specs.Events.{Events, least_time, arrived, advanced_next}
use Rattle.vh_queue.specs.Views.{all_seen, AreHorizons}
use Rattle.vh_queue.proofs.ChangesLemmas.{at-horizons}
use Rattle.vh_queue.proofs.QueuesLemmas.{few-starts, few-ready, holds-at, goes-on}
use Rattle.vh_queue.proofs.queue.Queue.advance.Goals as goal

pub count_start-requires : goal.count_start-requires
count_start-requires c =
    let i = c.self.inside in let h = c.self.invariant in let t = c.in_ok-time.time in
    let goes = goes-on i.next i.time i.starts i.ready i.horizons i.entries i.index h t (t == i.time) c.any_beyond-gives.result
    (ap (λ (q : Events). least_time q.entries) c.self.view_is ∙ sym c.in_ok-time.ensures) (eqb-true t i.time) (eqb-false t i.time) in
    few-starts i.next i.time i.starts i.ready i.horizons i.entries i.index h t c.at-horizons.result goes.1

pub overflow_cast-self : goal.overflow_cast-self
overflow_cast-self c =
    let i = c.self.inside in let h = c.self.invariant in let t = c.in_ok-time.time in
    let goes = goes-on i.next i.time i.starts i.ready i.horizons i.entries i.index h t (t == i.time) c.any_beyond-gives.result
    (ap (λ (q : Events). least_time q.entries) c.self.view_is ∙ sym c.in_ok-time.ensures) (eqb-true t i.time) (eqb-false t i.time) in
    let few = few-starts i.next i.time i.starts i.ready i.horizons i.entries i.index h t c.at-horizons.result goes.1 in
    let is = c.count_start.ensures in omega (arith, few, is)

pub count_four-requires : goal.count_four-requires
count_four-requires c =
    let i = c.self.inside in let h = c.self.invariant in let t = c.in_ok-time.time in
    let goes = goes-on i.next i.time i.starts i.ready i.horizons i.entries i.index h t (t == i.time) c.any_beyond-gives.result
    (ap (λ (q : Events). least_time q.entries) c.self.view_is ∙ sym c.in_ok-time.ensures) (eqb-true t i.time) (eqb-false t i.time) in
    few-ready i.next i.time i.starts i.ready i.horizons i.entries i.index h t c.at-horizons.result goes.1

pub overflow_cast-self-2 : goal.overflow_cast-self-2
overflow_cast-self-2 c =
    let i = c.self.inside in let h = c.self.invariant in let t = c.in_ok-time.time in
    let goes = goes-on i.next i.time i.starts i.ready i.horizons i.entries i.index h t (t == i.time) c.any_beyond-gives.result
    (ap (λ (q : Events). least_time q.entries) c.self.view_is ∙ sym c.in_ok-time.ensures) (eqb-true t i.time) (eqb-false t i.time) in
    let few = few-ready i.next i.time i.starts i.ready i.horizons i.entries i.index h t c.at-horizons.result goes.1 in
    let is = c.count_four.ensures in omega (arith, few, is)

pub invariant_of-self : goal.invariant_of-self
invariant_of-self c =
    let i = c.self.inside in let h = c.self.invariant in let t = c.in_ok-time.time in
    let goes = goes-on i.next i.time i.starts i.ready i.horizons i.entries i.index h t (t == i.time) c.any_beyond-gives.result
    (ap (λ (q : Events). least_time q.entries) c.self.view_is ∙ sym c.in_ok-time.ensures) (eqb-true t i.time) (eqb-false t i.time) in
    rw (c.count_start.ensures, c.count_four.ensures)
    (holds-at i.next i.time i.starts i.ready i.horizons i.entries i.index h t c.at-horizons.result goes.1
    (subst (λ (k : Horizons). AreHorizons i.next k) (sym c.at-horizons.ensures) (at-horizons (t == i.time) c.any_beyond-gives.result i.next i.horizons h.horizons)))

pub returns-clause-active : goal.returns-clause-active
returns-clause-active c =
    let i = c.self.inside in let h = c.self.invariant in let t = c.in_ok-time.time in
    let es : List Entry = values_of i.entries in
    let goes = goes-on i.next i.time i.starts i.ready i.horizons i.entries i.index h t (t == i.time) c.any_beyond-gives.result
    (ap (λ (q : Events). least_time q.entries) c.self.view_is ∙ sym c.in_ok-time.ensures) (eqb-true t i.time) (eqb-false t i.time) in
    ap (λ (k : Horizons). (let q : Events = record { entries = all_seen t k es; next = i.next; time = t } in q)) c.at-horizons.ensures
    ∙ ap (λ (xs : List Entry). (let q : Events = record { entries = xs; next = i.next; time = t } in q)) goes.0
    ∙ ap (λ (q : Events). (let p : Events = record q { entries = map (arrived c.any_beyond-gives.result t) q.entries; time = t } in p)) c.self.view_is
    ∙ ap (λ (b : Bool). (let p : Events = record c.args.self.now { entries = map (arrived b t) c.args.self.now.entries; time = t } in p)) c.any_beyond-gives.ensures
    ∙ ap (λ (o : Option ℕ). advanced_next o c.args.self.now) c.in_ok-time.ensures

use Rattle.std.proofs.Common.{◌∙◌, ap, refl, is_some}
use Rattle.vh_queue.specs.Events.{Events, least_time}
use Rattle.vh_queue.proofs.QueuesLemmas.{least-is}
use Rattle.vh_queue.proofs.queue.Queue.least_time.Goals as goal

pub returns : goal.returns
returns c =
    let i = c.self.inside in
    c.earlier-2.ensures ∙ rw (c.earlier.ensures, c.time_if.ensures) refl
    ∙ least-is i.next i.time i.starts i.ready i.horizons i.entries i.index c.first_time-plain.result c.first_time-update.result c.is_some-dated.result
    c.self.invariant c.first_time-plain.ensures.least c.first_time-plain.ensures.none c.first_time-update.ensures.least c.first_time-update.ensures.none
    (c.is_some-dated.ensures ∙ ap is_some c.first_dated.ensures)
    ∙ ap (λ (q : Events). least_time q.entries) c.self.view_is

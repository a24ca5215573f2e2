use Rattle.std.proofs.Common.{◌∙◌, ap, filter, false}
use Rattle.std.specs.Map.{values_of}
use Rattle.vh_queue.specs.Events.{Events}
use Rattle.vh_queue.specs.Serials.{greatest_serial, is_active_of}
use Rattle.vh_queue.proofs.HoldsLemmas.{active-greatest}
use Rattle.vh_queue.proofs.QueuesLemmas.{keeps-plain}
use Rattle.vh_queue.proofs.queue.Queue.last_plain.Goals as goal

pub returns : goal.returns
returns c =
    let i = c.self.inside in
    c.last_four.ensures
    ∙ active-greatest false i.next i.time i.horizons (values_of i.entries) i.index.plain
    (keeps-plain i.next i.time i.starts i.ready i.horizons i.entries i.index c.self.invariant)
    ∙ ap (λ (q : Events). greatest_serial (filter (is_active_of false) q.entries)) c.self.view_is

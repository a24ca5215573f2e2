use Rattle.std.proofs.Common.{◌∙◌, ap, filter, refl}
use Rattle.std.specs.Map.{values_of}
use Rattle.vh_queue.specs.declared.region.Region.TheVariants as region
use Rattle.vh_queue.specs.Entries.{is_due}
use Rattle.vh_queue.specs.Events.{Events}
use Rattle.vh_queue.specs.Serials.{least_serial}
use Rattle.vh_queue.proofs.HoldsLemmas.{start-least}
use Rattle.vh_queue.proofs.QueuesLemmas.{keeps-plain, keeps-updates}
use Rattle.vh_queue.proofs.queue.Queue.first_start.Goals as goal

pub returns : goal.returns
returns c =
    let i = c.self.inside in let h = c.self.invariant in
    c.earlier-2.ensures ∙ rw (c.earlier.ensures, c.first_of-plain.ensures, c.first_of-update.ensures, c.first_dated-dated.ensures) refl
    ∙ start-least i.next i.time i.horizons (values_of i.entries) i.index.plain i.index.updates i.index.untimed
    (keeps-plain i.next i.time i.starts i.ready i.horizons i.entries i.index h)
    (keeps-updates i.next i.time i.starts i.ready i.horizons i.entries i.index h)
    h.indexed.untimed_sorted h.indexed.untimed
    ∙ ap (λ (q : Events). least_serial (filter (is_due region.Start q.time) q.entries)) c.self.view_is

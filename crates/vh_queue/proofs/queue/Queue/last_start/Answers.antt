use Rattle.std.proofs.Common.{◌∙◌, ap, filter, refl}
use Rattle.std.specs.Map.{values_of}
use Rattle.vh_queue.specs.declared.region.Region.TheVariants as region
use Rattle.vh_queue.specs.Entries.{is_due}
use Rattle.vh_queue.specs.Events.{Events}
use Rattle.vh_queue.specs.Serials.{greatest_serial}
use Rattle.vh_queue.proofs.HoldsLemmas.{start-greatest}
use Rattle.vh_queue.proofs.QueuesLemmas.{keeps-plain, keeps-updates}
use Rattle.vh_queue.proofs.queue.Queue.last_start.Goals as goal

pub returns : goal.returns
returns c =
    let i = c.self.inside in let h = c.self.invariant in
    c.later-2.ensures ∙ rw (c.later.ensures, c.last_of-plain.ensures, c.last_of-update.ensures, c.last_dated-dated.ensures) refl
    ∙ start-greatest i.next i.time i.horizons (values_of i.entries) i.index.plain i.index.updates i.index.untimed
    (keeps-plain i.next i.time i.starts i.ready i.horizons i.entries i.index h)
    (keeps-updates i.next i.time i.starts i.ready i.horizons i.entries i.index h)
    h.indexed.untimed_sorted h.indexed.untimed
    ∙ ap (λ (q : Events). greatest_serial (filter (is_due region.Start q.time) q.entries)) c.self.view_is

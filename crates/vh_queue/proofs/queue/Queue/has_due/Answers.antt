use Rattle.std.proofs.Common.{◌∙◌, ℕ, ap, slice_get}
use Rattle.std.specs.List.{list_any}
use Rattle.std.specs.Map.{values_of}
use Rattle.std.specs.Option.{is_some}
use Rattle.vh_queue.specs.Entries.{rank, is_due}
use Rattle.vh_queue.specs.Events.{Events}
use Rattle.vh_queue.specs.Ranked.{serials_of}
use Rattle.vh_queue.specs.Views.{horizon_of}
use Rattle.vh_queue.proofs.HoldsLemmas.{due-any}
use Rattle.vh_queue.proofs.QueuesLemmas.{keeps-plain, keeps-updates, or-then, or-else}
use Rattle.vh_queue.proofs.queue.Queue.has_due.Goals as goal

pub returns-then-is_some : goal.returns-then-is_some
returns-then-is_some c =
    let i = c.self.inside in let h = c.self.invariant in let r = c.args.region in
    or-then c.is_some.result (is_some (slice_get (serials_of i.time (rank r) (horizon_of i.horizons r) i.next i.index.plain) 0))
    (is_some (slice_get (serials_of i.time (rank r) (horizon_of i.horizons r) i.next i.index.updates) 0)) _
    (c.is_some.ensures ∙ ap is_some c.first_of.ensures
    ∙ ap (λ (k : ℕ). is_some (slice_get (serials_of i.time k c.of-from.result i.next i.index.plain) 0)) c.rank-rank.ensures
    ∙ ap (λ (n : ℕ). is_some (slice_get (serials_of i.time (rank r) n i.next i.index.plain) 0)) c.of-from.ensures) c.if-is_some.true
    (due-any i.next i.time i.horizons r (values_of i.entries) i.index.plain i.index.updates
    (keeps-plain i.next i.time i.starts i.ready i.horizons i.entries i.index h) (keeps-updates i.next i.time i.starts i.ready i.horizons i.entries i.index h)
    c.requires ∙ ap (λ (q : Events). list_any (is_due r q.time) q.entries) c.self.view_is)

pub returns-else-is_some : goal.returns-else-is_some
returns-else-is_some c =
    let i = c.self.inside in let h = c.self.invariant in let r = c.args.region in
    or-else c.is_some.result (is_some (slice_get (serials_of i.time (rank r) (horizon_of i.horizons r) i.next i.index.plain) 0))
    c.is_some-else-is_some.result (is_some (slice_get (serials_of i.time (rank r) (horizon_of i.horizons r) i.next i.index.updates) 0)) _
    (c.is_some.ensures ∙ ap is_some c.first_of.ensures
    ∙ ap (λ (k : ℕ). is_some (slice_get (serials_of i.time k c.of-from.result i.next i.index.plain) 0)) c.rank-rank.ensures
    ∙ ap (λ (n : ℕ). is_some (slice_get (serials_of i.time (rank r) n i.next i.index.plain) 0)) c.of-from.ensures) c.if-is_some.false
    (c.is_some-else-is_some.ensures ∙ ap is_some c.first_of-else-is_some.ensures
    ∙ ap (λ (k : ℕ). is_some (slice_get (serials_of i.time k c.of-from.result i.next i.index.updates) 0)) c.rank-rank.ensures
    ∙ ap (λ (n : ℕ). is_some (slice_get (serials_of i.time (rank r) n i.next i.index.updates) 0)) c.of-from.ensures)
    (due-any i.next i.time i.horizons r (values_of i.entries) i.index.plain i.index.updates
    (keeps-plain i.next i.time i.starts i.ready i.horizons i.entries i.index h) (keeps-updates i.next i.time i.starts i.ready i.horizons i.entries i.index h)
    c.requires ∙ ap (λ (q : Events). list_any (is_due r q.time) q.entries) c.self.view_is)

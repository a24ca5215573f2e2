use Rattle.std.proofs.Common.{◌∙◌, ap, refl}
use Rattle.std.specs.List.{list_any}
use Rattle.std.specs.Map.{values_of}
use Rattle.std.specs.Option.{is_some}
use Rattle.vh_queue.specs.Events.{Events, is_beyond_start}
use Rattle.vh_queue.specs.Lanes.{first_four}
use Rattle.vh_queue.specs.declared.horizons.Horizons.{Horizons}
use Rattle.vh_queue.proofs.HoldsLemmas.{beyond-any}
use Rattle.vh_queue.proofs.QueuesLemmas.{keeps-plain, keeps-updates, or-then, or-else}
use Rattle.vh_queue.proofs.queue.Queue.any_beyond.Goals as goal

pub returns-then-any_four : goal.returns-then-any_four
returns-then-any_four c =
    let i = c.self.inside in let h = c.self.invariant in
    let all : Horizons = record { inactive = i.next; nonblocking = i.next; monitor = i.next; dated = 0 } in
    or-then c.any_four.result (is_some (first_four c.args.time i.next all i.index.plain)) (is_some (first_four c.args.time i.next all i.index.updates)) _
    c.any_four.ensures c.if-any_four.true
    (beyond-any i.next i.time c.args.time i.horizons all (values_of i.entries) i.index.plain i.index.updates
    (keeps-plain i.next i.time i.starts i.ready i.horizons i.entries i.index h) (keeps-updates i.next i.time i.starts i.ready i.horizons i.entries i.index h)
    refl refl refl ∙ ap (λ (q : Events). list_any (is_beyond_start c.args.time) q.entries) c.self.view_is)

pub returns-else-any_four : goal.returns-else-any_four
returns-else-any_four c =
    let i = c.self.inside in let h = c.self.invariant in
    let all : Horizons = record { inactive = i.next; nonblocking = i.next; monitor = i.next; dated = 0 } in
    or-else c.any_four.result (is_some (first_four c.args.time i.next all i.index.plain)) c.any_four-else-any_four.result
    (is_some (first_four c.args.time i.next all i.index.updates)) _
    c.any_four.ensures c.if-any_four.false
    c.any_four-else-any_four.ensures
    (beyond-any i.next i.time c.args.time i.horizons all (values_of i.entries) i.index.plain i.index.updates
    (keeps-plain i.next i.time i.starts i.ready i.horizons i.entries i.index h) (keeps-updates i.next i.time i.starts i.ready i.horizons i.entries i.index h)
    refl refl refl ∙ ap (λ (q : Events). list_any (is_beyond_start c.args.time) q.entries) c.self.view_is)

use Rattle.vh_queue.proofs.QueuesLemmas.{holds-none, next-some}
use Rattle.vh_queue.proofs.queue.Queue.clear.Goals as goal

pub invariant_of-self : goal.invariant_of-self
invariant_of-self c =
    let i = c.self.inside in let h = c.self.invariant in
    holds-none i.next i.time i.horizons c.clear.new.self c.clear-2.new.self c.clear.ensures c.clear-2.ensures h.horizons
    (next-some i.next i.time i.starts i.ready i.horizons i.entries i.index h)

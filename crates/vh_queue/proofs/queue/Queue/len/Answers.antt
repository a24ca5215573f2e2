use Rattle.vh_queue.proofs.QueuesLemmas.{counts-of}
use Rattle.vh_queue.proofs.queue.Queue.len.Goals as goal

pub returns-clause-rising : goal.returns-clause-rising
returns-clause-rising c =
    let i = c.self.inside in
    (counts-of i.next i.time i.starts i.ready i.horizons i.entries i.index c.args.self.now c.self.invariant c.self.view_is).rises

use Rattle.vh_queue.proofs.QueuesLemmas.{counts-of, first-starts, first-ready}
use Rattle.vh_queue.proofs.queue.Queue.first_eligible.Goals as goal

pub returns-then-self-gt0-clause-serial : goal.returns-then-self-gt0-clause-serial
returns-then-self-gt0-clause-serial c =
    first-starts _ _ _ _ (counts-of _ _ _ _ _ _ _ _ c.self.invariant c.self.view_is) c.if-self-gt0.true c.first_start.ensures

pub returns-clause-serial : goal.returns-clause-serial
returns-clause-serial c =
    first-ready _ _ _ _ _ _ (counts-of _ _ _ _ _ _ _ _ c.self.invariant c.self.view_is)
    c.if-self-gt0.false c.first_plain.ensures c.first_update.ensures c.earlier.ensures

pub returns-then-self-gt0-clause-rising : goal.returns-then-self-gt0-clause-rising
returns-then-self-gt0-clause-rising c = (counts-of _ _ _ _ _ _ _ _ c.self.invariant c.self.view_is).rises

pub returns-clause-rising : goal.returns-clause-rising
returns-clause-rising c = (counts-of _ _ _ _ _ _ _ _ c.self.invariant c.self.view_is).rises

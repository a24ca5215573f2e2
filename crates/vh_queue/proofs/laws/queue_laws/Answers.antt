use Rattle.vh_queue.proofs.LawsLemmas.{updates-in-order, one-is-gone, others-stand}
use Rattle.vh_queue.proofs.laws.queue_laws.Goals as goal

pub returns-clause-in_order : goal.returns-clause-in_order
returns-clause-in_order c = updates-in-order

pub returns-clause-gone : goal.returns-clause-gone
returns-clause-gone c = one-is-gone

pub returns-clause-others : goal.returns-clause-others
returns-clause-others c = others-stand

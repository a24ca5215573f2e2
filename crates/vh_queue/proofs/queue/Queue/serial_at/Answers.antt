use Rattle.std.proofs.Common.{◌∙◌, sym, arith}
use Rattle.vh_queue.specs.Events.{eligible}
use Rattle.vh_queue.proofs.QueuesLemmas.{nth-eligible}
use Rattle.vh_queue.proofs.queue.Queue.serial_at.Goals as goal

pub returns-then-k-saturating_sub-clause-serial : goal.returns-then-k-saturating_sub-clause-serial
returns-then-k-saturating_sub-clause-serial c =
    let a = c.if-k-eq0.false in let b = c.choices.ensures in let d = c.saturating_sub.ensures in let e = c.if-k-saturating_sub.true in
    c.last_eligible.ensures.serial ∙ sym (nth-eligible (eligible c.args.self.now) c.args.k (omega (arith, a, b, d, e)))

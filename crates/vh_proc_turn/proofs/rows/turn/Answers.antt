use Rattle.std.proofs.Common.{rules}
use Rattle.vh_proc_turn.proofs.rows.turn.Goals as goal

pub returns-in_err-call-in-Enter-clause-fails : goal.returns-in_err-call-in-Enter-clause-fails
returns-in_err-call-in-Enter-clause-fails c =
    let fails = c.in_err-call-in-Enter.ensures.fails c.args.sense.now c.args.q.now in search (rules, fails)

pub returns-in_ok-call-in-Enter-clause-done : goal.returns-in_ok-call-in-Enter-clause-done
returns-in_ok-call-in-Enter-clause-done c =
    let done = c.in_ok-call-in-Enter.ensures.done c.args.sense.now c.args.q.now in search (rules, done)

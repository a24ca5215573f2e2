use Rattle.std.proofs.Common.{rules}
use Rattle.vh_proc_simulation.proofs.entries.enter.Goals as goal

pub returns-clause-runs : goal.returns-clause-runs
returns-clause-runs c = λ d before. let fact = c.in_ok-wake.ensures.runs d before in search (rules, fact)

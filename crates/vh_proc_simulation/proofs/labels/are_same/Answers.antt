use Rattle.std.proofs.Common.{sym}
use Rattle.vh_proc_simulation.proofs.LoopsLemmas.{not-same}
use Rattle.vh_proc_simulation.proofs.labels.are_same.Goals as goal

pub returns-then-before-now : goal.returns-then-before-now
returns-then-before-now c = sym (not-same c.args.before.now c.args.now.now c.if-before-now.true)

use Rattle.std.proofs.Common.{◌≡◌, drop}
use Rattle.vh_proc_simulation.specs.Labels.{are_same}
use Rattle.vh_proc_simulation.proofs.labels.are_same.Given as goal

-- Those so far are.
abbrev pub invariant-loop-i : goal.invariant-loop-i
invariant-loop-i l = are_same (drop l.i l.before) (drop l.i l.now) ≡ are_same l.before l.now

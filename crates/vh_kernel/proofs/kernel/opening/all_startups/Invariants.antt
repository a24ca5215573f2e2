use Rattle.std.proofs.Common.{◌≡◌, ◌++◌, ◌+◌, ◌-◌}
use Rattle.vh_kernel.specs.State.{startups}
use Rattle.vh_kernel.proofs.kernel.opening.all_startups.Given as goal

-- What is made, with what is still to be made
abbrev pub invariant-loop-i : goal.invariant-loop-i
invariant-loop-i l = l.agenda.items ++ startups (l.i + 1) (l.scripts - l.i) ≡ startups 1 l.scripts

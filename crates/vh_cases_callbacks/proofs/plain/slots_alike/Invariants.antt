use Rattle.std.proofs.Common.{◌<◌}
use Rattle.vh_cases_callbacks.proofs.plain.slots_alike.Given as goal

abbrev pub invariant-loop-call : goal.invariant-loop-call
invariant-loop-call l = l.seed < 2147483648

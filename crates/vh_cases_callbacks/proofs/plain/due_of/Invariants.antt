use Rattle.std.proofs.Common.{◌≤◌}
use Rattle.vh_wheel.specs.Schedule.{held_in}
use Rattle.vh_cases_callbacks.proofs.plain.due_of.Given as goal

abbrev pub invariant-loop-next : goal.invariant-loop-next
invariant-loop-next g l = (held_in l.wheel.entries ≤ held_in l.initial.wheel.entries) × (l.wheel.present ≤ l.time)

abbrev pub decreases-loop-next : goal.decreases-loop-next
decreases-loop-next g l = held_in l.wheel.entries

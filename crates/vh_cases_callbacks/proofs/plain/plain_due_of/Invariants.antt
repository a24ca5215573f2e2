use Rattle.std.proofs.Common.{◌≤◌}
use Rattle.vh_wheel.specs.Schedule.{held_in}
use Rattle.vh_cases_callbacks.proofs.plain.plain_due_of.Given as goal

abbrev pub invariant-loop-next : goal.invariant-loop-next
invariant-loop-next l = (held_in l.plain.entries ≤ held_in l.initial.plain.entries) × (l.plain.present ≤ l.time)

abbrev pub decreases-loop-next : goal.decreases-loop-next
decreases-loop-next l = held_in l.plain.entries

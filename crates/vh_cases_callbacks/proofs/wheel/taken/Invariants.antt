use Rattle.std.proofs.Common.{◌≡◌, ◌≤◌}
use Rattle.vh_wheel.specs.Schedule.{held_in}
use Rattle.vh_cases_callbacks.proofs.wheel.taken.Given as goal

abbrev pub invariant-loop-place : goal.invariant-loop-place
invariant-loop-place g l = (held_in l.wheel.entries ≤ l.place) × (l.wheel.present ≡ 0)

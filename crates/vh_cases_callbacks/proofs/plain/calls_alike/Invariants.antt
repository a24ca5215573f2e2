use Rattle.std.proofs.Common.{◌≤◌, ◌<◌}
use Rattle.vh_wheel.specs.Schedule.{held_in}
use Rattle.vh_cases_callbacks.proofs.plain.calls_alike.Given as goal

abbrev pub invariant-loop-call : goal.invariant-loop-call
invariant-loop-call g l =
    (held_in l.wheel.entries ≤ l.call) × (held_in l.plain.entries ≤ l.call) × (l.wheel.present ≤ l.now) × (l.plain.present ≤ l.now) × (l.seed < 2147483648)

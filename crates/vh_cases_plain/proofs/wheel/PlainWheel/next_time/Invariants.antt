use Rattle.std.proofs.Common.{◌≡◌, ◌≤◌, drop, length}
use Rattle.vh_wheel.specs.Schedule.{least_time}
use Rattle.vh_cases_plain.proofs.wheel.PlainWheel.next_time.Given as goal

abbrev pub invariant-loop-node : goal.invariant-loop-node
invariant-loop-node l = (l.node ≤ length l.self.entries) × (l.least ≡ least_time (drop l.node l.self.entries))

abbrev pub decreases-loop-node : goal.decreases-loop-node
decreases-loop-node l = l.node

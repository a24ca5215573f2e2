use Rattle.std.proofs.Common.{ℕ, ◌<◌, ◌≡◌, true}
use Rattle.vh_wheel.specs.Schedule.{entry_at, is_held}
use Rattle.vh_cases_plain.proofs.wheel.PlainWheel.free_node.Given as goal

abbrev pub invariant-loop-node : goal.invariant-loop-node
invariant-loop-node l = (x : ℕ) → x < l.node → is_held (entry_at x l.self.entries) ≡ true

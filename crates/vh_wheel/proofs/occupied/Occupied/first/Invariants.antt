use Rattle.std.proofs.Common.{◌≡◌, ◌+◌, ◌*◌, ◌<◌, ℕ}
use Rattle.vh_wheel.specs.Views.{flag_at}
use Rattle.vh_wheel.proofs.occupied.Occupied.first.Given as goal

abbrev pub invariant-loop-position : goal.invariant-loop-position
invariant-loop-position o l = (l.steps ≡ l.initial.steps + l.position) × ((b : ℕ) → b < 64 * l.position → flag_at l.self b ≡ 0)

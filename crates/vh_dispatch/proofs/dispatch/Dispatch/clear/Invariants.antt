use Rattle.std.proofs.Common.{◌≡◌, ◌≤◌, ◌<◌, ℕ, [], length}
use Rattle.vh_callbacks.specs.Marks.{marked}
use Rattle.vh_dispatch.proofs.dispatch.Dispatch.clear.Given as goal

abbrev pub invariant-frames : goal.invariant-frames
invariant-frames g l = record {
  callbacks : l.r.callbacks ≡ l.initial.r.callbacks;
  cleared : (d : ℕ) → length l.self ≤ d → d < length l.initial.self → marked d l.r ≡ [];
}

abbrev pub decreases-frames : goal.decreases-frames
decreases-frames g l = length l.self

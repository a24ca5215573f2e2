use Rattle.std.proofs.Common.{◌≡◌, ◌+◌, ◌-◌, ℕ, vec_len}
use Rattle.vh_callbacks.specs.Marks.{set_at}
use Rattle.vh_callbacks.proofs.sets.make_room.Given as goal

abbrev pub invariant-loop-alloc : goal.invariant-loop-alloc
invariant-loop-alloc l = (d : ℕ) → set_at d l.sets.items ≡ set_at d l.initial.sets.items

abbrev pub decreases-loop-alloc : goal.decreases-loop-alloc
decreases-loop-alloc l = l.depth + 1 - vec_len l.sets

use Rattle.std.proofs.Common.{◌≡◌, ℕ, cond, nat_lt}
use Rattle.vh_callbacks.specs.Marks.{set_at, without_number}
use Rattle.vh_callbacks.proofs.sets.drop_everywhere.Given as goal

abbrev pub invariant-loop-depth : goal.invariant-loop-depth
invariant-loop-depth l =
    (d : ℕ) → set_at d l.sets.items ≡ cond (nat_lt d l.depth) (without_number l.c (set_at d l.initial.sets.items)) (set_at d l.initial.sets.items)

use Rattle.std.proofs.Common.{◌≡◌, ◌+◌, ◌≤◌}
use Rattle.vh_wheel.specs.Views.{AreMoving, entries_of, moves_of_all}
use Rattle.vh_wheel.proofs.wheel.move_down.Given as goal

abbrev pub invariant-loop-number : goal.invariant-loop-number
invariant-loop-number o l =
    (entries_of l.buckets ≡ entries_of l.initial.buckets)
    × AreMoving l.time l.from l.buckets
    × (l.steps + moves_of_all l.buckets ≤ l.initial.steps + moves_of_all l.initial.buckets)

abbrev pub decreases-loop-number : goal.decreases-loop-number
decreases-loop-number o l = moves_of_all l.buckets

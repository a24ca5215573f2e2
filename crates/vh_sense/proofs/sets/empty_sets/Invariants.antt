use Rattle.std.proofs.Common.{◌≡◌, length}
use Rattle.vh_sense.specs.Views.{AllEmpty}
use Rattle.vh_sense.proofs.sets.empty_sets.Given as goal

abbrev pub invariant-loop : goal.invariant-loop
invariant-loop g l = (length l.sets.items ≡ l.counter) × AllEmpty l.sets.items

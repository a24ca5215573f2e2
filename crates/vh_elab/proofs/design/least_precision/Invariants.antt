use Rattle.std.proofs.Common.{◌≡◌, map, drop}
use Rattle.vh_elab_walk.specs.Views.{placed_seen}
use Rattle.vh_elab_walk.specs.Walks.{least_precision}
use Rattle.vh_elab.proofs.design.least_precision.Given as goal

-- The least so far, with those that are left, is the least of all.
abbrev pub invariant-loop-placed : goal.invariant-loop-placed
invariant-loop-placed l =
    least_precision l.precision (map placed_seen (drop l.placed-index l.all)) ≡ least_precision 17 (map placed_seen l.all)

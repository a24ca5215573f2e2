use Rattle.std.proofs.Common.{◌≡◌, map, drop}
use Rattle.vh_elab_walk.specs.Views.{placed_seen}
use Rattle.vh_elab.specs.Routines.{routines_from, routines_of}
use Rattle.vh_elab.specs.Views.{routines_seen}
use Rattle.vh_elab.proofs.routines.routines_of.Given as goal

-- Those so far, with those that are left, are all of them.
abbrev pub invariant-loop-placed : goal.invariant-loop-placed
invariant-loop-placed l =
    routines_from (map placed_seen (drop l.placed-index l.all)) (routines_seen l.routines)
    ≡ routines_of (map placed_seen l.all)

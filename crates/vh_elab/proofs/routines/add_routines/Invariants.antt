use Rattle.std.proofs.Common.{◌≡◌, drop}
use Rattle.vh_elab_sites.specs.Views.{all_seen}
use Rattle.vh_elab.specs.Routines.{routines_in}
use Rattle.vh_elab.specs.Views.{routines_seen}
use Rattle.vh_elab.proofs.routines.add_routines.Given as goal

-- Those so far, with those that are left, are all of them.
abbrev pub invariant-loop-place : goal.invariant-loop-place
invariant-loop-place l =
    routines_in (all_seen (drop l.place l.sites)) (routines_seen l.all)
    ≡ routines_in (all_seen l.sites) (routines_seen l.initial.all)

use Rattle.std.proofs.Common.{◌≡◌, drop}
use Rattle.vh_elab_sites.specs.Views.{all_seen}
use Rattle.vh_elab_declare.specs.Objects.{each}
use Rattle.vh_elab_declare.specs.Constants.{measured_site}
use Rattle.vh_elab_declare.specs.Views.{home_seen, checked_seen}
use Rattle.vh_elab_declare.proofs.checked.measure_sites.Given as goal

-- Those so far, with those that are left, are all of them.
abbrev pub invariant-loop-site : goal.invariant-loop-site
invariant-loop-site l =
    each (measured_site (home_seen l.home)) (all_seen (drop l.site-index l.sites)) (checked_seen l.checked)
    ≡ each (measured_site (home_seen l.home)) (all_seen l.sites) (checked_seen l.fn.checked)

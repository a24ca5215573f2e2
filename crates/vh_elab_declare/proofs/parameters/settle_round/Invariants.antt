use Rattle.std.proofs.Common.{◌≡◌, ◌++◌, ◌∷◌, ◌-◌, ◌+◌, [], drop, length, Ok, false, true}
use Rattle.vh_elab_sites.specs.Views.{all_seen}
use Rattle.vh_elab_declare.specs.Objects.{each}
use Rattle.vh_elab_declare.specs.Constants.{round, settled_site}
use Rattle.vh_elab_declare.specs.Views.{home_seen, known_seen}
use Rattle.vh_elab_declare.proofs.parameters.settle_round.Given as goal

-- Those so far, with those that are left, are all of them.
abbrev pub invariant-loop-site : goal.invariant-loop-site
invariant-loop-site l =
    (each (settled_site (home_seen l.home)) (all_seen (drop l.site-index l.sites)) (known_seen l.known) ≡ round (home_seen l.home) (all_seen l.sites) (known_seen l.fn.known))
    × (l.changed ≡ false → known_seen l.known ≡ known_seen l.fn.known)

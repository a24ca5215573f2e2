use Rattle.std.proofs.Common.{◌≡◌, [], drop}
use Rattle.vh_elab_sites.specs.Views.{all_seen}
use Rattle.vh_elab_declare.specs.Views.{home_seen, known_seen}
use Rattle.vh_elab_walk.specs.Walks.{children_from, children_of}
use Rattle.vh_elab_walk.specs.Views.{children_seen, source_seen}
use Rattle.vh_elab_walk.proofs.walk.children_of.Given as goal

-- Those so far, with those of the sites that are left, are all of them.
abbrev pub invariant-loop-site : goal.invariant-loop-site
invariant-loop-site l =
    children_from (source_seen l.modules) (home_seen l.home) (known_seen l.known) (all_seen (drop l.site-index l.sites)) (children_seen l.children)
    ≡ children_of (source_seen l.modules) (home_seen l.home) (known_seen l.known) (all_seen l.sites) l.fn.fault

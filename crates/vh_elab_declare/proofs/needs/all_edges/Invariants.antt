use Rattle.std.proofs.Common.{◌≡◌, ◌++◌, drop}
use Rattle.vh_elab_cycles.specs.Views.{edges_seen}
use Rattle.vh_elab_sites.specs.Views.{all_seen}
use Rattle.vh_elab_declare.specs.Needs.{all_edges}
use Rattle.vh_elab_declare.specs.Views.{home_seen, known_seen}
use Rattle.vh_elab_declare.proofs.needs.all_edges.Given as goal

-- Those so far, with those of the sites that are left, are all of them.
abbrev pub invariant-loop-site : goal.invariant-loop-site
invariant-loop-site l =
    edges_seen l.edges.items ++ all_edges (home_seen l.home) (known_seen l.known) (all_seen (drop l.site-index l.sites))
    ≡ all_edges (home_seen l.home) (known_seen l.known) (all_seen l.sites)

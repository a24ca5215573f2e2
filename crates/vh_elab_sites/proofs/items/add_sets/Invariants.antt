use Rattle.std.proofs.Common.{◌≡◌, map, drop}
use Rattle.std.specs.Option.{option_map}
use Rattle.vh_ast.specs.Views.{delay_tree, set_tree}
use Rattle.vh_elab_sites.specs.Sites.{each, set_site}
use Rattle.vh_elab_sites.specs.Views.{sites_seen, around_seen}
use Rattle.vh_elab_sites.proofs.items.add_sets.Given as goal

-- Those so far, with those that are left, are all of them.
abbrev pub invariant-loop-set : goal.invariant-loop-set
invariant-loop-set l =
    each (set_site (around_seen l.around_it) (option_map delay_tree l.delay))
    (map set_tree (drop l.set-index l.sets)) (sites_seen l.sites)
    ≡ each (set_site (around_seen l.around_it) (option_map delay_tree l.delay))
    (map set_tree l.sets) (sites_seen l.initial.sites)

use Rattle.std.proofs.Common.{◌≡◌, map, drop}
use Rattle.std.specs.Option.{option_map}
use Rattle.vh_ast.specs.Views.{delay_tree, net_tree, type_tree}
use Rattle.vh_elab_sites.specs.Sites.{each, net_sites}
use Rattle.vh_elab_sites.specs.Views.{sites_seen, around_seen}
use Rattle.vh_elab_sites.proofs.items.add_nets.Given as goal

-- Those so far, with those that are left, are all of them.
abbrev pub invariant-loop-net : goal.invariant-loop-net
invariant-loop-net l =
    each (net_sites (around_seen l.around_it) l.word (type_tree l.data_type)
    (option_map delay_tree l.delay)) (map net_tree (drop l.net-index l.nets))
    (sites_seen l.sites)
    ≡ each (net_sites (around_seen l.around_it) l.word (type_tree l.data_type)
    (option_map delay_tree l.delay)) (map net_tree l.nets) (sites_seen l.initial.sites)

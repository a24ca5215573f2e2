use Rattle.std.proofs.Common.{◌≡◌, map, drop}
use Rattle.std.specs.Option.{option_map}
use Rattle.vh_ast.specs.Views.{delay_tree, gate_tree}
use Rattle.vh_elab_sites.specs.Sites.{each, gate_site}
use Rattle.vh_elab_sites.specs.Views.{sites_seen, around_seen}
use Rattle.vh_elab_sites.proofs.items.add_gates.Given as goal

-- Those so far, with those that are left, are all of them.
abbrev pub invariant-loop-gate : goal.invariant-loop-gate
invariant-loop-gate l =
    each (gate_site (around_seen l.around_it) l.word (option_map delay_tree l.delay))
    (map gate_tree (drop l.gate-index l.gates)) (sites_seen l.sites)
    ≡ each (gate_site (around_seen l.around_it) l.word (option_map delay_tree l.delay))
    (map gate_tree l.gates) (sites_seen l.initial.sites)

use Rattle.std.proofs.Common.{◌≡◌, map, drop}
use Rattle.vh_elab_sites.specs.Sites.{ports_sites}
use Rattle.vh_ast.specs.Views.{module_tree}
use Rattle.vh_elab_ports.specs.Views.{directed_seen}
use Rattle.vh_elab_sites.specs.Views.{sites_seen}
use Rattle.vh_elab_sites.proofs.items.add_ports.Given as goal

-- Those so far, with those that are left, are all of them.
abbrev pub invariant-loop-directed : goal.invariant-loop-directed
invariant-loop-directed l =
    ports_sites (module_tree l.ports) l.scope (map directed_seen (drop l.directed-index l.all))
    (sites_seen l.sites)
    ≡ ports_sites (module_tree l.ports) l.scope (map directed_seen l.all)
    (sites_seen l.initial.sites)

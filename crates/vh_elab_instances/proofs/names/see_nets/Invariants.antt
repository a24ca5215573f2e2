use Rattle.std.proofs.Common.{◌≡◌, ◌++◌, map, drop}
use Rattle.vh_ast.specs.Views.{net_tree}
use Rattle.vh_elab_ports.specs.Views.{ids_seen}
use Rattle.vh_elab_instances.proofs.names.see_nets.Given as goal

-- Those so far, with those that are left, are all of them.
abbrev pub invariant-loop-net : goal.invariant-loop-net
invariant-loop-net l =
    ids_seen l.ids.items ++ map (λ x. x.id) (map net_tree (drop l.net-index l.nets))
    ≡ ids_seen l.initial.ids.items ++ map (λ x. x.id) (map net_tree l.nets)

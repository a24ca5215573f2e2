use Rattle.std.proofs.Common.{◌≡◌, ◌++◌, map, drop}
use Rattle.vh_ast.specs.Views.{type_tree, net_tree}
use Rattle.vh_elab_ports.specs.Ports.{net_typed}
use Rattle.vh_elab_ports.specs.Views.{typed_seen}
use Rattle.vh_elab_ports.proofs.typed.add_nets.Given as goal

-- Those so far, with those that are left, are all of them.
abbrev pub invariant-loop-net : goal.invariant-loop-net
invariant-loop-net l =
    map typed_seen l.typed.items
    ++ map (net_typed (type_tree l.data_type)) (map net_tree (drop l.net-index l.nets))
    ≡ map typed_seen l.initial.typed.items
    ++ map (net_typed (type_tree l.data_type)) (map net_tree l.nets)

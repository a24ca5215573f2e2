use Rattle.std.proofs.Common.{◌≡◌, ◌++◌, map, drop}
use Rattle.vh_ast.specs.Views.{port_tree}
use Rattle.vh_elab_ports.specs.Ports.{port_id}
use Rattle.vh_elab_ports.specs.Views.{ids_seen}
use Rattle.vh_elab_ports.proofs.header.add_ports.Given as goal

-- Those so far, with those that are left, are all of them.
abbrev pub invariant-loop-port : goal.invariant-loop-port
invariant-loop-port l =
    ids_seen l.ids.items ++ map port_id (map port_tree (drop l.port-index l.ports))
    ≡ ids_seen l.initial.ids.items ++ map port_id (map port_tree l.ports)

use Rattle.std.proofs.Common.{◌≡◌, ◌++◌, map, drop}
use Rattle.vh_ast.specs.Views.{pdecl_tree, port_tree}
use Rattle.vh_elab_ports.specs.Ports.{directed_more}
use Rattle.vh_elab_ports.specs.Views.{directed_seen}
use Rattle.vh_elab_ports.proofs.directed.add_more.Given as goal

-- Those so far, with those that are left, are all of them.
abbrev pub invariant-loop-port : goal.invariant-loop-port
invariant-loop-port l =
    map directed_seen l.all.items
    ++ directed_more (pdecl_tree l.last) (map port_tree (drop l.port-index l.ports))
    ≡ map directed_seen l.initial.all.items
    ++ directed_more (pdecl_tree l.first) (map port_tree l.ports)

use Rattle.std.proofs.Common.{◌≡◌, ◌++◌, map, drop}
use Rattle.vh_ast.specs.Views.{type_tree}
use Rattle.vh_elab_ports.specs.Ports.{named_directed}
use Rattle.vh_elab_ports.specs.Views.{directed_seen}
use Rattle.vh_elab_ports.proofs.directed.add_ids.Given as goal

-- Those so far, with those that are left, are all of them.
abbrev pub invariant-loop-id : goal.invariant-loop-id
invariant-loop-id l =
    map directed_seen l.all.items ++ map (named_directed l.direction l.port_type
    (type_tree l.data_type)) (drop l.id-index l.ids)
    ≡ map directed_seen l.initial.all.items ++ map (named_directed l.direction l.port_type
    (type_tree l.data_type)) l.ids

use Rattle.std.proofs.Common.{◌≡◌, ◌++◌, map, drop}
use Rattle.vh_ast.specs.Views.{gate_tree}
use Rattle.vh_elab_ports.specs.Views.{ids_seen}
use Rattle.vh_elab_instances.specs.Instances.{gate_ids}
use Rattle.vh_elab_instances.proofs.names.see_gates.Given as goal

-- Those so far, with those that are left, are all of them.
abbrev pub invariant-loop-gate : goal.invariant-loop-gate
invariant-loop-gate l =
    ids_seen l.ids.items ++ gate_ids (map gate_tree (drop l.gate-index l.gates))
    ≡ ids_seen l.initial.ids.items ++ gate_ids (map gate_tree l.gates)

use Rattle.std.proofs.Common.{◌≡◌, drop}
use Rattle.vh_ast.specs.Views.{module_tree}
use Rattle.vh_bind_least.specs.Least.{least_of}
use Rattle.vh_elab_ports.specs.Ports.{lacks_direction}
use Rattle.vh_elab_ports.specs.Views.{ids_seen}
use Rattle.vh_elab_ports.proofs.ports.lacking.Given as goal

-- Those so far, with those that are left, are all of them.
abbrev pub invariant-loop-id : goal.invariant-loop-id
invariant-loop-id l =
    least_of (lacks_direction (module_tree l.ports)) (ids_seen (drop l.id-index l.ids)) l.fault
    ≡ least_of (lacks_direction (module_tree l.ports)) (ids_seen l.ids) l.fn.so_far

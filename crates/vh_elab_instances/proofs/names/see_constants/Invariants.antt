use Rattle.std.proofs.Common.{◌≡◌, ◌++◌, map, drop}
use Rattle.vh_ast.specs.Views.{assigned_tree}
use Rattle.vh_elab_ports.specs.Views.{ids_seen}
use Rattle.vh_elab_instances.proofs.names.see_constants.Given as goal

-- Those so far, with those that are left, are all of them.
abbrev pub invariant-loop-assigned : goal.invariant-loop-assigned
invariant-loop-assigned l =
    ids_seen l.ids.items ++ map (λ x. x.id) (map assigned_tree (drop l.assigned-index l.all))
    ≡ ids_seen l.initial.ids.items ++ map (λ x. x.id) (map assigned_tree l.all)

use Rattle.std.proofs.Common.{◌≡◌, ◌++◌, map, drop}
use Rattle.vh_ast.specs.Views.{assigned_tree}
use Rattle.vh_elab_walk.specs.Views.{names_seen}
use Rattle.vh_elab_walk.proofs.parameters.add_values.Given as goal

-- Those so far, with those that are left, are all of them.
abbrev pub invariant-loop-assigned : goal.invariant-loop-assigned
invariant-loop-assigned l =
    names_seen l.names.items ++ map (λ a. a.id.name) (map assigned_tree (drop l.assigned-index l.all))
    ≡ names_seen l.initial.names.items ++ map (λ a. a.id.name) (map assigned_tree l.all)

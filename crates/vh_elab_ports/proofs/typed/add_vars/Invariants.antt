use Rattle.std.proofs.Common.{◌≡◌, ◌++◌, map, drop}
use Rattle.vh_ast.specs.Views.{type_tree, var_tree}
use Rattle.vh_elab_ports.specs.Ports.{vars_typed}
use Rattle.vh_elab_ports.specs.Views.{typed_seen}
use Rattle.vh_elab_ports.proofs.typed.add_vars.Given as goal

-- Those so far, with those that are left, are all of them.
abbrev pub invariant-loop-var : goal.invariant-loop-var
invariant-loop-var l =
    map typed_seen l.typed.items
    ++ vars_typed (type_tree l.data_type) (map var_tree (drop l.var-index l.vars))
    ≡ map typed_seen l.initial.typed.items
    ++ vars_typed (type_tree l.data_type) (map var_tree l.vars)

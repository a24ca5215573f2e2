use Rattle.std.proofs.Common.{◌≡◌, ◌++◌, map, drop}
use Rattle.vh_ast.specs.Views.{var_tree}
use Rattle.vh_elab_ports.specs.Views.{ids_seen}
use Rattle.vh_elab_instances.proofs.names.see_vars.Given as goal

-- Those so far, with those that are left, are all of them.
abbrev pub invariant-loop-var : goal.invariant-loop-var
invariant-loop-var l =
    ids_seen l.ids.items ++ map (λ x. x.id) (map var_tree (drop l.var-index l.vars))
    ≡ ids_seen l.initial.ids.items ++ map (λ x. x.id) (map var_tree l.vars)

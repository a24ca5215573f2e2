use Rattle.std.proofs.Common.{◌≡◌, ◌++◌, map, drop}
use Rattle.vh_ast.specs.Views.{init_tree}
use Rattle.vh_elab_ports.specs.Views.{ids_seen}
use Rattle.vh_elab_instances.proofs.names.see_inits.Given as goal

-- Those so far, with those that are left, are all of them.
abbrev pub invariant-loop-init : goal.invariant-loop-init
invariant-loop-init l =
    ids_seen l.ids.items ++ map (λ x. x.id) (map init_tree (drop l.init-index l.inits))
    ≡ ids_seen l.initial.ids.items ++ map (λ x. x.id) (map init_tree l.inits)

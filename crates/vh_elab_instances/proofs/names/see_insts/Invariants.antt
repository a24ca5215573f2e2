use Rattle.std.proofs.Common.{◌≡◌, ◌++◌, map, drop}
use Rattle.vh_ast.specs.Views.{inst_tree}
use Rattle.vh_elab_ports.specs.Views.{ids_seen}
use Rattle.vh_elab_instances.proofs.names.see_insts.Given as goal

-- Those so far, with those that are left, are all of them.
abbrev pub invariant-loop-inst : goal.invariant-loop-inst
invariant-loop-inst l =
    ids_seen l.ids.items ++ map (λ x. x.id) (map inst_tree (drop l.inst-index l.insts))
    ≡ ids_seen l.initial.ids.items ++ map (λ x. x.id) (map inst_tree l.insts)

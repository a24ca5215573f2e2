use Rattle.std.proofs.Common.{◌≡◌, ◌++◌, map, drop}
use Rattle.vh_ast.specs.Views.{par_tree}
use Rattle.vh_elab_ports.specs.Views.{ids_seen}
use Rattle.vh_elab_instances.proofs.names.see_pars.Given as goal

-- Those so far, with those that are left, are all of them.
abbrev pub invariant-loop-par : goal.invariant-loop-par
invariant-loop-par l =
    ids_seen l.ids.items ++ map (λ x. x.id) (map par_tree (drop l.par-index l.pars))
    ≡ ids_seen l.initial.ids.items ++ map (λ x. x.id) (map par_tree l.pars)

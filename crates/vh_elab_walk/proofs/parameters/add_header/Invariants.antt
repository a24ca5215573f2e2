use Rattle.std.proofs.Common.{◌≡◌, ◌++◌, map, drop}
use Rattle.vh_ast.specs.Views.{par_tree}
use Rattle.vh_elab_walk.specs.Views.{names_seen}
use Rattle.vh_elab_walk.proofs.parameters.add_header.Given as goal

-- Those so far, with those that are left, are all of them.
abbrev pub invariant-loop-par : goal.invariant-loop-par
invariant-loop-par l =
    names_seen l.names.items ++ map (λ p. p.id.name) (map par_tree (drop l.par-index l.pars))
    ≡ names_seen l.initial.names.items ++ map (λ p. p.id.name) (map par_tree l.pars)

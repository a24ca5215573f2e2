use Rattle.std.proofs.Common.{◌≡◌, map, drop}
use Rattle.vh_ast.specs.Expressions.{exprs}
use Rattle.vh_ast.specs.Views.{expr_tree}
use Rattle.vh_bind.specs.Scopes.{here}
use Rattle.vh_bind.specs.Views.{scope_seen}
use Rattle.vh_elab_drives.specs.Nets.{exprs_drivers}
use Rattle.vh_elab_drives.proofs.targets.+exprs.Given as goal

-- The drivers so far, with those that are left, are those of the concatenation.
abbrev pub invariant-add_exprs-loop-e : goal.invariant-add_exprs-loop-e
invariant-add_exprs-loop-e l =
    exprs_drivers (here (scope_seen l.scope) l.nodes) l.drivers.items (exprs (map expr_tree (drop l.e-index l.es)))
    ≡ exprs_drivers (here (scope_seen l.scope) l.nodes) l.initial.drivers.items (exprs (map expr_tree l.es))

use Rattle.std.proofs.Common.{◌≡◌, map, drop}
use Rattle.std.specs.Option.{option_map}
use Rattle.vh_ast.specs.Views.{expr_tree}
use Rattle.vh_bind_stmt.specs.Shows.{arguments_fit}
use Rattle.vh_bind_stmt.proofs.shows.arguments_fit.Given as goal

-- Those that are left fit, where all do.
abbrev pub invariant-loop-argument : goal.invariant-loop-argument
invariant-loop-argument l =
    arguments_fit l.wanted (map (option_map expr_tree) (drop l.argument-index l.arguments))
    ≡ arguments_fit 0 (map (option_map expr_tree) l.arguments)

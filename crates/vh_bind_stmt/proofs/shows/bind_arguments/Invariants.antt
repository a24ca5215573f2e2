use Rattle.std.proofs.Common.{◌≡◌, [], map, drop}
use Rattle.std.specs.Option.{option_map}
use Rattle.vh_ast.specs.Views.{expr_tree}
use Rattle.vh_bind.specs.declared.scope.Mode.TheVariants as mode
use Rattle.vh_bind.specs.Nodes.{IsSound}
use Rattle.vh_bind.specs.Views.{scope_seen}
use Rattle.vh_bind_stmt.specs.Shows.{arguments_bound}
use Rattle.vh_bind_stmt.proofs.shows.bind_arguments.Given as goal

-- The arguments so far, with those that are left, are all of them.
abbrev pub invariant-loop-argument : goal.invariant-loop-argument
invariant-loop-argument l = record {
  step : arguments_bound (scope_seen l.scope) l.wanted l.all.items (map (option_map expr_tree) (drop l.argument-index l.arguments)) l.nodes.items
      ≡ arguments_bound (scope_seen l.scope) 0 [] (map (option_map expr_tree) l.arguments) l.initial.nodes.items;
  sound : IsSound mode.Value (scope_seen l.scope) l.nodes.items;
}

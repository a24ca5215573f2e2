use Rattle.std.proofs.Common.{◌≡◌, map, drop}
use Rattle.vh_ast.specs.Expressions.{exprs}
use Rattle.vh_ast.specs.Views.{expr_tree}
use Rattle.vh_bind.specs.declared.scope.Mode.TheVariants as mode
use Rattle.vh_bind.specs.Nodes.{IsSound}
use Rattle.vh_bind.specs.Views.{scope_seen}
use Rattle.vh_bind_stmt.specs.Targets.{outputs_pieces}
use Rattle.vh_bind_stmt.proofs.targets.+output.Given as goal

-- The targets so far, with those that are left, are those of the concatenation.
abbrev pub invariant-outputs_pieces-loop-part : goal.invariant-outputs_pieces-loop-part
invariant-outputs_pieces-loop-part l = record {
  step : outputs_pieces (scope_seen l.scope) l.targets.items (exprs (map expr_tree (drop l.part-index l.parts))) l.nodes.items
      ≡ outputs_pieces (scope_seen l.scope) l.initial.targets.items (exprs (map expr_tree l.parts)) l.initial.nodes.items;
  sound : IsSound mode.Value (scope_seen l.scope) l.nodes.items;
}

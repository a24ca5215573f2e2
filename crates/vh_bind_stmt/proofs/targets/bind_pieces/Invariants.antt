use Rattle.std.proofs.Common.{◌≡◌, [], map, drop}
use Rattle.vh_ast.specs.Views.{lv_part_tree}
use Rattle.vh_bind.specs.declared.scope.Mode.TheVariants as mode
use Rattle.vh_bind.specs.Nodes.{IsSound}
use Rattle.vh_bind.specs.Views.{scope_seen}
use Rattle.vh_bind_stmt.specs.Targets.{pieces_bound}
use Rattle.vh_bind_stmt.proofs.targets.bind_pieces.Given as goal

-- The targets so far, with those that are left, are those of the row.
abbrev pub invariant-loop-piece : goal.invariant-loop-piece
invariant-loop-piece l = record {
  step : pieces_bound (scope_seen l.scope) l.targets.items (map lv_part_tree (drop l.piece-index l.pieces)) l.nodes.items
      ≡ pieces_bound (scope_seen l.scope) [] (map lv_part_tree l.pieces) l.initial.nodes.items;
  sound : IsSound mode.Value (scope_seen l.scope) l.nodes.items;
}

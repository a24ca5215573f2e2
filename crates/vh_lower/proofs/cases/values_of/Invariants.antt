use Rattle.std.proofs.Common.{◌≡◌, [], map, drop}
use Rattle.vh_ast.specs.Views.{expr_tree}
use Rattle.vh_lower.specs.Statements.{values_of}
use Rattle.vh_lower.specs.Views.{HasSound, IsSame, added_of, around_of}
use Rattle.vh_lower.proofs.cases.values_of.Given as goal

-- The values so far, with those that are left, are all of them.
abbrev pub invariant-loop-value : goal.invariant-loop-value
invariant-loop-value l = record {
  made : values_of (around_of l.initial.maker) l.numbers.items l.calls.items (map expr_tree (drop l.value-index l.values)) (added_of l.maker)
      ≡ values_of (around_of l.initial.maker) [] l.initial.calls.items (map expr_tree l.values) (added_of l.initial.maker);
  sound : HasSound l.initial.maker (added_of l.maker);
  same : IsSame l.initial.maker l.maker;
}

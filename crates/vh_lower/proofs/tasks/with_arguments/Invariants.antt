use Rattle.std.proofs.Common.{◌≡◌, map, drop}
use Rattle.vh_ast.specs.Views.{expr_tree}
use Rattle.vh_lower.specs.Statements.{with_arguments}
use Rattle.vh_lower.specs.Views.{HasSound, IsSame, added_of, around_of, calling_seen}
use Rattle.vh_lower.proofs.tasks.with_arguments.Given as goal

-- The arguments so far, with those that are left, are all of them.
abbrev pub invariant-loop-k : goal.invariant-loop-k
invariant-loop-k l = record {
  made : with_arguments (around_of l.initial.maker) (calling_seen l.call) (drop l.k l.arguments) (map expr_tree (drop l.k l.values)) (added_of l.maker)
      ≡ with_arguments (around_of l.initial.maker) (calling_seen l.initial.call) l.arguments (map expr_tree l.values) (added_of l.initial.maker);
  sound : HasSound l.initial.maker (added_of l.maker);
  same : IsSame l.initial.maker l.maker;
}

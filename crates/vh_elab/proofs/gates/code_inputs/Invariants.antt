use Rattle.std.proofs.Common.{◌≡◌, length, true, map, drop}
use Rattle.std.specs.Prelude.{IfSome}
use Rattle.vh_design_nodes.specs.Fits.{all_before}
use Rattle.vh_ast.specs.Views.{expr_tree}
use Rattle.vh_bind.specs.Views.{numbers_of}
use Rattle.vh_elab.specs.Coded.{inputs_coded}
use Rattle.vh_elab.specs.Views.{HasSound, IsSame, around_of, coding_of, inputs_seen, ready_of}
use Rattle.vh_elab.proofs.gates.code_inputs.Given as goal

-- The inputs so far, with those that are left, are all of them.
abbrev pub invariant-loop-e : goal.invariant-loop-e
invariant-loop-e l = record {
  coded : inputs_coded (ready_of l.initial.coder) (around_of l.initial.coder) l.place (map expr_tree (drop l.e-index l.all))
      (inputs_seen l.inputs, coding_of l.coder)
      ≡ inputs_coded (ready_of l.initial.coder) (around_of l.initial.coder) l.place (map expr_tree l.all)
      (inputs_seen l.initial.inputs, coding_of l.initial.coder);
  sound : HasSound l.initial.coder (coding_of l.coder).added.exprs;
  same : IsSame l.initial.coder l.coder;
  below : IfSome (numbers_of l.inputs.numbers) (λ ns. all_before (length (coding_of l.coder).added.exprs) ns ≡ true);
}

use Rattle.std.proofs.Common.{◌≡◌, ◌++◌, ◌+◌, drop, length}
use Rattle.std.specs.List.{flat_map}
use Rattle.vh_design_first.specs.Designs.{delays_in, calls_in, instructions_of}
use Rattle.vh_design_first.proofs.codes.code_of.Given as goal

-- The instructions so far, before those of the steps that are left.
abbrev pub invariant-loop-step : goal.invariant-loop-step
invariant-loop-step l = record {
  code : l.instructions.items ++ instructions_of l.now.exprs l.now.calls l.place (drop l.step-index l.steps)
      ≡ instructions_of l.fn.before.exprs l.fn.before.calls 0 l.steps;
  exprs : l.now.exprs + length (flat_map delays_in (drop l.step-index l.steps)) ≡ l.fn.before.exprs + length (flat_map delays_in l.steps);
  calls : l.now.calls + length (flat_map calls_in (drop l.step-index l.steps)) ≡ l.fn.before.calls + length (flat_map calls_in l.steps);
}

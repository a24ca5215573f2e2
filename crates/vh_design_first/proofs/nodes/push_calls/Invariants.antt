use Rattle.std.proofs.Common.{◌≡◌, ◌++◌, drop}
use Rattle.std.specs.List.{flat_map}
use Rattle.vh_design_first.specs.Designs.{calls_in}
use Rattle.vh_design_first.proofs.nodes.push_calls.Given as goal

-- Those so far, before those of the steps that are left.
abbrev pub invariant-loop-step : goal.invariant-loop-step
invariant-loop-step l = l.all.items ++ flat_map calls_in (drop l.step-index l.steps) ≡ l.initial.all.items ++ flat_map calls_in l.steps

use Rattle.std.proofs.Common.{◌≡◌, ◌++◌, drop}
use Rattle.std.specs.List.{flat_map}
use Rattle.vh_design_first.specs.Designs.{delays_in}
use Rattle.vh_design_first.proofs.nodes.push_delays.Given as goal

-- Those so far, before those of the steps that are left.
abbrev pub invariant-loop-step : goal.invariant-loop-step
invariant-loop-step l = l.all.items ++ flat_map delays_in (drop l.step-index l.steps) ≡ l.initial.all.items ++ flat_map delays_in l.steps

use Rattle.std.proofs.Common.{◌≡◌, ◌++◌, map, drop}
use Rattle.vh_lower_flow.specs.Laid.{arm_to}
use Rattle.vh_lower_flow.proofs.laying.add_arms.Given as goal

-- The arms so far, with those of the values that are left, are all of them.
abbrev pub invariant-loop-value : goal.invariant-loop-value
invariant-loop-value l =
    l.arms.items ++ map (arm_to l.to) (drop l.value-index l.matched) ≡ l.initial.arms.items ++ map (arm_to l.to) l.matched

-- The power so far times what is left of it is the whole power, in the bits of a plane.
use Rattle.std.proofs.Common.{◌≡◌, ◌*◌, ◌%◌, ◌^◌}
use Rattle.vh_logic.specs.declared.vector.TheConstants.{MAX_WIDTH}
use Rattle.vh_logic.proofs.arithmetic.wrapping_power.Given as goal

abbrev pub invariant-loop-left : goal.invariant-loop-left
invariant-loop-left l = (l.power * l.square ^ l.left) % 2 ^ MAX_WIDTH ≡ (l.initial.base ^ l.initial.exponent) % 2 ^ MAX_WIDTH

abbrev pub decreases-loop-left : goal.decreases-loop-left
decreases-loop-left l = l.left

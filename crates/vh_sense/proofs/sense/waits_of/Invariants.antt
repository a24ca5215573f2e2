use Rattle.std.proofs.Common.{◌≡◌, take}
use Rattle.vh_sense.proofs.sense.waits_of.Given as goal

-- The waits so far.
abbrev pub invariant-loop-w : goal.invariant-loop-w
invariant-loop-w l = l.waits.items ≡ take l.w l.d.waits

use Rattle.std.proofs.Common.{◌≡◌, drop}
use Rattle.vh_logic.specs.Number.{number_of}
use Rattle.vh_display.proofs.texts.known_part.Given as goal

-- The digits from this one on are read.
abbrev pub invariant-loop-i : goal.invariant-loop-i
invariant-loop-i l = l.number ≡ number_of (drop l.i l.v.digits)

use Rattle.std.proofs.Common.{false, take}
use Rattle.vh_sense.specs.Views.{names, SetsTo}
use Rattle.vh_sense.proofs.watchers.unwatch.Given as goal

-- The objects of the terms so far don't have the process.
abbrev pub invariant-loop-term : goal.invariant-loop-term
invariant-loop-term l = SetsTo false (names (take l.term-index l.terms)) l.p l.fn.watchers l.watchers

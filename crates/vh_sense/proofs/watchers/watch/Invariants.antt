use Rattle.std.proofs.Common.{true, take}
use Rattle.vh_sense.specs.Views.{names, SetsTo}
use Rattle.vh_sense.proofs.watchers.watch.Given as goal

-- The objects of the terms so far have the process.
abbrev pub invariant-loop-term : goal.invariant-loop-term
invariant-loop-term l = SetsTo true (names (take l.term-index l.terms)) l.p l.fn.watchers l.watchers

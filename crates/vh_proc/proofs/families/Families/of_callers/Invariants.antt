use Rattle.vh_proc.proofs.CallersLemmas.{HasSome}
use Rattle.vh_proc.proofs.families.Families.of_callers.Given as goal

-- The families of those that were gone over are in.
abbrev pub invariant-loop-k : goal.invariant-loop-k
invariant-loop-k l = HasSome l.self l.fn.r l.k-iterator l.all

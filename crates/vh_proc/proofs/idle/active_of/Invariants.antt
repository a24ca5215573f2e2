use Rattle.std.proofs.Common.{◌≡◌, false}
use Rattle.std.specs.BTreeSet.{contains}
use Rattle.std.specs.Ordering.{nat_cmp}
use Rattle.vh_proc.specs.Families.{IsIdle}
use Rattle.vh_proc.proofs.CallersLemmas.{AllBut}
use Rattle.vh_proc.proofs.idle.active_of.Given as goal

-- Of those so far that aren't kept nobody is in a call.
abbrev pub invariant-loop-k : goal.invariant-loop-k
invariant-loop-k l = AllBut l.callers l.k-iterator (λ k. contains nat_cmp l.still k ≡ false → IsIdle l.d l.r l.sets l.all.entries k)

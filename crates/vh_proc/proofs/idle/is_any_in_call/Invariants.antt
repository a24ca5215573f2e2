use Rattle.std.proofs.Common.{◌≡◌, false}
use Rattle.std.specs.BTreeMap.{is_at}
use Rattle.std.specs.Map.{lookup}
use Rattle.std.specs.Ordering.{nat_cmp}
use Rattle.vh_proc.specs.Families.{is_in_call}
use Rattle.vh_proc.proofs.CallersLemmas.{AllBut}
use Rattle.vh_proc.proofs.idle.is_any_in_call.Given as goal

-- Nobody so far is.
abbrev pub invariant-loop-p : goal.invariant-loop-p
invariant-loop-p l = AllBut l.family l.p-iterator (λ q. is_in_call l.d l.r (lookup (is_at (nat_cmp q)) l.all.entries) ≡ false)

use Rattle.std.proofs.Common.{◌≡◌, ◌||◌, ℕ}
use Rattle.std.specs.BTreeSet.{contains}
use Rattle.std.specs.Ordering.{nat_cmp}
use Rattle.vh_proc.proofs.CallersLemmas.{holds}
use Rattle.vh_proc.proofs.families.add_family.Given as goal

-- Those that are in, with those that are left, are all.
abbrev pub invariant-loop-p : goal.invariant-loop-p
invariant-loop-p l = (q : ℕ) → (contains nat_cmp l.all q || holds l.p-iterator q) ≡ (contains nat_cmp l.initial.all q || contains nat_cmp l.family q)

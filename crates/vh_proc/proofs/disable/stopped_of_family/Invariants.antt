use Rattle.std.proofs.Common.{◌≡◌}
use Rattle.std.specs.List.Sorted.{IsStrictlySortedBy}
use Rattle.std.specs.Ordering.{nat_cmp}
use Rattle.vh_proc.specs.Disabled.{stopped_of}
use Rattle.vh_proc.specs.Views.{HoldsAll, found_seen, nobody}
use Rattle.vh_proc.proofs.WalkLemmas.{those}
use Rattle.vh_proc.proofs.disable.stopped_of_family.Given as goal

-- The processes of the numbers that are left, with those that were found, are all.
abbrev pub invariant-loop-p : goal.invariant-loop-p
invariant-loop-p l = record {
  found : stopped_of l.d l.target (found_seen l.found) (those l.p-iterator l.all.entries) ≡ stopped_of l.d l.target nobody l.all.entries;
  rise : IsStrictlySortedBy nat_cmp l.p-iterator;
  all : HoldsAll l.found;
}

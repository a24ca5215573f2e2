use Rattle.std.proofs.Common.{◌≡◌}
use Rattle.vh_proc.specs.Disabled.{stopped_of}
use Rattle.vh_proc.specs.Views.{HoldsAll, found_seen, nobody}
use Rattle.vh_proc.proofs.RunsLemmas.{EachRuns}
use Rattle.vh_proc.proofs.disable.stopped_of_all.Given as goal

-- Those that are left, with those that were found, are all.
abbrev pub invariant-loop-p : goal.invariant-loop-p
invariant-loop-p l = record {
  found : stopped_of l.d l.target (found_seen l.found) l.p-iterator ≡ stopped_of l.d l.target nobody l.all.entries;
  runs : EachRuns l.d l.p-iterator;
  all : HoldsAll l.found;
}

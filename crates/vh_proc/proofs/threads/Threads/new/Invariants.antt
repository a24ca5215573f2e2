use Rattle.std.proofs.Common.{◌≡◌, length, map}
use Rattle.std.specs.List.{range_with_len}
use Rattle.vh_proc.specs.Families.{AreKept}
use Rattle.vh_proc.specs.Processes.{opening_process}
use Rattle.vh_proc.proofs.RunsLemmas.{EachRuns}
use Rattle.vh_proc.proofs.threads.Threads.new.Given as goal

-- So many processes are there, each at its beginning.
abbrev pub invariant-loop-k : goal.invariant-loop-k
invariant-loop-k l = record {
  all : l.all.entries ≡ map (λ k. (k, opening_process l.d k)) (range_with_len 0 l.k);
  runs : EachRuns l.d l.all.entries;
  kept : AreKept l.families l.k l.all.entries;
  long : length l.families.sets.items ≡ l.k;
}

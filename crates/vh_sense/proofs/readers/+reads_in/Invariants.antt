use Rattle.std.proofs.Common.{◌≡◌, ◌||◌, take}
use Rattle.std.specs.List.{list_any}
use Rattle.vh_sense.specs.Reads.{object_in, is_the, reads_below}
use Rattle.vh_design.specs.Laws.{parts_of}
use Rattle.vh_sense.proofs.readers.+reads_in.Given as goal

abbrev pub decreases-reads_in : goal.decreases-reads_in
decreases-reads_in l = l.e

-- Whether the expression itself reads it, or one of its parts so far.
abbrev pub invariant-loop-k : goal.invariant-loop-k
invariant-loop-k l =
    l.found ≡ (is_the l.o (object_in l.kind) || list_any (reads_below l.fn.e l.d.exprs l.o) (take l.k (parts_of l.kind)))

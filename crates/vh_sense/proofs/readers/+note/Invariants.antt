use Rattle.std.proofs.Common.{◌≡◌, ◌<◌, ◌||◌, ℕ, length, take}
use Rattle.std.specs.List.{list_any}
use Rattle.vh_sense.specs.Reads.{object_in, is_the, reads_below}
use Rattle.vh_design.specs.Laws.{parts_of}
use Rattle.vh_sense.specs.Views.{follow_at, noted, follows_at}
use Rattle.vh_sense.proofs.readers.+note.Given as goal

abbrev pub decreases-note : goal.decreases-note
decreases-note l = l.e

-- What the expression itself reads, and what its parts so far read, has the statement.
abbrev pub invariant-loop-k : goal.invariant-loop-k
invariant-loop-k l =
    (o : ℕ) → o < length l.readers
    → follows_at l.readers o
    ≡ noted (is_the o (object_in l.kind) || list_any (reads_below l.fn.e l.d.exprs o) (take l.k (parts_of l.kind)))
    (follow_at l.key) (follows_at l.fn.readers o)

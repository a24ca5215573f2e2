use Rattle.std.proofs.Common.{take}
use Rattle.std.specs.List.{flat_map}
use Rattle.vh_sense.specs.Follows.{statements_in}
use Rattle.vh_sense.specs.Views.{Gathers}
use Rattle.vh_sense.proofs.readers.note_processes.Given as goal

-- Those of the processes so far.
abbrev pub invariant-loop-p : goal.invariant-loop-p
invariant-loop-p l = Gathers l.d.exprs (flat_map statements_in (take l.p l.d.codes)) l.fn.readers l.readers

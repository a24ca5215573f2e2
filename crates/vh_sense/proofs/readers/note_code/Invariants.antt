use Rattle.std.proofs.Common.{take}
use Rattle.std.specs.List.{filter_map}
use Rattle.vh_sense.specs.Follows.{follow_of}
use Rattle.vh_sense.specs.Views.{Gathers}
use Rattle.vh_sense.proofs.readers.note_code.Given as goal

-- The statements so far are in the sets of what they read.
abbrev pub invariant-loop-instruction : goal.invariant-loop-instruction
invariant-loop-instruction l =
    Gathers l.d.exprs (filter_map (λ i. follow_of i.operation) (take l.instruction-index l.instruction-items)) l.fn.readers l.readers

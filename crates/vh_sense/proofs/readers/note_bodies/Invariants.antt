use Rattle.std.specs.List.{flat_map, range_with_len}
use Rattle.vh_design.specs.Validity.{body_at}
use Rattle.vh_sense.specs.Follows.{statements_of_body}
use Rattle.vh_sense.specs.Views.{Gathers}
use Rattle.vh_sense.proofs.readers.note_bodies.Given as goal

-- Those of the bodies so far.
abbrev pub invariant-loop-o : goal.invariant-loop-o
invariant-loop-o l =
    Gathers l.d.exprs (flat_map (λ o. statements_of_body (body_at l.d o)) (range_with_len 0 l.o)) l.fn.readers l.readers

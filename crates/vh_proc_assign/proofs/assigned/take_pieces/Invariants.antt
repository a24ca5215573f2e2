use Rattle.std.proofs.Common.{◌≡◌, ◌++◌, drop}
use Rattle.vh_proc_assign.specs.Assigned.{with_pieces, made_in_turn}
use Rattle.vh_proc_assign.proofs.assigned.take_pieces.Given as goal

-- What the pieces that are left make of the store, and what was noted with what they change, is what all do.
abbrev pub invariant-loop-piece : goal.invariant-loop-piece
invariant-loop-piece l =
    (with_pieces (drop l.piece-index l.pieces) l.s ≡ with_pieces l.pieces l.initial.s)
    × (l.made.items ++ made_in_turn (drop l.piece-index l.pieces) l.s ≡ l.initial.made.items ++ made_in_turn l.pieces l.initial.s)
    × (l.s.time ≡ l.initial.s.time)

use Rattle.std.proofs.Common.{◌≡◌, ◌+◌, ◌≤◌, length}
use Rattle.std.specs.List.{sum_by}
use Rattle.vh_lex.specs.Uses.{around_seen, finish, frames_seen}
use Rattle.vh_lex.proofs.expand.read_on.Given as goal

abbrev pub invariant-loop-rest : goal.invariant-loop-rest
invariant-loop-rest l =
    (finish (around_seen l.around) (frames_seen l.fn.frames.items) l.fn.made ≡ finish (around_seen l.around) (frames_seen l.frames.items) l.made)
    × (length l.frames.items ≤ length l.fn.frames.items) × (l.made.uses ≡ l.fn.made.uses)

abbrev pub decreases-loop-rest : goal.decreases-loop-rest
decreases-loop-rest l = sum_by (λ frame. length frame.now + 1) l.frames.items

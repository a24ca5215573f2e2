use Rattle.std.proofs.Common.{◌≡◌, ◌-◌, ◌≤◌, length}
use Rattle.vh_lex.specs.Spelling.{and_then, expanded, most_levels}
use Rattle.vh_lex.specs.Uses.{around_seen, finish, frames_seen, used_in}
use Rattle.vh_lex.proofs.expand.expand.Given as goal

abbrev pub invariant-loop-next : goal.invariant-loop-next
invariant-loop-next l =
    (expanded most_levels (around_seen l.around) l.text l.fn.made
    ≡ and_then (used_in (around_seen l.around) (length l.frames.items) l.next l.made) (finish (around_seen l.around) (frames_seen l.frames.items)))
    × (length l.frames.items ≤ 64)

abbrev pub decreases-loop-next : goal.decreases-loop-next
decreases-loop-next l = 1048576 - l.made.uses

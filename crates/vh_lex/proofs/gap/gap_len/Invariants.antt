use Rattle.std.proofs.Common.{◌≡◌, ◌+◌, ◌≤◌, length}
use Rattle.vh_lex.specs.Directives.{gap_len}
use Rattle.vh_lex.proofs.gap.gap_len.Given as goal

abbrev pub invariant-loop-behind : goal.invariant-loop-behind
invariant-loop-behind l = (length l.rest ≤ length l.bytes) × (gap_len l.bytes + length l.rest ≡ length l.bytes + gap_len l.rest)

abbrev pub decreases-loop-behind : goal.decreases-loop-behind
decreases-loop-behind l = length l.rest

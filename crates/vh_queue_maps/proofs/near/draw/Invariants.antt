use Rattle.std.proofs.Common.{◌≡◌, ◌++◌, length}
use Rattle.vh_queue_maps.proofs.near.draw.Given as goal

-- All keys stand where they stood
abbrev pub invariant-loop-first : goal.invariant-loop-first
invariant-loop-first g l = l.near.items ++ l.far.keys ≡ l.initial.near.items ++ l.initial.far.keys

abbrev pub decreases-loop-first : goal.decreases-loop-first
decreases-loop-first g l = length l.far.keys

use Rattle.std.proofs.Common.{◌≡◌, [], reverse, take}
use Rattle.vh_proc_thread.specs.Control.{is_within, outermost}
use Rattle.vh_proc_thread.proofs.position.up_to_outermost.Given as goal

-- None of the calls so far is inside.
abbrev pub invariant-loop-k : goal.invariant-loop-k
invariant-loop-k l = outermost (is_within l.d l.root l.target) (reverse (take l.k l.calls)) ≡ []

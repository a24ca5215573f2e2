use Rattle.std.proofs.Common.{◌≡◌, ◌||◌, take}
use Rattle.std.specs.List.{list_any}
use Rattle.vh_design.specs.Laws.{parts_of}
use Rattle.vh_proc_simulation.specs.Clock.{is_clock, asks_below}
use Rattle.vh_proc_simulation.proofs.clock.+asks_in.Given as goal

abbrev pub decreases-asks_in : goal.decreases-asks_in
decreases-asks_in l = l.e

-- Whether it is the time itself, or one of its parts so far reads it.
abbrev pub invariant-loop-k : goal.invariant-loop-k
invariant-loop-k l =
    l.found ≡ (is_clock l.kind || list_any (asks_below l.fn.e l.d.exprs) (take l.k (parts_of l.kind)))

use Rattle.std.proofs.Common.{◌≡◌, drop, false, replicate}
use Rattle.vh_elab_modules.specs.Numbers.{held_by}
use Rattle.vh_elab_modules.specs.Views.{holdings_seen}
use Rattle.vh_elab_modules.proofs.top.held_by.Given as goal

-- The flags so far, with the items that are left, are those of all.
abbrev pub invariant-loop-holding : goal.invariant-loop-holding
invariant-loop-holding l =
    held_by l.held.items (holdings_seen (drop l.holding-index l.graph)) ≡ held_by (replicate l.count false) (holdings_seen l.graph)

use Rattle.std.proofs.Common.{◌≡◌, drop, None}
use Rattle.vh_elab_modules.specs.Numbers.{least_on}
use Rattle.vh_elab_modules.specs.Views.{holdings_seen}
use Rattle.vh_elab_modules.proofs.faults.least_on.Given as goal

-- The least so far, and of those that are left, is that of all.
abbrev pub invariant-loop-number : goal.invariant-loop-number
invariant-loop-number l =
    least_on (drop l.number l.on) (holdings_seen (drop l.number l.graph)) l.fault ≡ least_on l.on (holdings_seen l.graph) None

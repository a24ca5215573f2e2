use Rattle.std.proofs.Common.{◌≡◌, drop}
use Rattle.vh_bind.specs.Constants.{steps_meant}
use Rattle.vh_bind.specs.Views.{scope_seen}
use Rattle.vh_bind.proofs.PathsLemmas.{steps_seen}
use Rattle.vh_bind.proofs.paths.path_meant.Given as goal

-- What the parts so far stand for, with the parts that are left, is what the path stands for.
abbrev pub invariant-loop-step : goal.invariant-loop-step
invariant-loop-step l =
    steps_meant (scope_seen l.scope) l.place l.meaning (steps_seen (drop l.step-index l.step-items))
    ≡ steps_meant (scope_seen l.scope) l.place l.initial.meaning (steps_seen l.step-items)

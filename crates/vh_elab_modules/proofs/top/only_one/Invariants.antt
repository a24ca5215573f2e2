use Rattle.std.proofs.Common.{◌≡◌, drop, None}
use Rattle.vh_elab_modules.specs.Numbers.{only_from}
use Rattle.vh_elab_modules.proofs.top.only_one.Given as goal

-- What was found, with the flags that are left, is what all give.
abbrev pub invariant-loop-place : goal.invariant-loop-place
invariant-loop-place l = only_from l.place (drop l.place l.flags) l.found ≡ only_from 0 l.flags None

use Rattle.std.proofs.Common.{◌≡◌, ◌++◌, drop}
use Rattle.vh_elab_declare.specs.Constants.{genvars_in}
use Rattle.vh_elab_declare.proofs.genvars.genvars_in.Given as goal

-- Those so far, with those of the scopes that are left, are all of them.
abbrev pub invariant-loop-scope : goal.invariant-loop-scope
invariant-loop-scope l = l.all.items ++ genvars_in l.genvars (drop l.scope-index l.around) ≡ genvars_in l.genvars l.around

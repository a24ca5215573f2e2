-- None of those so far is it.
use Rattle.std.proofs.Common.{◌≡◌, drop}
use Rattle.vh_app_script.specs.Env.{is_among}
use Rattle.vh_app_script.proofs.app.is_earlier.Given as goal

abbrev pub invariant-loop-one : goal.invariant-loop-one
invariant-loop-one l = is_among l.earlier l.name ≡ is_among (drop l.one-index l.earlier) l.name

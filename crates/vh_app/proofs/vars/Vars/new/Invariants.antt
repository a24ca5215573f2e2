use Rattle.std.proofs.Common.{◌≡◌, replicate}
use Rattle.vh_base.specs.declared.orders.Answer.TheVariants.{Null}
use Rattle.vh_app.proofs.vars.Vars.new.Given as goal

abbrev pub invariant-loop : goal.invariant-loop
invariant-loop l = l.values.items ≡ replicate l.counter Null

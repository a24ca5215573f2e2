use Rattle.std.proofs.Common.{◌≡◌, ◌*◌, false}
use Rattle.vh_logic.specs.Vector.{width_of}
use Rattle.vh_eval.specs.Operators.{times}
use Rattle.vh_eval.proofs.operators.repeated.Given as goal

-- The value so many times so far.
abbrev pub invariant-loop : goal.invariant-loop
invariant-loop l = record {
  digits : l.all ≡ (record { digits = times l.counter l.v.digits; signed = false });
  width : width_of l.all ≡ l.counter * width_of l.v;
}

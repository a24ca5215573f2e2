-- A step squares the base, and halves the exponent.
use Rattle.std.proofs.Common.{◌^◌, ◌∙◌, arith}
use Rattle.vh_logic.specs.declared.vector.TheConstants.{MAX_WIDTH}
use Rattle.vh_logic.proofs.ArithmeticLemmas.{power-even, power-odd}
use Rattle.vh_logic.proofs.arithmetic.wrapping_power.Goals as goal
use Rattle.vh_logic.proofs.arithmetic.wrapping_power.Goals.{then-left-eq1, else-left-eq1}

pub loop-left-preserved : goal.loop-left-preserved
loop-left-preserved c =
    elim c.if-left-eq1.branch [
      | then-left-eq1 w ↦ rw w.power-is (power-odd (2 ^ MAX_WIDTH) c.loop-left.power c.loop-left.square c.loop-left.left w.if-left-eq1.true ∙ c.loop-left.invariant)
      | else-left-eq1 w ↦ rw w.power-is (power-even (2 ^ MAX_WIDTH) c.loop-left.power c.loop-left.square c.loop-left.left (omega arith) ∙ c.loop-left.invariant)
    ]

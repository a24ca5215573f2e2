use Rattle.std.proofs.Common.{rules, arith}
use Rattle.vh_wheel.proofs.FlagsLemmas.{first-flag}
use Rattle.vh_wheel.proofs.occupied.Occupied.first.Goals as goal

pub returns-then-word-ne0-clause-some : goal.returns-then-word-ne0-clause-some
returns-then-word-ne0-clause-some g c =
    first-flag c.args.self.now c.loop-position.position c.loop-position-test.true (omega arith) (search rules) c.loop-position.invariant.1

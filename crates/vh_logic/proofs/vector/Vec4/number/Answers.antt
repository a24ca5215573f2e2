-- A number is known if no bit of the second plane is set.
use Rattle.std.proofs.Common.{sym, ◌∙◌, eqb}
use Rattle.std.proofs.lemmas.Nat.{pow_pos}
use Rattle.std.proofs.lemmas.Bool.{cond-false, ne_eqb}
use Rattle.vh_logic.proofs.NumberLemmas.{known_number-planes}
use Rattle.vh_logic.proofs.vector.Vec4.number.Goals as goal

pub returns-then-self-eq0 : goal.returns-then-self-eq0
returns-then-self-eq0 c =
    rw (← c.self.view_is, c.if-self-eq0.true) (sym (known_number-planes c.self.inside.width c.self.inside.aval 0 c.self.invariant.2 (pow_pos _)))

pub returns-else-self-eq0 : goal.returns-else-self-eq0
returns-else-self-eq0 c =
    rw (← c.self.view_is) (sym (known_number-planes _ _ c.self.inside.bval c.self.invariant.2 c.self.invariant.3
    ∙ cond-false (eqb c.self.inside.bval 0) _ _ (ne_eqb _ 0 c.if-self-eq0.false)))

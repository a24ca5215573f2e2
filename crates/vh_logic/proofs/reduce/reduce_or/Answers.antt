-- A 1 decides, and else an x or z.
use Rattle.std.proofs.Common.{refl}
use Rattle.std.proofs.lemmas.Bool.{eq-eqb, ne_eqb}
use Rattle.vh_logic.proofs.TestLemmas.{reduced_or}
use Rattle.vh_logic.proofs.reduce.reduce_or.Goals as goal

pub returns-then-a-ne0 : goal.returns-then-a-ne0
returns-then-a-ne0 c = rw (← c.a.view_is, reduced_or c.a.inside.width c.a.inside.aval c.a.inside.bval c.a.invariant.2 c.a.invariant.3, ne_eqb _ 0 c.if-a-ne0.true) refl

pub returns-then-a-ne0-2 : goal.returns-then-a-ne0-2
returns-then-a-ne0-2 c = rw (← c.a.view_is, reduced_or c.a.inside.width c.a.inside.aval c.a.inside.bval c.a.invariant.2 c.a.invariant.3, eq-eqb _ 0 c.if-a-ne0.false, ne_eqb _ 0 c.if-a-ne0-2.true) refl

pub returns-else-a-ne0-2 : goal.returns-else-a-ne0-2
returns-else-a-ne0-2 c = rw (← c.a.view_is, reduced_or c.a.inside.width c.a.inside.aval c.a.inside.bval c.a.invariant.2 c.a.invariant.3, eq-eqb _ 0 c.if-a-ne0.false, eq-eqb _ 0 c.if-a-ne0-2.false) refl

-- A plane marks the positions that hold 0 against 1, and another those with an x or z.
use Rattle.std.proofs.Common.{refl}
use Rattle.std.proofs.lemmas.Bool.{eq-eqb, ne_eqb}
use Rattle.vh_logic.proofs.CompareLemmas.{equality-vectors}
use Rattle.vh_logic.proofs.compare.equal.Goals as goal

pub returns-then-a-b-ne0 : goal.returns-then-a-b-ne0
returns-then-a-b-ne0 c = rw (equality-vectors _ _ _ _ _ _ _ _ _ _ c.a.view_is c.b.view_is c.requires c.a.invariant.2 c.a.invariant.3 c.b.invariant.2 c.b.invariant.3, ne_eqb _ 0 c.if-a-b-ne0.true) refl

pub returns-then-unknown-ne0 : goal.returns-then-unknown-ne0
returns-then-unknown-ne0 c =
    rw (equality-vectors _ _ _ _ _ _ _ _ _ _ c.a.view_is c.b.view_is c.requires c.a.invariant.2 c.a.invariant.3 c.b.invariant.2 c.b.invariant.3, eq-eqb _ 0 c.if-a-b-ne0.false, ne_eqb _ 0 c.if-unknown-ne0.true) refl

pub returns-else-unknown-ne0 : goal.returns-else-unknown-ne0
returns-else-unknown-ne0 c =
    rw (equality-vectors _ _ _ _ _ _ _ _ _ _ c.a.view_is c.b.view_is c.requires c.a.invariant.2 c.a.invariant.3 c.b.invariant.2 c.b.invariant.3, eq-eqb _ 0 c.if-a-b-ne0.false, eq-eqb _ 0 c.if-unknown-ne0.false) refl

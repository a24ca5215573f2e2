-- A 0 decides, and else an x or z.
use Rattle.std.proofs.Common.{◌≡◌, ℕ, ◌^◌, ◌-◌, sym, refl, ap, ◌∙◌, bit_or}
use Rattle.std.specs.Prelude.{bit_xor}
use Rattle.std.specs.Int.Bits.{xor_self}
use Rattle.std.proofs.lemmas.Bool.{eq-eqb, ne_eqb}
use Rattle.vh_logic.proofs.TestLemmas.{reduced_and, xor_zero_same}
use Rattle.vh_logic.proofs.reduce.reduce_and.Goals as goal

pub returns-then-a-mask : goal.returns-then-a-mask
returns-then-a-mask c = rw (← c.a.view_is, reduced_and c.a.inside.width c.a.inside.aval c.a.inside.bval c.a.invariant.2 c.a.invariant.3, ne_eqb (bit_xor (bit_or c.a.inside.aval c.a.inside.bval) (2 ^ c.a.inside.width - 1)) 0 (λ e. c.if-a-mask.true (xor_zero_same (bit_or c.a.inside.aval c.a.inside.bval) (2 ^ c.a.inside.width - 1) e ∙ sym c.mask.ensures))) refl

-- No digit is 0
full : (u m M : ℕ) → u ≡ m → m ≡ M → bit_xor u M ≡ 0
full u m M e f = ap (λ n. bit_xor n M) (e ∙ f) ∙ xor_self M

pub returns-then-a-ne0 : goal.returns-then-a-ne0
returns-then-a-ne0 c = rw (← c.a.view_is, reduced_and c.a.inside.width c.a.inside.aval c.a.inside.bval c.a.invariant.2 c.a.invariant.3, eq-eqb _ 0 (full _ _ _ c.if-a-mask.false c.mask.ensures), ne_eqb _ 0 c.if-a-ne0.true) refl

pub returns-else-a-ne0 : goal.returns-else-a-ne0
returns-else-a-ne0 c = rw (← c.a.view_is, reduced_and c.a.inside.width c.a.inside.aval c.a.inside.bval c.a.invariant.2 c.a.invariant.3, eq-eqb _ 0 (full _ _ _ c.if-a-mask.false c.mask.ensures), eq-eqb _ 0 c.if-a-ne0.false) refl

use Rattle.std.proofs.Common.{◌≡◌, ◌∙◌, ◌≤◌, ℕ, ap, arith, sym, refl, Bool, true, false, nat_lt}
use Rattle.std.specs.Prelude.{not, ◌&&◌}
use Rattle.std.proofs.lemmas.Bool.{lt-ltb, ltb-true}
use Rattle.vh_slots.specs.declared.slots.TheConstants.{GENERATIONS}
use Rattle.vh_cases_plain.specs.Views.{under, is_free_one, is_held_one}
use Rattle.vh_cases_plain.proofs.ViewsLemmas.{cell-some, cell-past}
use Rattle.vh_cases_plain.proofs.slots.PlainSlots.is_free.Goals as goal

and_true : (a b : Bool) → b ≡ true → a ≡ (a && b)
and_true true b h = sym h
and_true false b h = refl

and_false : (a b : Bool) → b ≡ false → b ≡ (a && b)
and_false true b h = refl
and_false false b h = h

not_below : (x y : ℕ) (b : Bool) → nat_lt x y ≡ b → y ≤ x → b ≡ false
not_below x y true h least = absurd (let below = ltb-true x y h in omega (arith, below, least))
not_below x y false h least = refl

pub returns-then-generation-lt-GENERATIONS : goal.returns-then-generation-lt-GENERATIONS
returns-then-generation-lt-GENERATIONS g c =
    let cell = cell-some c.self.inside.generations.items (under c.self.inside.values) c.self.inside.limit c.self.inside.first c.args.slot c.in-Some.generation
    c.args.self.now c.self.view_is (sym c.generation_at.ensures ∙ c.in-Some.is) in
    ap not (c.is_held.ensures ∙ ap is_held_one cell)
    ∙ and_true _ (nat_lt c.in-Some.generation GENERATIONS) (lt-ltb c.in-Some.generation GENERATIONS c.if-generation-lt-GENERATIONS.true)
    ∙ sym (ap is_free_one cell)

pub returns-else-generation-lt-GENERATIONS : goal.returns-else-generation-lt-GENERATIONS
returns-else-generation-lt-GENERATIONS g c =
    let cell = cell-some c.self.inside.generations.items (under c.self.inside.values) c.self.inside.limit c.self.inside.first c.args.slot c.in-Some.generation
    c.args.self.now c.self.view_is (sym c.generation_at.ensures ∙ c.in-Some.is) in
    and_false _ (nat_lt c.in-Some.generation GENERATIONS)
    (not_below c.in-Some.generation GENERATIONS (nat_lt c.in-Some.generation GENERATIONS) refl c.if-generation-lt-GENERATIONS.false)
    ∙ sym (ap is_free_one cell)

pub returns-in-None : goal.returns-in-None
returns-in-None g c =
    sym (ap is_free_one
    (cell-past c.self.inside.generations.items (under c.self.inside.values) c.self.inside.limit c.self.inside.first c.args.slot
    c.args.self.now c.self.view_is (sym c.generation_at.ensures ∙ c.in-None.is)))

-- A turn of a loop that is looked at is the next one, and behind the last nothing is made.
use Rattle.std.proofs.Common.{◌≡◌, ◌∙◌, ◌+◌, ◌-◌, ◌<◌, ◌≤◌, ℕ, suc, Bool, true, false, List, ap, sym, refl, arith}
use Rattle.std.specs.Prelude.{ℤ}
use Rattle.vh_elab_sites.specs.Blocks.{Choice}
use Rattle.vh_elab_sites.specs.Sites.{Sites}
use Rattle.vh_elab_instances.specs.Instances.{Making, first_choice, next_turn, one_turn, other_choices, taken, turns_made}

turns-next : (j : ℕ) (block : ℤ → Making → Making) (m : Making)
    → turns_made (suc j) block m
    ≡ next_turn (turns_made j block) (one_turn block (first_choice m.left) (taken m))
unfolding turns_made
turns-next j block m = refl

turns-none : (k : ℕ) (block : ℤ → Making → Making) (m : Making) → k ≡ 0
    → turns_made k block m ≡ m
unfolding turns_made
turns-none k block m is = ap (λ n. turns_made n block m) is

-- Choices of which one is taken, with the sites so far.
pub taken-left : (so : Sites) (m : Making) (all : List Choice) → so ≡ m.sites
    → all ≡ other_choices m.left → record { sites = so; left = all } ≡ taken m
taken-left so m all same others = λ i. record { sites = same i; left = others i }

turn-was : (k j : ℕ) (block : ℤ → Making → Making) (m t n : Making) (c : Choice) (more : Bool)
    → k ≡ suc j → c ≡ first_choice m.left → t ≡ taken m → (more, n) ≡ one_turn block c t
    → turns_made k block m ≡ next_turn (turns_made j block) (more, n)
turn-was k j block m t n c more is first rest made =
    ap (λ l. turns_made l block m) is ∙ turns-next j block m
    ∙ ap (next_turn (turns_made j block))
    (sym (made ∙ ap (λ d. one_turn block d t) first
    ∙ ap (one_turn block (first_choice m.left)) rest))

-- There is a turn: those that are left are one less.
pub turn-more : (most i : ℕ) (block : ℤ → Making → Making) (m t n all : Making) (c : Choice)
    (more : Bool) → i < most → c ≡ first_choice m.left → t ≡ taken m
    → (more, n) ≡ one_turn block c t → more ≡ true
    → turns_made (most - i) block m ≡ all → turns_made (most - (i + 1)) block n ≡ all
turn-more most i block m t n all c more within first rest made is was =
    let next : most - i ≡ suc (most - (i + 1)) = omega arith in
    sym (turn-was (most - i) (most - (i + 1)) block m t n c more next first rest made
    ∙ ap (λ (b : Bool). next_turn (turns_made (most - (i + 1)) block) (b, n)) is) ∙ was

-- There is none.
pub turn-last : (most i : ℕ) (block : ℤ → Making → Making) (m t n all : Making) (c : Choice)
    (more : Bool) → i < most → c ≡ first_choice m.left → t ≡ taken m
    → (more, n) ≡ one_turn block c t → more ≡ false
    → turns_made (most - i) block m ≡ all → n ≡ all
turn-last most i block m t n all c more within first rest made is was =
    let next : most - i ≡ suc (most - (i + 1)) = omega arith in
    sym (turn-was (most - i) (most - (i + 1)) block m t n c more next first rest made
    ∙ ap (λ (b : Bool). next_turn (turns_made (most - (i + 1)) block) (b, n)) is) ∙ was

-- All turns were looked at.
pub turn-end : (most i : ℕ) (block : ℤ → Making → Making) (m all : Making) → most ≤ i
    → turns_made (most - i) block m ≡ all → m ≡ all
turn-end most i block m all behind was =
    let none : most - i ≡ 0 = omega arith in sym (turns-none (most - i) block m none) ∙ was

-- A turn of a loop that is looked at is the next one, and behind the last nothing is made.
use Rattle.std.proofs.Common.{◌≡◌, ◌∙◌, ◌+◌, ◌-◌, ◌<◌, ◌≤◌, ℕ, suc, List, [], Option, Some, None, ap, sym, refl, arith}
use Rattle.vh_logic.specs.Vector.{Vector}
use Rattle.vh_elab_declare.specs.Constants.{Home}
use Rattle.vh_elab_unroll.specs.Constructs.{Head, Making, Stepped, Unrolling, next_turn, one_step, turns, with_next}

turns-next : (j : ℕ) (h : Home) (d : Head) (block : Making) (seen : List ℕ) (v : Vector) (u : Unrolling)
    → turns (suc j) h d block seen v u ≡ next_turn (turns j h d block) (one_step h d block seen v u)
unfolding turns
turns-next j h d block seen v u = refl

turns-none : (k : ℕ) (h : Home) (d : Head) (block : Making) (seen : List ℕ) (v : Vector) (u : Unrolling)
    → k ≡ 0 → turns k h d block seen v u ≡ u
unfolding turns
turns-none k h d block seen v u is = ap (λ n. turns n h d block seen v u) is

turn-was : (k j : ℕ) (h : Home) (d : Head) (block : Making) (seen after : List ℕ) (v : Vector) (u t : Unrolling)
    (r o : Option Vector) → k ≡ suc j → record { next = r; seen = after; state = t } ≡ one_step h d block seen v u
    → r ≡ o → turns k h d block seen v u ≡ with_next (turns j h d block) o after t
turn-was k j h d block seen after v u t r o is made found =
    ap (λ l. turns l h d block seen v u) is ∙ turns-next j h d block seen v u
    ∙ ap (next_turn (turns j h d block)) (sym made)
    ∙ ap (λ (x : Option Vector). with_next (turns j h d block) x after t) found

-- Before the first turn no value was there.
pub turn-first : (most : ℕ) (h : Home) (d : Head) (block : Making) (seen : List ℕ) (v : Vector) (u : Unrolling)
    → seen ≡ [] → turns (most - 0) h d block seen v u ≡ turns most h d block [] v u
turn-first most h d block seen v u is =
    let none : most - 0 ≡ most = omega arith in
    ap (λ n. turns n h d block seen v u) none ∙ ap (λ (s : List ℕ). turns most h d block s v u) is

-- There is a turn: those that are left are one less.
pub turn-more : (most i : ℕ) (h : Home) (d : Head) (block : Making) (seen after : List ℕ) (v w : Vector)
    (u t all : Unrolling) (r : Option Vector) → i < most
    → record { next = r; seen = after; state = t } ≡ one_step h d block seen v u → r ≡ Some w
    → turns (most - i) h d block seen v u ≡ all → turns (most - (i + 1)) h d block after w t ≡ all
turn-more most i h d block seen after v w u t all r within made found was =
    let next : most - i ≡ suc (most - (i + 1)) = omega arith in
    sym (turn-was (most - i) (most - (i + 1)) h d block seen after v u t r (Some w) next made found) ∙ was

-- There is none.
pub turn-last : (most i : ℕ) (h : Home) (d : Head) (block : Making) (seen after : List ℕ) (v : Vector)
    (u t all : Unrolling) (r : Option Vector) → i < most
    → record { next = r; seen = after; state = t } ≡ one_step h d block seen v u → r ≡ None
    → turns (most - i) h d block seen v u ≡ all → t ≡ all
turn-last most i h d block seen after v u t all r within made found was =
    let next : most - i ≡ suc (most - (i + 1)) = omega arith in
    sym (turn-was (most - i) (most - (i + 1)) h d block seen after v u t r None next made found) ∙ was

-- All turns were looked at.
pub turn-end : (most i : ℕ) (h : Home) (d : Head) (block : Making) (seen : List ℕ) (v : Vector) (u all : Unrolling)
    → most ≤ i → turns (most - i) h d block seen v u ≡ all → u ≡ all
turn-end most i h d block seen v u all behind was =
    let none : most - i ≡ 0 = omega arith in sym (turns-none (most - i) h d block seen v u none) ∙ was

-- The number of zeros that is looked at is the next one, and behind the last none is.
use Rattle.std.proofs.Common.{◌≡◌, ◌∙◌, ◌+◌, ◌-◌, ◌<◌, ◌≤◌, ℕ, suc, Bool, true, false, ap, sym, refl, arith}
use Rattle.std.specs.Prelude.{if◌then◌else◌, is_none}
use Rattle.vh_bind_scope.specs.Names.{Names, meaning_in}
use Rattle.vh_elab_sites.specs.Blocks.{BlockText, counted, text_bytes}
use Rattle.vh_elab_unroll.specs.Constructs.{free_text, most_zeros}

free-next : (j : ℕ) (ns : Names) (scope z n : ℕ) → free_text (suc j) ns scope z n
    ≡ (if is_none (meaning_in ns scope (text_bytes (counted z n))) then counted z n
    else free_text j ns scope (z + 1) n)
unfolding free_text
free-next j ns scope z n = refl

free-none : (k : ℕ) (ns : Names) (scope z n : ℕ) → k ≡ 0
    → free_text k ns scope z n ≡ counted most_zeros n
unfolding free_text
free-none k ns scope z n is = ap (λ l. free_text l ns scope z n) is

free-was : (k j : ℕ) (ns : Names) (scope z n : ℕ) (free other : Bool) → k ≡ suc j
    → free ≡ is_none (meaning_in ns scope (text_bytes (counted z n))) → free ≡ other
    → free_text k ns scope z n ≡ (if other then counted z n else free_text j ns scope (z + 1) n)
free-was k j ns scope z n free other is told same =
    ap (λ l. free_text l ns scope z n) is ∙ free-next j ns scope z n
    ∙ ap (λ (b : Bool). if b then counted z n else free_text j ns scope (z + 1) n) (sym told ∙ same)

-- It isn't free: those that are left are one less.
pub free-more : (most i : ℕ) (ns : Names) (scope n : ℕ) (free : Bool) (all : BlockText) → i < most
    → free ≡ is_none (meaning_in ns scope (text_bytes (counted i n))) → free ≡ false
    → free_text (most - i) ns scope i n ≡ all → free_text (most - (i + 1)) ns scope (i + 1) n ≡ all
free-more most i ns scope n free all within told not was =
    let next : most - i ≡ suc (most - (i + 1)) = omega arith in
    sym (free-was (most - i) (most - (i + 1)) ns scope i n free false next told not) ∙ was

-- It is.
pub free-found : (most i : ℕ) (ns : Names) (scope n : ℕ) (free : Bool) (all : BlockText) → i < most
    → free ≡ is_none (meaning_in ns scope (text_bytes (counted i n))) → free ≡ true
    → free_text (most - i) ns scope i n ≡ all → counted i n ≡ all
free-found most i ns scope n free all within told is was =
    let next : most - i ≡ suc (most - (i + 1)) = omega arith in
    sym (free-was (most - i) (most - (i + 1)) ns scope i n free true next told is) ∙ was

-- All were looked at.
pub free-end : (most i : ℕ) (ns : Names) (scope n : ℕ) (all : BlockText) → most ≤ i
    → free_text (most - i) ns scope i n ≡ all → counted most_zeros n ≡ all
free-end most i ns scope n all behind was =
    let none : most - i ≡ 0 = omega arith in sym (free-none (most - i) ns scope i n none) ∙ was

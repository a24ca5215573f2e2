use Rattle.std.proofs.Common.{◌≡◌, Some, arith, ap, ◌∙◌, sym, ◌^◌, ◌<◌, ◌-◌, ◌+◌, length, ℕ, Bool, true}
use Rattle.std.specs.Prelude.{ℤ, pos, neg_ℤ}
use Rattle.vh_logic.specs.Number.{integer_at}
use Rattle.vh_text.proofs.TextsLemmas.{known_number-lt, integer_of-known, twos_complement-negative, twos_complement-positive}
use Rattle.vh_text.proofs.text.negative_size.Goals as goal
use Rattle.vh_text.proofs.text.negative_size.Goals.{else-is_signed-via-then-is_signed+else-n-width-eq1, else-is_signed-via-else-is_signed}

-- The number is below the power of its width
below : (n m w : ℕ) → n < 2 ^ m → w ≡ m → n < 2 ^ w
below n m w h e = let p : 2 ^ w ≡ 2 ^ m = ap (λ k. 2 ^ k) e in omega (arith, p)

pub overflow_sub-result : goal.overflow_sub-result
overflow_sub-result c = omega (arith, c.mask.ensures, below _ _ _ (known_number-lt _ _ c.requires) c.width-width.ensures.value)

pub returns-then-n-width-eq1-clause-value : goal.returns-then-n-width-eq1-clause-value
returns-then-n-width-eq1-clause-value c =
    let w = c.width-width.ensures in
    let size : 2 ^ c.width-width.result - c.args.n ≡ c.mask.result - c.args.n + 1 =
    omega (arith, c.mask.ensures, below _ _ _ (known_number-lt _ _ c.requires) w.value) in
    integer_of-known _ _ c.requires
    ∙ ap (λ (s : Bool). Some (integer_at (length c.args.v.now.digits) s c.args.n)) (sym c.is_signed.ensures ∙ c.if-is_signed.true)
    ∙ ap (λ k. Some (integer_at k true c.args.n)) (sym w.value)
    ∙ ap (λ (z : ℤ). Some z) (twos_complement-negative c.width-width.result c.args.n w.least c.if-n-width-eq1.true)
    ∙ ap (λ k. Some (neg_ℤ (pos k))) size

pub returns-clause-value : goal.returns-clause-value
returns-clause-value c =
    let w = c.width-width.ensures in
    let n<2^w : c.args.n < 2 ^ c.width-width.result = below _ _ _ (known_number-lt _ _ c.requires) w.value in
    integer_of-known _ _ c.requires
    ∙ elim c.else-is_signed.branch [
      | else-is_signed-via-then-is_signed+else-n-width-eq1 b ↦
          ap (λ (s : Bool). Some (integer_at (length c.args.v.now.digits) s c.args.n)) (sym c.is_signed.ensures ∙ b.if-is_signed.true)
          ∙ ap (λ k. Some (integer_at k true c.args.n)) (sym w.value)
          ∙ ap (λ (z : ℤ). Some z) (twos_complement-positive c.width-width.result c.args.n w.least n<2^w b.if-n-width-eq1.false)
      | else-is_signed-via-else-is_signed b ↦
          ap (λ (s : Bool). Some (integer_at (length c.args.v.now.digits) s c.args.n)) (sym c.is_signed.ensures ∙ b.if-is_signed.false)
    ]

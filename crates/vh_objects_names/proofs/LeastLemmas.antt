-- Lemmas on the first that is meant.
use Rattle.std.proofs.Common.{◌≡◌, ◌∙◌, ◌<◌, ◌≤◌, ◌+◌, ℕ, zero, suc, Option, Some, None, is_some, true, false, refl, sym, ap, subst, arith, add-one, ◌⊎◌, inl, inr}
use Rattle.std.specs.Option.{option_or}
use Rattle.vh_base.specs.declared.orders.Object.{Object}
use Rattle.vh_objects_names.specs.Paths.{least_below}

pub least_zero : (f : ℕ → Option Object) → least_below f 0 ≡ None
unfolding least_below
least_zero f = refl

least_next : (f : ℕ → Option Object) (n : ℕ) → least_below f (suc n) ≡ option_or (least_below f n) (f n)
unfolding least_below
least_next f n = refl

pub least_more : (f : ℕ → Option Object) (n : ℕ) → least_below f n ≡ None → least_below f (n + 1) ≡ f n
least_more f n none = ap (least_below f) (add-one n) ∙ least_next f n ∙ ap (λ (x : Option Object). option_or x (f n)) none

at_or_below : (k n : ℕ) → k ≤ suc n → (k ≡ suc n) ⊎ (k ≤ n)
at_or_below k n h = grind arith

-- What was found stays the first.
pub least-stays : (f : ℕ → Option Object) (k n : ℕ) (x : Object) → k ≤ n → least_below f k ≡ Some x → least_below f n ≡ Some x
least-stays f k zero x h is = let same : k ≡ 0 = omega (arith, h) in ap (least_below f) (sym same) ∙ is
least-stays f k (suc n) x h is =
    elim (at_or_below k n h) [
      | inl same ↦ ap (least_below f) (sym same) ∙ is
      | inr below ↦ least_next f n ∙ ap (λ (y : Option Object). option_or y (f n)) (least-stays f k n x below is)
    ]

or-none : (a b : Option Object) → option_or a b ≡ None → (a ≡ None) × (b ≡ None)
or-none None b h = (refl, h)
or-none (Some x) b h = absurd (cc)

-- Where none was found, none is meant.
pub least-none : (f : ℕ → Option Object) (n j : ℕ) → least_below f n ≡ None → j < n → f j ≡ None
least-none f zero j none h = absurd (omega (arith, h))
least-none f (suc n) j none h =
    let both = or-none (least_below f n) (f n) (sym (least_next f n) ∙ none) in
    elim (at_or_below (suc j) n (omega (arith, h))) [
      | inl same ↦ let here : n ≡ j = omega (arith, same) in ap f (sym here) ∙ both.1
      | inr below ↦ least-none f n j both.0 (omega (arith, below))
    ]

-- What a look at one object more answers.
pub found-value : (f : ℕ → Option Object) (k n : ℕ) (x : Option Object) → k < n → least_below f k ≡ None → x ≡ f k → is_some x ≡ true
    → x ≡ least_below f n
found-value f k n None inside none is some = absurd (cc)
found-value f k n (Some o) inside none is some =
    sym (least-stays f (k + 1) n o (omega (arith, inside)) (least_more f k none ∙ sym is))

pub lost-value : (f : ℕ → Option Object) (k : ℕ) (x : Option Object) → least_below f k ≡ None → x ≡ f k → is_some x ≡ false
    → least_below f (k + 1) ≡ None
lost-value f k None none is some = least_more f k none ∙ sym is
lost-value f k (Some o) none is some = absurd (cc)

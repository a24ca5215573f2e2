-- What an opening agenda is made of, one startup after another.
use Rattle.std.proofs.Common.{◌≡◌, ◌∙◌, ◌<◌, ◌+◌, ◌-◌, ◌∷◌, ◌++◌, [], List, map, ℕ, zero, suc, refl, ap, arith}
use Rattle.std.proofs.lemmas.List.{map-append}
use Rattle.std.specs.List.{range_with_len}
use Rattle.vh_kernel.specs.declared.occurrence.Agendum.TheVariants as agendum
use Rattle.vh_kernel.specs.State.{startups}

-- The startups that are left begin with the next one.
pub startups_next : (n i : ℕ) → i < n → startups (i + 1) (n - i) ≡ agendum.Startup (i + 1) ∷ startups (i + 1 + 1) (n - (i + 1))
startups_next n i below = let e : n - i ≡ suc (n - (i + 1)) = omega arith in rw e refl

-- One more of the objects by number.
range-more : (n a : ℕ) → range_with_len a (suc n) ≡ range_with_len a n ++ (a + n) ∷ []
range-more zero a = let e : a ≡ a + 0 = omega arith in ap (λ (x : ℕ). x ∷ []) e
range-more (suc n) a =
    let e : a + 1 + n ≡ a + suc n = omega arith in
    ap (λ (l : List ℕ). a ∷ l) (range-more n (a + 1) ∙ ap (λ (x : ℕ). range_with_len (a + 1) n ++ x ∷ []) e)

pub map-more : {X : Type 0} (f : ℕ → X) (n : ℕ) → map f (range_with_len 0 (n + 1)) ≡ map f (range_with_len 0 n) ++ f n ∷ []
map-more {X} f n =
    let e : n + 1 ≡ suc n = omega arith in let z : 0 + n ≡ n = omega arith in
    ap (λ (k : ℕ). map f (range_with_len 0 k)) e ∙ ap (map f) (range-more n 0) ∙ map-append f (range_with_len 0 n) ((0 + n) ∷ [])
    ∙ ap (λ (k : ℕ). map f (range_with_len 0 n) ++ f k ∷ []) z

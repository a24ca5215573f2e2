-- Numbers given in order from 0 on, seen as a test and a count.
use Rattle.std.proofs.Common.{◌≡◌, ◌+◌, ◌<◌, ◌≤◌, ◌⊎◌, inl, inr, refl, ap, zero, suc, ℕ, Bool, true, false, ◌||◌, nat_eq, nat_lt, arith}
use Rattle.std.proofs.Math.Path.{fun_ext}
use Rattle.std.proofs.lemmas.Bool.{ltb-true, ltb-false, lt-ltb, le-ltb, eqb-true, eq-eqb}

-- The next number was never given.
pub next-new : (n : ℕ) → nat_lt n n ≡ false
next-new n = le-ltb n n (omega arith)

le-or : (k n : ℕ) → n ≤ k → (k ≡ n) ⊎ (n + 1 ≤ k)
le-or zero zero above = inl refl
le-or (suc k) zero above = inr (omega arith)
le-or zero (suc n) above = absurd (omega arith)
le-or (suc k) (suc n) above = elim (le-or k n (omega arith)) [ inl same ↦ inl (ap suc same) | inr more ↦ inr (omega arith) ]

below-more : (c : Bool) (k n : ℕ) → nat_eq k n ≡ false → nat_lt k n ≡ c → nat_lt k (n + 1) ≡ c
below-more true k n apart low = lt-ltb k (n + 1) (let h = ltb-true k n low in omega arith)
below-more false k n apart high =
    let above : n ≤ k = ltb-false k n high in
    let other : n + 1 ≤ k = elim (le-or k n above) [ inl same ↦ absurd (let e = eq-eqb k n same in cc) | inr more ↦ more ] in
    le-ltb k (n + 1) other

given-by : (b : Bool) (k n : ℕ) → nat_eq k n ≡ b → nat_lt k (n + 1) ≡ (b || nat_lt k n)
given-by true k n is = let same = eqb-true k n is in lt-ltb k (n + 1) (omega arith)
given-by false k n is = below-more (nat_lt k n) k n is refl

-- With it given, so many more are given.
pub given-more : (n : ℕ)
    → (let f : ℕ → Bool = λ k. nat_lt k (n + 1) in f) ≡ (let g : ℕ → Bool = λ k. nat_eq k n || nat_lt k n in g)
given-more n = fun_ext (λ k. given-by (nat_eq k n) k n refl)

-- Runs of bytes, in a front of them that holds the run.
use Rattle.std.proofs.Common.{◌≡◌, ℕ, zero, suc, ◌+◌, ◌≤◌, ◌⊎◌, inl, inr, Bool, true, false, cond, ◌&&◌, ◌||◌, List, [], ◌∷◌, ◌++◌, length, take, drop, nat_eq, refl, ap, sym, ◌∙◌, arith}
use Rattle.std.specs.List.{prefix_len}
use Rattle.vh_lex.specs.Bytes.{begins, begins_with}

pub take-beginning : (n : ℕ) (xs ys : List ℕ) → n ≤ length xs → take n (xs ++ ys) ≡ take n xs
take-beginning zero xs ys h = refl
take-beginning (suc n) [] ys h = absurd (omega arith)
take-beginning (suc n) (x ∷ xs) ys h = ap (λ l. x ∷ l) (take-beginning n xs ys (omega arith))

pub drop-beginning : (n : ℕ) (xs ys : List ℕ) → n ≤ length xs → drop n (xs ++ ys) ≡ drop n xs ++ ys
drop-beginning zero xs ys h = refl
drop-beginning (suc n) [] ys h = absurd (omega arith)
drop-beginning (suc n) (x ∷ xs) ys h = drop-beginning n xs ys (omega arith)

-- A run that ends there
pub run-same : (p : ℕ → Bool) (xs ys : List ℕ) → prefix_len p (xs ++ ys) ≤ length xs → prefix_len p xs ≡ prefix_len p (xs ++ ys)
run-same p [] ys h = omega arith
run-same p (x ∷ xs) ys h = by (p x) refl (λ k. run-same p xs ys k) h
  where
    by : (t : Bool) → p x ≡ t → (prefix_len p (xs ++ ys) ≤ length xs → prefix_len p xs ≡ prefix_len p (xs ++ ys)) → cond t (1 + prefix_len p (xs ++ ys)) 0 ≤ suc (length xs)
        → cond t (1 + prefix_len p xs) 0 ≡ cond t (1 + prefix_len p (xs ++ ys)) 0
    by true e g k = ap (λ n. 1 + n) (g (omega arith))
    by false e g k = refl

-- A run that goes on behind them
pub run-whole : (p : ℕ → Bool) (xs ys : List ℕ) → (prefix_len p xs ≡ prefix_len p (xs ++ ys)) ⊎ (prefix_len p xs ≡ length xs)
run-whole p [] ys = inr refl
run-whole p (x ∷ xs) ys = by (p x) (run-whole p xs ys)
  where
    by : (t : Bool) → (prefix_len p xs ≡ prefix_len p (xs ++ ys)) ⊎ (prefix_len p xs ≡ length xs)
        → (cond t (1 + prefix_len p xs) 0 ≡ cond t (1 + prefix_len p (xs ++ ys)) 0) ⊎ (cond t (1 + prefix_len p xs) 0 ≡ suc (length xs))
    by true (inl e) = inl (ap (λ n. 1 + n) e)
    by true (inr e) = inr (omega arith)
    by false e = inl refl

pub run-inside : (p : ℕ → Bool) (xs : List ℕ) → prefix_len p xs ≤ length xs
run-inside p [] = omega arith
run-inside p (x ∷ xs) = by (p x) (run-inside p xs)
  where
    by : (t : Bool) → prefix_len p xs ≤ length xs → cond t (1 + prefix_len p xs) 0 ≤ suc (length xs)
    by true h = omega arith
    by false h = omega arith

pub drop-all : (xs : List ℕ) → drop (length xs) xs ≡ []
drop-all [] = refl
drop-all (x ∷ xs) = drop-all xs

-- What stands at the front
pub begins-beginning : (p : ℕ → Bool) (xs ys : List ℕ) → begins p xs ≡ true → begins p (xs ++ ys) ≡ true
begins-beginning p [] ys e = cc
begins-beginning p (x ∷ xs) ys e = e

pub begins-same : (p : ℕ → Bool) (xs ys : List ℕ) → 1 ≤ length xs → begins p (xs ++ ys) ≡ begins p xs
begins-same p [] ys h = absurd (omega arith)
begins-same p (x ∷ xs) ys h = refl

pub and-more : (a b c : Bool) → (b ≡ true → c ≡ true) → (a && b) ≡ true → (a && c) ≡ true
and-more true b c h e = h e
and-more false b c h e = e

pub or-more : (a b c d : Bool) → (a ≡ true → c ≡ true) → (b ≡ true → d ≡ true) → (a || b) ≡ true → (c || d) ≡ true
or-more true b c d h k e = ap (λ x. x || d) (h refl)
or-more false b true d h k e = refl
or-more false b false d h k e = k e

pub pair-beginning : (f s : ℕ) (xs ys : List ℕ) → begins_with f s xs ≡ true → begins_with f s (xs ++ ys) ≡ true
pair-beginning f s [] ys e = cc
pair-beginning f s (x ∷ xs) ys e = and-more (nat_eq x f) (begins (λ b. nat_eq b s) xs) (begins (λ b. nat_eq b s) (xs ++ ys)) (begins-beginning (λ b. nat_eq b s) xs ys) e

pub not-beginning : (a b : Bool) → (a ≡ true → b ≡ true) → b ≡ false → a ≡ false
not-beginning true b h e = let k = sym (h refl) ∙ e in cc
not-beginning false b h e = refl

-- The number that digits spell, a digit at a time.
use Rattle.std.proofs.Common.{◌≡◌, ℕ, ◌+◌, ◌-◌, ◌*◌, ◌<◌, ◌≤◌, List, [], ◌∷◌, Some, None, subst, fold, length, get_or, arith}
use Rattle.std.proofs.lemmas.Bool.Decides.{nat_tests}
use Rattle.vh_app_script.specs.Spelling.{below_limit}

-- The number after more digits
abbrev pub number_from : ℕ → List ℕ → ℕ
number_from n spelling = fold (λ n byte. 10 * n + (byte - 48)) n spelling

number-grows : (n : ℕ) (spelling : List ℕ) → n ≤ number_from n spelling
number-grows n [] = omega arith
number-grows n (byte ∷ more) = let grown = number-grows (10 * n + (byte - 48)) more in omega (arith, grown)

below-none : (n : ℕ) → 18446744073709551616 ≤ n → None ≡ below_limit n
below-none n h = grind (arith, nat_tests)

-- A number that is too great already is no number, whatever digits follow
pub too-great : (n whole : ℕ) (rest : List ℕ) → number_from n rest ≡ whole → 1 ≤ length rest → (n * 10 < 18446744073709551616 → ⊥) → None ≡ below_limit whole
too-great n whole [] e some h = absurd (omega arith)
too-great n whole (byte ∷ more) e some h = let grown = number-grows (10 * n + (byte - 48)) more in below-none whole (omega (arith, e, grown, h))

pub too-great_sum : (n tenfold digit whole : ℕ) (rest : List ℕ) → number_from n rest ≡ whole → 1 ≤ length rest → tenfold ≡ n * 10 → digit ≡ get_or rest 0 0 - 48 → (tenfold + digit < 18446744073709551616 → ⊥) → None ≡ below_limit whole
too-great_sum n tenfold digit whole [] e some f g h = absurd (omega arith)
too-great_sum n tenfold digit whole (byte ∷ more) e some f g h = let grown = number-grows (10 * n + (byte - 48)) more in below-none whole (omega (arith, e, grown, f, g, h))

-- A number that fits is a number
pub below-some : (n whole : ℕ) (rest : List ℕ) → number_from n rest ≡ whole → length rest < 1 → n < 18446744073709551616 → Some n ≡ below_limit whole
below-some n whole [] e none h = let P : ℕ → Type 0 = λ k. Some n ≡ below_limit k in subst P e (fits n h)
  where
    fits : (n : ℕ) → n < 18446744073709551616 → Some n ≡ below_limit n
    fits n h = grind (arith, nat_tests)
below-some n whole (byte ∷ more) e none h = absurd (omega arith)

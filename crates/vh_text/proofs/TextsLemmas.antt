-- What the code of texts owes its definitions.
use Rattle.std.proofs.Common.{◌≡◌, ℕ, zero, suc, ◌+◌, ◌-◌, ◌*◌, ◌/◌, ◌%◌, ◌^◌, ◌<◌, ◌≤◌, List, [], ◌∷◌, ◌++◌, length, take, drop, replicate, refl, ap, arith, ◌∙◌, Bool, true, false, cond, leb, Some, None}
use Rattle.std.specs.Prelude.{◌||◌, pos, neg_ℤ}
use Rattle.std.specs.List.{list_all, list_any, slice_get}
use Rattle.std.proofs.lemmas.List.{drop-drop}
use Rattle.std.proofs.lemmas.Nat.{pow_pos, shr_split}
use Rattle.std.proofs.lemmas.Bool.{le-leb}
use Rattle.std.proofs.lemmas.Bool.Decides.{nat_tests}
use Rattle.std.proofs.Math.Nat.{pow-suc}
use denote.Enum.Bare.{sameb}
use Rattle.vh_logic.specs.contracts.digits.Digit.{the_type}
use Rattle.vh_logic.specs.declared.digits.Digit.{Digit}
use Rattle.vh_logic.specs.declared.digits.Digit.TheVariants.{Zero, One, X, Z}
use Rattle.vh_logic.specs.Digit.{is_same, test_digit}
use Rattle.vh_logic.specs.Vector.{Vector, all_positions}
use Rattle.vh_logic.specs.Number.{number_of, digit_value, all_known, known_number, twos_complement, integer_at, integer_of}
use Rattle.vh_logic.proofs.Tables.{by_digits}
use Rattle.vh_text.specs.Texts.{groups_text, character_text}

or_true : (b : Bool) → (b || true) ≡ true
or_true true = refl
or_true false = refl

or_false : (a b : Bool) → (a || b) ≡ false → (a ≡ false) × (b ≡ false)
or_false true b h = cc
or_false false b h = (refl, h)

digit_value-le : (d : Digit) → digit_value d ≤ 1
digit_value-le Zero = omega arith
digit_value-le One = omega arith
digit_value-le X = omega arith
digit_value-le Z = omega arith

lt-leb-false : (a b : ℕ) → b < a → leb a b ≡ false
lt-leb-false a b h = grind (arith, nat_tests)

quotient_cases : (q r p : ℕ) → q * p + r < 2 * p → r < p → (q ≡ 1 → ⊥) → q * p + r < p
quotient_cases zero r p h k n = omega arith
quotient_cases (suc zero) r p h k n = absurd (n refl)
quotient_cases (suc (suc q)) r p h k n = absurd (omega arith)

pub is_same-comm : (d e : Digit) → is_same d e ≡ is_same e d
is_same-comm = by_digits is_same (λ d e. is_same e d) refl

-- A comparison with one digit at each place
pub all_positions-replicate : (d : Digit) (ds : List Digit) → all_positions is_same ds (replicate (length ds) d) ≡ list_all (is_same d) ds
unfolding all_positions
all_positions-replicate d [] = refl
all_positions-replicate d (e ∷ ds) =
    let first = is_same-comm e d in
    let rest = all_positions-replicate d ds in
    cc

-- One more group below those that are written
pub groups_text-more : (n left k : ℕ) (ds : List Digit) → left < n
    → groups_text (n - left) k (drop (left * k) ds)
    ≡ groups_text (n - suc left) k (drop (suc left * k) ds) ++ character_text (take k (drop (left * k) ds))
unfolding groups_text
groups_text-more n left k ds h =
    let count : n - left ≡ suc (n - suc left) = omega arith in
    let next : drop k (drop (left * k) ds) ≡ drop (suc left * k) ds = drop-drop k (left * k) ds ∙ ap (λ i. drop i ds) (omega arith) in
    rw (count, next) refl

groups_text-zero : (k : ℕ) (ds : List Digit) → groups_text 0 k ds ≡ []
unfolding groups_text
groups_text-zero k ds = refl

-- No group is written yet
pub groups_text-none : (n left k : ℕ) (ds : List Digit) → n ≤ left → groups_text (n - left) k (drop (left * k) ds) ≡ []
groups_text-none n left k ds h =
    let none : n - left ≡ 0 = omega arith in ap (λ i. groups_text i k (drop (left * k) ds)) none ∙ groups_text-zero k (drop (left * k) ds)

-- What a derived comparison of digits answers
pub sameb-same : (d e : Digit) → is_same e d ≡ sameb the_type d e
sameb-same = by_digits (λ d e. is_same e d) (sameb the_type) refl

pub sameb-test : (b : Bool) → sameb the_type (test_digit b) One ≡ b
sameb-test true = refl
sameb-test false = refl

-- A test that passes at a place, or at none so far
pub list_any-at : {A : Type 0} (p : A → Bool) (xs : List A) (i : ℕ) (x : A) → slice_get xs i ≡ Some x → p x ≡ true → list_any p xs ≡ true
list_any-at p [] i x h k = cc
list_any-at p (y ∷ ys) zero x h k = let e : y ≡ x = cc in rw (e, k) refl
list_any-at p (y ∷ ys) (suc i) x h k = rw (list_any-at p ys i x h k) (or_true (p y))

pub list_any-none : {A : Type 0} (p : A → Bool) (xs : List A) (i : ℕ) (x : A)
    → slice_get xs i ≡ Some x → p x ≡ false → list_any p (take i xs) ≡ false → list_any p (take (suc i) xs) ≡ false
list_any-none p [] i x h k none = refl
list_any-none p (y ∷ ys) zero x h k none = let e : y ≡ x = cc in rw (e, k) refl
list_any-none p (y ∷ ys) (suc i) x h k none =
    let parts = or_false (p y) (list_any p (take i ys)) none in
    rw (parts.0, list_any-none p ys i x h k parts.1) refl

-- The number of digits is below the power of their count
pub number_of-lt : (ds : List Digit) → number_of ds < 2 ^ length ds
unfolding number_of
number_of-lt [] = omega arith
number_of-lt (d ∷ ds) =
    let rest = number_of-lt ds in
    let first : digit_value d ≤ 1 = digit_value-le d in
    let power : 2 ^ suc (length ds) ≡ 2 * 2 ^ length ds = rw pow-suc (omega arith) in
    omega arith

known_parts : {A : Type 0} (f : ℕ → A) (b : Bool) (m n : ℕ) → cond b (Some m) None ≡ Some n → (cond b (Some (f m)) None ≡ Some (f n)) × (m ≡ n)
known_parts f true m n h = let e : m ≡ n = cc in (ap (λ k. Some (f k)) e, e)
known_parts f false m n h = cc

pub known_number-lt : (ds : List Digit) (n : ℕ) → known_number ds ≡ Some n → n < 2 ^ length ds
known_number-lt ds n h =
    let e = known_parts (λ k. k) (all_known ds) (number_of ds) n h in
    omega (arith, number_of-lt ds, e.1)

pub integer_of-known : (v : Vector) (n : ℕ) → known_number v.digits ≡ Some n → integer_of v ≡ Some (integer_at (length v.digits) v.signed n)
integer_of-known v n h = (known_parts (λ k. integer_at (length v.digits) v.signed k) (all_known v.digits) (number_of v.digits) n h).0

-- The highest bit tells the sign
power_half : (w : ℕ) → 1 ≤ w → 2 ^ w ≡ 2 * 2 ^ (w - 1)
power_half w h = let e : w ≡ suc (w - 1) = omega arith in ap (λ k. 2 ^ k) e ∙ rw pow-suc (omega arith)

pub twos_complement-negative : (w n : ℕ) → 1 ≤ w → n / 2 ^ (w - 1) ≡ 1 → twos_complement w n ≡ neg_ℤ (pos (2 ^ w - n))
twos_complement-negative w n h one =
    let split = shr_split n (w - 1) in
    let double = power_half w h in
    let high : 2 ^ w ≤ 2 * n = omega (arith, split, ap (λ q. q * 2 ^ (w - 1)) one) in
    ap (λ (b : Bool). cond b (neg_ℤ (pos (2 ^ w - n))) (pos n)) (le-leb _ _ high)

low_half : (w n : ℕ) → 1 ≤ w → n < 2 ^ w → (n / 2 ^ (w - 1) ≡ 1 → ⊥) → 2 * n < 2 ^ w
low_half w n h below not_one =
    let split = shr_split n (w - 1) in
    let double = power_half w h in
    let positive = pow_pos (w - 1) in
    let rest : n % 2 ^ (w - 1) < 2 ^ (w - 1) = omega arith in
    let low = quotient_cases (n / 2 ^ (w - 1)) (n % 2 ^ (w - 1)) (2 ^ (w - 1)) (omega arith) rest not_one in
    omega arith

pub twos_complement-positive : (w n : ℕ) → 1 ≤ w → n < 2 ^ w → (n / 2 ^ (w - 1) ≡ 1 → ⊥) → twos_complement w n ≡ pos n
twos_complement-positive w n h below not_one =
    let low : 2 * n < 2 ^ w = low_half w n h below not_one in
    ap (λ (b : Bool). cond b (neg_ℤ (pos (2 ^ w - n))) (pos n)) (lt-leb-false _ _ low)

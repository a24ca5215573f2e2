-- What holds of bits, each of which is 0 or 1, is shown by trying their values.
use Rattle.std.proofs.Common.{◌≡◌, ℕ, ◌<◌, Bool, true, false, not, ◌&&◌, refl}
use Rattle.vh_logic.specs.declared.digits.Digit.{Digit}
use Rattle.vh_logic.specs.declared.digits.Digit.TheVariants.{Zero, One, X, Z}
use Rattle.vh_logic.specs.Digit.{is_same}
use Rattle.vh_logic.specs.PlanesBack.{by_2_bits}

-- Digits that compare as the same are the same.
pub same_digit : (d e : Digit) → is_same d e ≡ true → d ≡ e
same_digit Zero Zero h = refl
same_digit One One h = refl
same_digit X X h = refl
same_digit Z Z h = refl
same_digit Zero One h = cc
same_digit Zero X h = cc
same_digit Zero Z h = cc
same_digit One Zero h = cc
same_digit One X h = cc
same_digit One Z h = cc
same_digit X Zero h = cc
same_digit X One h = cc
same_digit X Z h = cc
same_digit Z Zero h = cc
same_digit Z One h = cc
same_digit Z X h = cc

-- Two answers of a test are one, as a test.
abbrev pub test_eq : Bool → Bool → Bool
test_eq true b = b
test_eq false b = not b

same_test : (a b : Bool) → test_eq a b ≡ true → a ≡ b
same_test true true h = refl
same_test true false h = cc
same_test false true h = cc
same_test false false h = refl

-- Two functions of two, or of four, bits agree if they do at each of their values, as a test of two answers says.
abbrev pub all_2 : {A : Type 0} → (A → A → Bool) → (ℕ → ℕ → A) → (ℕ → ℕ → A) → Bool
all_2 same f g = same (f 0 0) (g 0 0) && same (f 0 1) (g 0 1) && same (f 1 0) (g 1 0) && same (f 1 1) (g 1 1)

abbrev pub all_4 : {A : Type 0} → (A → A → Bool) → (ℕ → ℕ → ℕ → ℕ → A) → (ℕ → ℕ → ℕ → ℕ → A) → Bool
all_4 same f g =
    all_2 same (f 0 0) (g 0 0) && all_2 same (f 0 1) (g 0 1) && all_2 same (f 1 0) (g 1 0) && all_2 same (f 1 1) (g 1 1)

and_parts : (a b : Bool) → (a && b) ≡ true → (a ≡ true) × (b ≡ true)
and_parts true true h = (refl, refl)
and_parts true false h = cc
and_parts false b h = cc

each_2 : {A : Type 0} (same : A → A → Bool) → ((a b : A) → same a b ≡ true → a ≡ b) → (f g : ℕ → ℕ → A)
    → all_2 same f g ≡ true → (m n : ℕ) → m < 2 → n < 2 → f m n ≡ g m n
each_2 same is f g h m n p q =
    let last = and_parts _ _ h in
    let third = and_parts _ _ last.0 in
    let second = and_parts _ _ third.0 in
    by_2_bits (λ x y. f x y ≡ g x y) (is _ _ second.0) (is _ _ second.1) (is _ _ third.1) (is _ _ last.1) m n p q

each_4 : {A : Type 0} (same : A → A → Bool) → ((a b : A) → same a b ≡ true → a ≡ b) → (f g : ℕ → ℕ → ℕ → ℕ → A)
    → all_4 same f g ≡ true → (k l m n : ℕ) → k < 2 → l < 2 → m < 2 → n < 2 → f k l m n ≡ g k l m n
each_4 same is f g h k l m n p q r s =
    let last = and_parts _ _ h in
    let third = and_parts _ _ last.0 in
    let second = and_parts _ _ third.0 in
    by_2_bits (λ x y. f x y m n ≡ g x y m n) (each_2 same is (f 0 0) (g 0 0) second.0 m n r s)
    (each_2 same is (f 0 1) (g 0 1) second.1 m n r s) (each_2 same is (f 1 0) (g 1 0) third.1 m n r s)
    (each_2 same is (f 1 1) (g 1 1) last.1 m n r s) k l p q

-- Of functions that answer a digit, and of such as answer a test
abbrev pub same_4 : (ℕ → ℕ → ℕ → ℕ → Digit) → (ℕ → ℕ → ℕ → ℕ → Digit) → Bool
same_4 f g = all_4 is_same f g

pub by_2 : (f g : ℕ → ℕ → Digit) → all_2 is_same f g ≡ true → (m n : ℕ) → m < 2 → n < 2 → f m n ≡ g m n
by_2 = each_2 is_same same_digit

pub by_4 : (f g : ℕ → ℕ → ℕ → ℕ → Digit) → same_4 f g ≡ true → (k l m n : ℕ) → k < 2 → l < 2 → m < 2 → n < 2 → f k l m n ≡ g k l m n
by_4 = each_4 is_same same_digit

pub test_by_2 : (f g : ℕ → ℕ → Bool) → all_2 test_eq f g ≡ true → (m n : ℕ) → m < 2 → n < 2 → f m n ≡ g m n
test_by_2 = each_2 test_eq same_test

pub test_by_4 : (f g : ℕ → ℕ → ℕ → ℕ → Bool) → all_4 test_eq f g ≡ true → (k l m n : ℕ) → k < 2 → l < 2 → m < 2 → n < 2 → f k l m n ≡ g k l m n
test_by_4 = each_4 test_eq same_test

-- Tests of two digits agree if they do at each pair of digits.
abbrev pub all_digits : (Digit → Bool) → Bool
all_digits p = p Zero && p One && p X && p Z

pub at_digit : (p : Digit → Bool) → all_digits p ≡ true → (d : Digit) → p d ≡ true
at_digit p h Zero = (and_parts _ _ (and_parts _ _ (and_parts _ _ h).0).0).0
at_digit p h One = (and_parts _ _ (and_parts _ _ (and_parts _ _ h).0).0).1
at_digit p h X = (and_parts _ _ (and_parts _ _ h).0).1
at_digit p h Z = (and_parts _ _ h).1

pub by_digits : (f g : Digit → Digit → Bool) → all_digits (λ d. all_digits (λ e. test_eq (f d e) (g d e))) ≡ true
    → (d e : Digit) → f d e ≡ g d e
by_digits f g h d e =
    let row = at_digit (λ c. all_digits (λ b. test_eq (f c b) (g c b))) h d in
    same_test _ _ (at_digit (λ b. test_eq (f d b) (g d b)) row e)

-- How a test of the digits of vectors follows from a plane that marks the positions where it fails.
use Rattle.std.proofs.Common.{◌≡◌, ℕ, zero, suc, ◌+◌, ◌-◌, ◌*◌, ◌/◌, ◌%◌, ◌^◌, ◌<◌, max, eqb, refl, ap, arith, ◌∙◌, sym, Bool, true, false, ◌&&◌, ◌||◌, not, cond, rules}
use Rattle.std.specs.Prelude.{bit_or, bit_xor, count_ones}
use Rattle.std.specs.Int.Bits.{xor_self, xor_zero_l, xor_zero_r, xor_assoc}
use Rattle.std.specs.Int.Count.{ones}
use Rattle.std.proofs.Math.Dec.{eqb-suc-zero}
use Rattle.std.proofs.lemmas.Nat.{ones_cat}
use Rattle.std.specs.Int.{bit_at}
use Rattle.std.specs.List.{list_all, list_any}
use Rattle.std.proofs.lemmas.Nat.Bits.{bit_at_lowest, bit_at-suc, bit_at-lt, bit_at_or, bit_at_xor, bit_at_ones}
use Rattle.std.proofs.lemmas.Bool.Decides.{nat_tests}
use Rattle.vh_logic.specs.declared.digits.Digit.{Digit}
use Rattle.vh_logic.specs.declared.digits.Digit.TheVariants.{Zero, One, X}
use Rattle.vh_logic.specs.Digit.{digit_and, digit_or, digit_xor, is_one, is_zero}
use Rattle.vh_logic.specs.Vector.{all_positions}
use Rattle.vh_logic.specs.Reduce.{reduced, truth_of}
use Rattle.vh_logic.specs.Planes.{digit_of, digits_of}
use Rattle.vh_logic.specs.PlanesBack.{half_below, by_bit}
use Rattle.vh_logic.proofs.PlanesLemmas.{digit_at, digit_at-zero, digit_at-suc, bounds}
use Rattle.vh_logic.proofs.Tables.{by_2, by_4, test_by_2}

-- A number is 0 if its lowest bit is, and the rest
eqb-halves : (m : ℕ) → (eqb (m % 2) 0 && eqb (m / 2) 0) ≡ eqb m 0
eqb-halves m = grind (arith, nat_tests)

pub list_all-digits_of : (f : Digit → Bool) (w a b m : ℕ) → m < 2 ^ w
    → ((i : ℕ) → i < w → f (digit_at a b i) ≡ eqb (bit_at m i) 0)
    → list_all f (digits_of w a b) ≡ eqb m 0
unfolding digits_of
list_all-digits_of f zero a b m below h = let e : 0 ≡ m = omega arith in ap (λ n. eqb n 0) e
list_all-digits_of f (suc w) a b m below h =
    let first = rw (digit_at-zero a b, bit_at_lowest m) at (h 0 (omega arith)) in
    let rest = list_all-digits_of f w (a / 2) (b / 2) (m / 2) (half_below w m below)
    (λ i within. rw (digit_at-suc a b i, bit_at-suc m i) at (h (suc i) (omega arith))) in
    rw (first, rest) (eqb-halves m)

pub list_any-digits_of : (f : Digit → Bool) (w a b m : ℕ) → m < 2 ^ w
    → ((i : ℕ) → i < w → f (digit_at a b i) ≡ not (eqb (bit_at m i) 0))
    → list_any f (digits_of w a b) ≡ not (eqb m 0)
unfolding digits_of
list_any-digits_of f zero a b m below h = let e : 0 ≡ m = omega arith in ap (λ n. not (eqb n 0)) e
list_any-digits_of f (suc w) a b m below h =
    let first = rw (digit_at-zero a b, bit_at_lowest m) at (h 0 (omega arith)) in
    let rest = list_any-digits_of f w (a / 2) (b / 2) (m / 2) (half_below w m below)
    (λ i within. rw (digit_at-suc a b i, bit_at-suc m i) at (h (suc i) (omega arith))) in
    rw (first, rest) (not_halves m)
  where
    not_halves : (m : ℕ) → (not (eqb (m % 2) 0) || not (eqb (m / 2) 0)) ≡ not (eqb m 0)
    not_halves m = grind (arith, nat_tests)

pub all_positions-digits_of : (f : Digit → Digit → Bool) (w a b c d m : ℕ) → m < 2 ^ w
    → ((i : ℕ) → i < w → f (digit_at a b i) (digit_at c d i) ≡ eqb (bit_at m i) 0)
    → all_positions f (digits_of w a b) (digits_of w c d) ≡ eqb m 0
unfolding digits_of all_positions
all_positions-digits_of f zero a b c d m below h = let e : 0 ≡ m = omega arith in ap (λ n. eqb n 0) e
all_positions-digits_of f (suc w) a b c d m below h =
    let first = rw (digit_at-zero a b, digit_at-zero c d, bit_at_lowest m) at (h 0 (omega arith)) in
    let rest = all_positions-digits_of f w (a / 2) (b / 2) (c / 2) (d / 2) (m / 2) (half_below w m below)
    (λ i within. rw (digit_at-suc a b i, digit_at-suc c d i, bit_at-suc m i) at (h (suc i) (omega arith))) in
    rw (first, rest) (eqb-halves m)

-- An operator between all digits, by two planes that mark where it leaves its first or its second answer
pub reduced-digits_of : (f : Digit → Digit → Digit) (unit : Digit) (pick : Bool → Bool → Digit) (w a b m n : ℕ)
    → m < 2 ^ w → n < 2 ^ w → pick true true ≡ unit
    → ((i : ℕ) → i < w → (s t : Bool) → f (digit_at a b i) (pick s t) ≡ pick (eqb (bit_at m i) 0 && s) (eqb (bit_at n i) 0 && t))
    → reduced f unit (digits_of w a b) ≡ pick (eqb m 0) (eqb n 0)
unfolding digits_of reduced
reduced-digits_of f unit pick zero a b m n below below' at_end h =
    let e : m ≡ 0 = omega arith in
    let e' : n ≡ 0 = omega arith in
    rw (e, e') (sym at_end)
reduced-digits_of f unit pick (suc w) a b m n below below' at_end h =
    let first = rw (digit_at-zero a b, bit_at_lowest m, bit_at_lowest n) at (h 0 (omega arith) (eqb (m / 2) 0) (eqb (n / 2) 0)) in
    let rest = reduced-digits_of f unit pick w (a / 2) (b / 2) (m / 2) (n / 2) (half_below w m below) (half_below w n below') at_end
    (λ i within s t. rw (digit_at-suc a b i, bit_at-suc m i, bit_at-suc n i) at (h (suc i) (omega arith) s t)) in
    rw rest (first ∙ rw (eqb-halves m, eqb-halves n) refl)

-- `&` of all digits: a 0 decides, and else an x or z
abbrev pub pick_and : Bool → Bool → Digit
pick_and no_zero known = cond no_zero (cond known One X) Zero

pick_and-step : (s t : Bool) (x y : ℕ) → x < 2 → y < 2
    → digit_and (digit_of x y) (pick_and s t) ≡ pick_and (eqb ((max x y + 1) % 2) 0 && s) (eqb y 0 && t)
pick_and-step true true = by_2 (λ x y. digit_and (digit_of x y) One) (λ x y. pick_and (eqb ((max x y + 1) % 2) 0 && true) (eqb y 0 && true)) refl
pick_and-step true false = by_2 (λ x y. digit_and (digit_of x y) X) (λ x y. pick_and (eqb ((max x y + 1) % 2) 0 && true) (eqb y 0 && false)) refl
pick_and-step false true = by_2 (λ x y. digit_and (digit_of x y) Zero) (λ x y. pick_and (eqb ((max x y + 1) % 2) 0 && false) (eqb y 0 && true)) refl
pick_and-step false false = by_2 (λ x y. digit_and (digit_of x y) Zero) (λ x y. pick_and (eqb ((max x y + 1) % 2) 0 && false) (eqb y 0 && false)) refl

pub reduced_and : (w a b : ℕ) → a < 2 ^ w → b < 2 ^ w
    → reduced digit_and One (digits_of w a b) ≡ pick_and (eqb (bit_xor (bit_or a b) (2 ^ w - 1)) 0) (eqb b 0)
reduced_and w a b h k =
    reduced-digits_of digit_and One pick_and w a b _ b (search (rules, bounds)) k refl
    (λ i within s t. simp (bit_at_or, bit_at_xor, bit_at_ones) (pick_and-step s t _ _ (bit_at-lt a i) (bit_at-lt b i)))

-- `|` of all digits: a 1 decides, and else an x or z
abbrev pub pick_or : Bool → Bool → Digit
pick_or no_one known = cond no_one (cond known Zero X) One

pick_or-step : (s t : Bool) (x y : ℕ) → x < 2 → y < 2
    → digit_or (digit_of x y) (pick_or s t) ≡ pick_or (eqb ((max x y + y) % 2) 0 && s) (eqb y 0 && t)
pick_or-step true true = by_2 (λ x y. digit_or (digit_of x y) Zero) (λ x y. pick_or (eqb ((max x y + y) % 2) 0 && true) (eqb y 0 && true)) refl
pick_or-step true false = by_2 (λ x y. digit_or (digit_of x y) X) (λ x y. pick_or (eqb ((max x y + y) % 2) 0 && true) (eqb y 0 && false)) refl
pick_or-step false true = by_2 (λ x y. digit_or (digit_of x y) One) (λ x y. pick_or (eqb ((max x y + y) % 2) 0 && false) (eqb y 0 && true)) refl
pick_or-step false false = by_2 (λ x y. digit_or (digit_of x y) One) (λ x y. pick_or (eqb ((max x y + y) % 2) 0 && false) (eqb y 0 && false)) refl

pub reduced_or : (w a b : ℕ) → a < 2 ^ w → b < 2 ^ w
    → reduced digit_or Zero (digits_of w a b) ≡ pick_or (eqb (bit_xor (bit_or a b) b) 0) (eqb b 0)
reduced_or w a b h k =
    reduced-digits_of digit_or Zero pick_or w a b _ b (search (rules, bounds)) k refl
    (λ i within s t. simp (bit_at_or, bit_at_xor) (pick_or-step s t _ _ (bit_at-lt a i) (bit_at-lt b i)))

-- Two numbers are one if no bit differs
pub xor_zero_same : (a b : ℕ) → bit_xor a b ≡ 0 → a ≡ b
xor_zero_same a b e =
    let regroup : bit_xor (bit_xor a b) b ≡ a = xor_assoc a b b ∙ ap (bit_xor a) (xor_self b) ∙ xor_zero_r a in
    sym regroup ∙ ap (λ n. bit_xor n b) e ∙ xor_zero_l b

truth_cases : (m o b : ℕ) → (m ≡ 0 → o ≡ b) → cond (not (eqb m 0)) One (cond (eqb o 0) Zero X) ≡ pick_or (eqb m 0) (eqb b 0)
truth_cases zero o b h = ap (λ n. cond (eqb n 0) Zero X) (h refl)
truth_cases (suc m) o b h = rw (eqb-suc-zero m) refl

-- The truth of a vector is `|` of its digits
pub truth_of-digits_of : (w a b : ℕ) (s : Bool) → a < 2 ^ w → b < 2 ^ w
    → truth_of (record { digits = digits_of w a b; signed = s }) ≡ pick_or (eqb (bit_xor (bit_or a b) b) 0) (eqb b 0)
truth_of-digits_of w a b s h k =
    let ones = list_any-digits_of is_one w a b (bit_xor (bit_or a b) b) (search (rules, bounds))
    (λ i within. simp (bit_at_or, bit_at_xor) (test_by_2 (λ x y. is_one (digit_of x y)) (λ x y. not (eqb ((max x y + y) % 2) 0)) refl _ _ (bit_at-lt a i) (bit_at-lt b i))) in
    let zeros = list_all-digits_of is_zero w a b (bit_or a b) (search (rules, bounds))
    (λ i within. simp bit_at_or (test_by_2 (λ x y. is_zero (digit_of x y)) (λ x y. eqb (max x y) 0) refl _ _ (bit_at-lt a i) (bit_at-lt b i))) in
    rw (ones, zeros) (truth_cases _ (bit_or a b) b (xor_zero_same (bit_or a b) b))

-- `^` of all digits: the parity of the ones, if no digit is x or z
abbrev pub pick_xor : ℕ → Bool → Digit
pick_xor parity known = cond known (cond (eqb parity 0) Zero One) X

pick_xor-step : (t : Bool) (p x y : ℕ) → p < 2 → x < 2 → y < 2
    → digit_xor (digit_of x y) (pick_xor p t) ≡ pick_xor ((x + p) % 2) (eqb y 0 && t)
pick_xor-step true p x y h k l =
    by_4 (λ x y p z. digit_xor (digit_of x y) (pick_xor p true)) (λ x y p z. pick_xor ((x + p) % 2) (eqb y 0 && true)) refl x y p p k l h h
pick_xor-step false p x y h k l =
    by_4 (λ x y p z. digit_xor (digit_of x y) (pick_xor p false)) (λ x y p z. pick_xor ((x + p) % 2) (eqb y 0 && false)) refl x y p p k l h h

ones-halves : (a : ℕ) → (a % 2 + count_ones (a / 2) % 2) % 2 ≡ count_ones a % 2
unfolding ones
ones-halves a =
    let whole : a / 2 * 2 + a % 2 ≡ a = omega arith in
    let low : count_ones (a % 2) ≡ a % 2 = by_bit (λ x. count_ones x ≡ x) refl refl (a % 2) (omega arith) in
    let split : count_ones a ≡ count_ones (a / 2) + count_ones (a % 2) = sym (ap count_ones whole) ∙ ones_cat 1 (a / 2) (a % 2) (omega arith) in
    omega arith

pub reduced_xor : (w a b : ℕ) → a < 2 ^ w → b < 2 ^ w
    → reduced digit_xor Zero (digits_of w a b) ≡ pick_xor (count_ones a % 2) (eqb b 0)
unfolding digits_of reduced ones
reduced_xor zero a b h k = let e : a ≡ 0 = omega arith in let e' : b ≡ 0 = omega arith in rw (e, e') refl
reduced_xor (suc w) a b h k =
    let rest = reduced_xor w (a / 2) (b / 2) (half_below w a h) (half_below w b k) in
    rw rest (pick_xor-step (eqb (b / 2) 0) (count_ones (a / 2) % 2) (a % 2) (b % 2) (omega arith) (omega arith) (omega arith)
    ∙ rw (ones-halves a, eqb-halves b) refl)

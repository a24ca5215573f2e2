-- The comparisons, from the planes of their operands.
use Rattle.std.proofs.Common.{◌≡◌, ℕ, zero, suc, ◌+◌, ◌-◌, ◌*◌, ◌%◌, ◌^◌, ◌<◌, ◌≤◌, max, eqb, ltb, refl, ap, arith, ◌∙◌, sym, subst, Bool, true, false, cond, ◌&&◌, inl, inr, rules}
use Rattle.std.specs.Prelude.{pos, neg_ℤ, int_lt, bit_and, bit_or, bit_xor}
use Rattle.std.specs.Int.{bit_at}
use Rattle.std.specs.Int.Bits.{xor_zero_r, xor_add_and}
use Rattle.std.proofs.lemmas.Int.{ints}
use Rattle.std.proofs.lemmas.Nat.{one_shl}
use Rattle.std.proofs.lemmas.Nat.Bits.{bit_at-lt, bit_at_or, bit_at_xor, bit_at_above, bit_at_cat_high, and_pow}
use Rattle.std.proofs.lemmas.Bool.{cases_lt, cases_eq, lt-leb, le-leb, eq-eqb, ne_eqb}
use Rattle.std.proofs.lemmas.Bool.Decides.{nat_tests}
use Rattle.std.proofs.Math.Nat.{pow-suc}
use Rattle.vh_logic.specs.declared.digits.Digit.{Digit}
use Rattle.vh_logic.specs.declared.digits.Digit.TheVariants.{Zero, One, X}
use Rattle.vh_logic.specs.Digit.{may_equal, test_digit}
use Rattle.vh_logic.specs.Compare.{equality, ordering}
use Rattle.vh_logic.specs.Vector.{Vector, width_of, all_positions}
use Rattle.vh_logic.specs.Number.{all_known, twos_complement, integer_at}
use Rattle.vh_logic.specs.Planes.{digit_of, digits_of}
use Rattle.vh_logic.proofs.PlanesLemmas.{digit_at, Vector-of, bounds}
use Rattle.vh_logic.proofs.Tables.{test_by_4}
use Rattle.vh_logic.proofs.TestLemmas.{all_positions-digits_of}
use Rattle.vh_logic.proofs.NumberLemmas.{all_known-digits_of, or_zero, known_integer, unknown_integer}
use Rattle.vh_logic.proofs.ArithmeticLemmas.{widths-planes}

-- A test of each position of two vectors, by a plane that marks the positions where it fails
pub all_positions-vectors : (f : Digit → Digit → Bool) (w a b v c d m : ℕ) (s t : Bool) (x y : Vector)
    → Vector-of w a b s ≡ x → Vector-of v c d t ≡ y → width_of x ≡ width_of y → m < 2 ^ w
    → ((i : ℕ) → i < w → f (digit_at a b i) (digit_at c d i) ≡ eqb (bit_at m i) 0)
    → all_positions f x.digits y.digits ≡ eqb m 0
all_positions-vectors f w a b v c d m s t x y e g l below h =
    let same = widths-planes w a b v c d s t x y e g l in
    let all : all_positions f (digits_of w a b) (digits_of v c d) ≡ eqb m 0 = rw same (all_positions-digits_of f w a b c d m below h) in
    rw (← e, ← g) all

pub both_known : (w a b v c d : ℕ) (s t : Bool) (x y : Vector)
    → Vector-of w a b s ≡ x → Vector-of v c d t ≡ y → b < 2 ^ w → d < 2 ^ v
    → (all_known x.digits && all_known y.digits) ≡ eqb (bit_or b d) 0
both_known w a b v c d s t x y e g hb hd =
    rw (← e, ← g, all_known-digits_of w a b hb, all_known-digits_of v c d hd) (elim (cases_eq (bit_or b d) 0) [
      | inl z ↦ rw (eq-eqb _ 0 z, eq-eqb b 0 (or_zero b d z).0, eq-eqb d 0 (or_zero b d z).1) refl
      | inr n ↦
          rw (ne_eqb _ 0 n) (elim (cases_eq b 0) [
            | inl z ↦ rw (eq-eqb b 0 z, ne_eqb d 0 (λ z'. n (rw (z, z') refl))) refl
            | inr m ↦ rw (ne_eqb b 0 m) refl
          ])
    ])

-- A number below 2 ^ (k + 1) with its highest bit turned round
xor_low : (k a : ℕ) → a < 2 ^ k → bit_xor a (2 ^ k) ≡ a + 2 ^ k
xor_low k a h = let off : bit_and a (2 ^ k) ≡ 0 = and_pow a k ∙ ap (λ n. n * 2 ^ k) (bit_at_above a k k h (omega arith)) ∙ omega arith in omega (arith, xor_add_and a (2 ^ k))

xor_high : (k a : ℕ) → 2 ^ k ≤ a → a < 2 * 2 ^ k → bit_xor a (2 ^ k) ≡ a - 2 ^ k
xor_high k a h l =
    let whole : 1 * 2 ^ k + (a - 2 ^ k) ≡ a = omega arith in
    let none : k - k ≡ 0 = omega arith in
    let P : ℕ → Type 0 = λ n. bit_at n k ≡ 1 in
    let on : bit_at a k ≡ 1 = subst P whole (bit_at_cat_high 1 k (a - 2 ^ k) k (omega arith) (omega arith) ∙ ap (bit_at 1) none) in
    let both : bit_and a (2 ^ k) ≡ 2 ^ k = and_pow a k ∙ ap (λ n. n * 2 ^ k) on ∙ omega arith in
    omega (arith, xor_add_and a (2 ^ k))

-- The order of two integers in two's complement is that of their numbers with the highest bits turned round
twos-low : (k a : ℕ) → a < 2 ^ k → twos_complement (suc k) a ≡ pos a
twos-low k a h = rw (lt-leb (2 ^ suc k) (2 * a) (rw pow-suc (omega arith))) refl

twos-high : (k a : ℕ) → 2 ^ k ≤ a → twos_complement (suc k) a ≡ neg_ℤ (pos (2 * 2 ^ k - a))
twos-high k a h =
    let double : 2 ^ suc k ≡ 2 * 2 ^ k = rw pow-suc (omega arith) in
    rw (le-leb (2 ^ suc k) (2 * a) (omega arith), double) refl

low_low : (h a c : ℕ) → int_lt (pos a) (pos c) ≡ ltb (a + h) (c + h)
low_low h a c = grind (arith, ints, nat_tests)

low_high : (h a c : ℕ) → a < h → h ≤ c → c < 2 * h → int_lt (pos a) (neg_ℤ (pos (2 * h - c))) ≡ ltb (a + h) (c - h)
low_high h a c p q r = grind (arith, ints, nat_tests)

high_low : (h a c : ℕ) → h ≤ a → a < 2 * h → c < h → int_lt (neg_ℤ (pos (2 * h - a))) (pos c) ≡ ltb (a - h) (c + h)
high_low h a c p q r = grind (arith, ints, nat_tests)

high_high : (h a c : ℕ) → h ≤ a → a < 2 * h → h ≤ c → c < 2 * h → int_lt (neg_ℤ (pos (2 * h - a))) (neg_ℤ (pos (2 * h - c))) ≡ ltb (a - h) (c - h)
high_high h a c p q r s = grind (arith, ints, nat_tests)

-- `a == b`: a plane marks the positions that hold 0 against 1, and another those with an x or z
abbrev pub differing : ℕ → ℕ → ℕ → ℕ → ℕ
differing a b c d = bit_xor (bit_or (bit_xor a c) (bit_or b d)) (bit_or b d)

pub equality-vectors : (w a b v c d : ℕ) (s t : Bool) (x y : Vector)
    → Vector-of w a b s ≡ x → Vector-of v c d t ≡ y → width_of x ≡ width_of y
    → a < 2 ^ w → b < 2 ^ w → c < 2 ^ v → d < 2 ^ v
    → equality x y ≡ cond (eqb (differing a b c d) 0) (cond (eqb (bit_or b d) 0) One X) Zero
equality-vectors w a b v c d s t x y e g l ha hb hc hd =
    let same = widths-planes w a b v c d s t x y e g l in
    let hc' : c < 2 ^ w = rw (← same) hc in
    let hd' : d < 2 ^ w = rw (← same) hd in
    let may : all_positions may_equal x.digits y.digits ≡ eqb (differing a b c d) 0 =
    all_positions-vectors may_equal w a b v c d (differing a b c d) s t x y e g l (search (rules, bounds))
    (λ i within. simp (bit_at_or, bit_at_xor) (test_by_4
    (λ x y z t. may_equal (digit_of x y) (digit_of z t))
    (λ x y z t. eqb ((max ((x + z) % 2) (max y t) + max y t) % 2) 0)
    refl _ _ _ _ (bit_at-lt a i) (bit_at-lt b i) (bit_at-lt c i) (bit_at-lt d i))) in
    rw (may, both_known w a b v c d s t x y e g hb hd) refl

-- `a < b`, with the highest bit of signed numbers turned round
order-signed : (k a c : ℕ) → a < 2 ^ suc k → c < 2 ^ suc k
    → int_lt (twos_complement (suc k) a) (twos_complement (suc k) c) ≡ ltb (bit_xor a (2 ^ k)) (bit_xor c (2 ^ k))
order-signed k a c p q =
    let double : 2 ^ suc k ≡ 2 * 2 ^ k = rw pow-suc (omega arith) in
    elim (cases_lt a (2 ^ k)) [
      | inl h ↦
          elim (cases_lt c (2 ^ k)) [
            | inl l ↦ rw (twos-low k a h, twos-low k c l, xor_low k a h, xor_low k c l) (low_low (2 ^ k) a c)
            | inr l ↦ rw (twos-low k a h, twos-high k c l, xor_low k a h, xor_high k c l (omega arith)) (low_high (2 ^ k) a c h l (omega arith))
          ]
      | inr h ↦
          elim (cases_lt c (2 ^ k)) [
            | inl l ↦ rw (twos-high k a h, twos-low k c l, xor_high k a h (omega arith), xor_low k c l) (high_low (2 ^ k) a c h (omega arith) l)
            | inr l ↦
                rw (twos-high k a h, twos-high k c l, xor_high k a h (omega arith), xor_high k c l (omega arith))
                (high_high (2 ^ k) a c h (omega arith) l (omega arith))
          ]
    ]

pub order-unsigned : (a c : ℕ) → int_lt (pos a) (pos c) ≡ ltb (bit_xor a 0) (bit_xor c 0)
order-unsigned a c = rw (xor_zero_r a, xor_zero_r c) refl

pub order-at : (w a c : ℕ) → 1 ≤ w → a < 2 ^ w → c < 2 ^ w
    → int_lt (twos_complement w a) (twos_complement w c) ≡ ltb (bit_xor a (2 ^ (w - 1))) (bit_xor c (2 ^ (w - 1)))
order-at zero a c one p q = absurd (omega arith)
order-at (suc k) a c one p q = let e : suc k - 1 ≡ k = omega arith in rw e (order-signed k a c p q)

pub ordering-unknown : (w a b v c d : ℕ) (s t : Bool) (x y : Vector)
    → Vector-of w a b s ≡ x → Vector-of v c d t ≡ y → a < 2 ^ w → b < 2 ^ w → c < 2 ^ v → d < 2 ^ v
    → (bit_or b d ≡ 0 → ⊥) → X ≡ ordering x y
ordering-unknown w a b v c d s t x y e g ha hb hc hd n =
    elim (cases_eq b 0) [
      | inl z ↦
          (let other : d ≡ 0 → ⊥ = λ z'. n (rw (z, z') refl) in
          rw (known_integer w a b s x e ha z, unknown_integer v c d t y g hc hd other) refl)
      | inr m ↦ rw (unknown_integer w a b s x e ha hb m) refl
    ]

pub ordering-known : (w a b v c d : ℕ) (s t : Bool) (x y : Vector)
    → Vector-of w a b s ≡ x → Vector-of v c d t ≡ y → a < 2 ^ w → c < 2 ^ v → bit_or b d ≡ 0
    → ordering x y ≡ test_digit (int_lt (integer_at w s a) (integer_at v t c))
ordering-known w a b v c d s t x y e g ha hc n =
    rw (known_integer w a b s x e ha (or_zero b d n).0, known_integer v c d t y g hc (or_zero b d n).1) refl

-- The code's order of two known numbers, where they are signed and where not
pub order-then : (w p v a c sign : ℕ) (s t : Bool) → v ≡ w → s ≡ t → s ≡ true → 1 ≤ w → w ≤ p → sign ≡ 1 * 2 ^ (w - 1) % 2 ^ p → a < 2 ^ w → c < 2 ^ v
    → ltb (bit_xor a sign) (bit_xor c sign) ≡ int_lt (integer_at w s a) (integer_at v t c)
order-then w p v a c sign s t same e on one le is ha hc =
    let high : sign ≡ 2 ^ (w - 1) = is ∙ one_shl (w - 1) p (omega arith) in
    rw (← e, on, high, same) (sym (order-at w a c one ha (rw (← same) hc)))

pub order-else : (w v a c sign : ℕ) (s t : Bool) → s ≡ t → s ≡ false → sign ≡ 0
    → ltb (bit_xor a sign) (bit_xor c sign) ≡ int_lt (integer_at w s a) (integer_at v t c)
order-else w v a c sign s t e off is = rw (← e, off, is) (sym (order-unsigned a c))

pub signs-planes : (w a b v c d : ℕ) (s t : Bool) (x y : Vector) → Vector-of w a b s ≡ x → Vector-of v c d t ≡ y → x.signed ≡ y.signed → s ≡ t
signs-planes w a b v c d s t x y e g l = ap (λ (z : Vector). z.signed) e ∙ l ∙ sym (ap (λ (z : Vector). z.signed) g)

-- How the number of a vector follows from its two planes.
use Rattle.std.proofs.Common.{◌≡◌, ℕ, zero, suc, ◌+◌, ◌-◌, ◌*◌, ◌/◌, ◌%◌, ◌^◌, ◌<◌, ◌≤◌, eqb, leb, refl, ap, arith, ◌∙◌, sym, subst, Bool, true, false, cond, Some, None}
use Rattle.std.specs.Prelude.{ℤ, pos, negsuc, neg_ℤ, ◌+ℤ◌, ◌-ℤ◌, ◌*ℤ◌, bit_or, unsigned_abs}
use Rattle.std.proofs.lemmas.Int.{ints, int_rem_euclid_is}
use Rattle.std.proofs.lemmas.Nat.{pow_pos, pow-add, shr_split, and_mask, le_or_l, le_or_r}
use Rattle.std.proofs.lemmas.Nat.Bits.{bit_at-lt}
use Rattle.std.proofs.Math.Dec.{eqb-suc-zero}
use Rattle.std.proofs.Math.Nat.{mod-mod, add-mul-mod_self_right}
use Rattle.std.proofs.Math.Pow.{mod-mod-pow, pow_mono}
use Rattle.std.proofs.lemmas.Bool.{cond-false, ne_eqb}
use Rattle.vh_logic.specs.declared.digits.Digit.TheVariants.{Zero, One}
use Rattle.vh_logic.specs.Digit.{is_known}
use Rattle.vh_logic.specs.Vector.{Vector}
use Rattle.vh_logic.specs.Number.{number_of, digit_value, all_known, binary, wrapped, twos_complement, integer_at, integer_of, known_number}
use Rattle.vh_logic.specs.Planes.{digit_of, digits_of}
use Rattle.vh_logic.specs.PlanesBack.{length-digits_of, half_below, by_bit}
use Rattle.vh_logic.proofs.PlanesLemmas.{digits_of-mask, Vector-of}
use Rattle.vh_logic.proofs.TestLemmas.{list_all-digits_of}
use Rattle.vh_logic.proofs.Tables.{test_by_2}

-- A vector is known if no bit of its second plane is set
pub all_known-digits_of : (w a b : ℕ) → b < 2 ^ w → all_known (digits_of w a b) ≡ eqb b 0
all_known-digits_of w a b h =
    list_all-digits_of is_known w a b b h
    (λ i within. test_by_2 (λ x y. is_known (digit_of x y)) (λ x y. eqb y 0) refl _ _ (bit_at-lt a i) (bit_at-lt b i))

pub number_of-digits_of : (w a : ℕ) → a < 2 ^ w → number_of (digits_of w a 0) ≡ a
unfolding number_of digits_of
number_of-digits_of zero a h = omega arith
number_of-digits_of (suc w) a h =
    let first : digit_value (digit_of (a % 2) 0) ≡ a % 2 = by_bit (λ x. digit_value (digit_of x 0) ≡ x) refl refl (a % 2) (omega arith) in
    let rest = number_of-digits_of w (a / 2) (half_below w a h) in
    omega arith

pub digits_of-binary : (w n : ℕ) → digits_of w n 0 ≡ binary w n
unfolding digits_of binary
digits_of-binary zero n = refl
digits_of-binary (suc w) n =
    let first : digit_of (n % 2) 0 ≡ cond (eqb (n % 2) 0) Zero One = by_bit (λ x. digit_of x 0 ≡ cond (eqb x 0) Zero One) refl refl (n % 2) (omega arith) in
    let rest = digits_of-binary w (n / 2) in
    cc

-- Only the number modulo 2 ^ w counts
pub digits_of-mod : (w n : ℕ) → digits_of w (n % 2 ^ w) 0 ≡ binary w n
digits_of-mod w n = rw (← and_mask n w) (digits_of-mask w n 0 ∙ digits_of-binary w n)

pub binary-same : (w m n : ℕ) → m % 2 ^ w ≡ n % 2 ^ w → binary w m ≡ binary w n
binary-same w m n e = sym (digits_of-mod w m) ∙ ap (λ k. digits_of w k 0) e ∙ digits_of-mod w n

pub integer_of-planes : (w a b : ℕ) (s : Bool) → a < 2 ^ w → b < 2 ^ w
    → integer_of (Vector-of w a b s) ≡ cond (eqb b 0) (Some (integer_at w s a)) None
integer_of-planes w a zero s h k = rw (all_known-digits_of w a 0 k, length-digits_of w a 0, number_of-digits_of w a h) refl
integer_of-planes w a (suc b) s h k = rw (all_known-digits_of w a (suc b) k, eqb-suc-zero b) refl

pub known_number-planes : (w a b : ℕ) → a < 2 ^ w → b < 2 ^ w → known_number (digits_of w a b) ≡ cond (eqb b 0) (Some a) None
known_number-planes w a zero h k = rw (all_known-digits_of w a 0 k, number_of-digits_of w a h) refl
known_number-planes w a (suc b) h k = rw (all_known-digits_of w a (suc b) k, eqb-suc-zero b) refl

-- The same of a vector that a contract sees
pub known_integer : (w a b : ℕ) (s : Bool) (x : Vector) → Vector-of w a b s ≡ x → a < 2 ^ w → b ≡ 0 → integer_of x ≡ Some (integer_at w s a)
known_integer w a b s x e h z = rw (← e, z) (integer_of-planes w a 0 s h (pow_pos w))

pub unknown_integer : (w a b : ℕ) (s : Bool) (x : Vector) → Vector-of w a b s ≡ x → a < 2 ^ w → b < 2 ^ w → (b ≡ 0 → ⊥) → integer_of x ≡ None
unknown_integer w a b s x e h k n = rw (← e) (integer_of-planes w a b s h k ∙ cond-false (eqb b 0) _ _ (ne_eqb b 0 n))

-- Both of two numbers are 0 where their bits together are
pub or_zero : (a b : ℕ) → bit_or a b ≡ 0 → (a ≡ 0) × (b ≡ 0)
or_zero a b h = (omega (arith, le_or_l a b), omega (arith, le_or_r a b))

-- An integer modulo 2 ^ w
pub wrapped_is : (w k m : ℕ) (z : ℤ) → z +ℤ pos (k * 2 ^ w) ≡ pos m → wrapped w z ≡ m % 2 ^ w
wrapped_is w k m z e = ap (λ (y : ℤ). unsigned_abs y) (int_rem_euclid_is z (pos (2 ^ w)) (2 ^ w) k m (pow_pos w) refl e)

-- An integer and a number that differ by a multiple of 2 ^ w
pub record Differs (w : ℕ) (z : ℤ) (n : ℕ) : Type 0 where
  pub up : ℕ
  pub down : ℕ
  pub same : z +ℤ pos (up * 2 ^ w) ≡ pos (n + down * 2 ^ w)

pub twos_complement-differs : (w n : ℕ) → n < 2 ^ w → Differs w (twos_complement w n) n
twos_complement-differs w n h =
    elim (leb (2 ^ w) (2 * n)) as (λ t. Differs w (cond t (neg_ℤ (pos (2 ^ w - n))) (pos n)) n) [
      | true ↦ record { up = 1; down = 0; same = omega (arith, ints) }
      | false ↦ record { up = 0; down = 0; same = omega (arith, ints) }
    ]

pub integer_at-differs : (w n : ℕ) (s : Bool) → n < 2 ^ w → Differs w (integer_at w s n) n
integer_at-differs w n true h = twos_complement-differs w n h
integer_at-differs w n false h = record { up = 0; down = 0; same = omega (arith, ints) }

pub Differs-sum : (w m n : ℕ) (y z : ℤ) → Differs w y m → Differs w z n → Differs w (y +ℤ z) (m + n)
Differs-sum w m n y z d e = record { up = d.up + e.up; down = d.down + e.down; same = omega (arith, ints, d.same, e.same) }

-- A power of two is a multiple of a lesser one
pub pow_multiple : (w p : ℕ) → w ≤ p → 2 ^ p ≡ 2 ^ (p - w) * 2 ^ w
pow_multiple w p h = let e : p ≡ p - w + w = omega arith in ap (λ k. 2 ^ k) e ∙ pow-add 2 (p - w) w

pub Differs-difference : (w p m n : ℕ) (y z : ℤ) → w ≤ p → n < 2 ^ w → Differs w y m → Differs w z n
    → Differs w (y -ℤ z) (m + (2 ^ p - n))
Differs-difference w p m n y z le h d e =
    let times : 2 ^ p ≡ 2 ^ (p - w) * 2 ^ w = pow_multiple w p le in
    let below : 2 ^ w ≤ 2 ^ p = pow_mono le in
    record { up = d.up + e.down + 2 ^ (p - w); down = d.down + e.up; same = omega (arith, ints, d.same, e.same) }

pub Differs-negative : (w p n r : ℕ) (z : ℤ) → w ≤ p → (r + n) % 2 ^ p ≡ 0 → Differs w z n → Differs w (neg_ℤ z) r
Differs-negative w p n r z le none d =
    let q : ℕ = (r + n) / 2 ^ p in
    let whole : q * (2 ^ (p - w) * 2 ^ w) ≡ r + n = rw (← pow_multiple w p le) (let e = shr_split (r + n) p in omega arith) in
    record { up = d.down + q * 2 ^ (p - w); down = d.up; same = omega (arith, ints, d.same) }

-- Products, by the signs of the factors: the equations of the factors, multiplied out
pos_eq : (a m u d : ℕ) → pos a +ℤ pos u ≡ pos (m + d) → a + u ≡ m + d
pos_eq a m u d e = omega (arith, ints)

negsuc_eq : (a m u d : ℕ) → negsuc a +ℤ pos u ≡ pos (m + d) → suc a + (m + d) ≡ u
negsuc_eq a m u d e = omega (arith, ints)

times_up : (m n u d v e M : ℕ) → ℕ
times_up m n u d v e M = m * v + n * u + d * v * M + u * e * M

times_down : (m n u d v e M : ℕ) → ℕ
times_down m n u d v e M = m * e + n * d + u * v * M + d * e * M

both_pos : (a b m n u d v e M : ℕ) → a + u * M ≡ m + d * M → b + v * M ≡ n + e * M
    → a * b + times_up m n u d v e M * M ≡ m * n + times_down m n u d v e M * M
unfolding times_up times_down
both_pos a b m n u d v e M p q =
    omega (arith, ap (λ x. x * (b + v * M)) p, ap (λ x. (m + d * M) * x) q, ap (λ x. x * (v * M)) p, ap (λ x. x * (u * M)) q)

left_neg : (a b m n u d v e M : ℕ) → a + (m + d * M) ≡ u * M → b + v * M ≡ n + e * M
    → times_up m n u d v e M * M ≡ m * n + times_down m n u d v e M * M + a * b
unfolding times_up times_down
left_neg a b m n u d v e M p q =
    omega (arith, ap (λ x. x * b) p, ap (λ x. x * (u * M)) q, ap (λ x. x * m) q, ap (λ x. x * (d * M)) q)

right_neg : (a b m n u d v e M : ℕ) → a + u * M ≡ m + d * M → b + (n + e * M) ≡ v * M
    → times_up m n u d v e M * M ≡ m * n + times_down m n u d v e M * M + a * b
unfolding times_up times_down
right_neg a b m n u d v e M p q =
    omega (arith, ap (λ x. x * a) q, ap (λ x. x * (v * M)) p, ap (λ x. x * n) p, ap (λ x. x * (e * M)) p)

both_neg : (a b m n u d v e M : ℕ) → a + (m + d * M) ≡ u * M → b + (n + e * M) ≡ v * M
    → a * b + times_up m n u d v e M * M ≡ m * n + times_down m n u d v e M * M
unfolding times_up times_down
both_neg a b m n u d v e M p q =
    omega (arith, ap (λ x. x * b) p, ap (λ x. x * (u * M)) q, ap (λ x. x * m) q, ap (λ x. x * (d * M)) q)

product-same : (M m n u d v e : ℕ) (y z : ℤ) → y +ℤ pos (u * M) ≡ pos (m + d * M) → z +ℤ pos (v * M) ≡ pos (n + e * M)
    → (y *ℤ z) +ℤ pos (times_up m n u d v e M * M) ≡ pos (m * n + times_down m n u d v e M * M)
product-same M m n u d v e (pos a) (pos b) p q =
    ap pos (both_pos a b m n u d v e M (pos_eq _ _ _ _ p) (pos_eq _ _ _ _ q))
product-same M m n u d v e (negsuc a) (pos b) p q =
    let r = left_neg (suc a) b m n u d v e M (negsuc_eq _ _ _ _ p) (pos_eq _ _ _ _ q) in omega (arith, ints)
product-same M m n u d v e (pos a) (negsuc b) p q =
    let r = right_neg a (suc b) m n u d v e M (pos_eq _ _ _ _ p) (negsuc_eq _ _ _ _ q) in omega (arith, ints)
product-same M m n u d v e (negsuc a) (negsuc b) p q =
    ap pos (both_neg (suc a) (suc b) m n u d v e M (negsuc_eq _ _ _ _ p) (negsuc_eq _ _ _ _ q))

pub Differs-product : (w m n : ℕ) (y z : ℤ) → Differs w y m → Differs w z n → Differs w (y *ℤ z) (m * n)
Differs-product w m n y z d e =
    record {
      up = times_up m n d.up d.down e.up e.down (2 ^ w);
      down = times_down m n d.up d.down e.up e.down (2 ^ w);
      same = product-same (2 ^ w) m n d.up d.down e.up e.down y z d.same e.same;
    }

-- What a result of the machine's word is, cut to the width
pub mod-wider : (w p n : ℕ) → w ≤ p → n % 2 ^ p % 2 ^ w ≡ n % 2 ^ w
mod-wider w p n h =
    let e : p - w + w ≡ p = omega arith in
    let P : ℕ → Type 0 = λ k. n % 2 ^ k % 2 ^ w ≡ n % 2 ^ w in
    subst P e (mod-mod-pow n (p - w) w)

pub binary-differs : (w n : ℕ) (z : ℤ) → Differs w z n → binary w n ≡ binary w (wrapped w z)
binary-differs w n z d =
    let same : wrapped w z ≡ n % 2 ^ w = wrapped_is w d.up (n + d.down * 2 ^ w) z d.same ∙ add-mul-mod_self_right n d.down (2 ^ w) in
    binary-same w _ _ (sym (ap (λ k. k % 2 ^ w) same ∙ mod-mod n (2 ^ w)))

pub binary-wrapped : (w p n : ℕ) (z : ℤ) → w ≤ p → Differs w z n → binary w (n % 2 ^ p) ≡ binary w (wrapped w z)
binary-wrapped w p n z h d = binary-same w _ _ (mod-wider w p n h) ∙ binary-differs w n z d

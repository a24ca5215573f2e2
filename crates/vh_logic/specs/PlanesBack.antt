-- That the digits give their planes back, which a vector that is copied owes.
use Rattle.std.proofs.Common.{◌≡◌, ℕ, zero, suc, ◌*◌, ◌/◌, ◌%◌, ◌^◌, ◌<◌, length, ◌⊎◌, inl, inr, refl, ap, arith, subst, sym}
use Rattle.std.proofs.Math.Nat.{pow-suc}
use Rattle.vh_logic.specs.Planes.{digit_of, digits_of, aval_bit, bval_bit, plane_of}

-- A bit is 0 or 1
pub bit_cases : (n : ℕ) → n < 2 → (n ≡ 0) ⊎ (n ≡ 1)
bit_cases zero h = inl refl
bit_cases (suc zero) h = inr refl
bit_cases (suc (suc n)) h = absurd (omega arith)

-- A fact of one bit, and of two, by their values
pub by_bit : (P : ℕ → Type 0) → P 0 → P 1 → (n : ℕ) → n < 2 → P n
by_bit P at_0 at_1 n h = elim (bit_cases n h) [ inl e ↦ subst P (sym e) at_0 | inr e ↦ subst P (sym e) at_1 ]

pub by_2_bits : (P : ℕ → ℕ → Type 0) → P 0 0 → P 0 1 → P 1 0 → P 1 1 → (m n : ℕ) → m < 2 → n < 2 → P m n
by_2_bits P p00 p01 p10 p11 m n h k =
    by_bit (λ v. P v n) (by_bit (P 0) p00 p01 n k) (by_bit (P 1) p10 p11 n k) m h

pub length-digits_of : (w a b : ℕ) → length (digits_of w a b) ≡ w
unfolding digits_of
length-digits_of zero a b = refl
length-digits_of (suc w) a b = ap suc (length-digits_of w (a / 2) (b / 2))

pub half_below : (w a : ℕ) → a < 2 ^ suc w → a / 2 < 2 ^ w
half_below w a h = let e : 2 ^ suc w ≡ 2 * 2 ^ w = rw pow-suc (omega arith) in omega arith

-- The bits of a digit are those that it was made of
aval_bit-digit_of : (a b : ℕ) → aval_bit (digit_of (a % 2) (b % 2)) ≡ a % 2
aval_bit-digit_of a b =
    by_2_bits (λ m n. aval_bit (digit_of m n) ≡ m) refl refl refl refl (a % 2) (b % 2) (omega arith) (omega arith)

bval_bit-digit_of : (a b : ℕ) → bval_bit (digit_of (a % 2) (b % 2)) ≡ b % 2
bval_bit-digit_of a b =
    by_2_bits (λ m n. bval_bit (digit_of m n) ≡ n) refl refl refl refl (a % 2) (b % 2) (omega arith) (omega arith)

pub aval-digits_of : (w a b : ℕ) → a < 2 ^ w → plane_of aval_bit (digits_of w a b) ≡ a
unfolding digits_of plane_of
aval-digits_of zero a b h = omega arith
aval-digits_of (suc w) a b h =
    omega (arith, aval_bit-digit_of a b, aval-digits_of w (a / 2) (b / 2) (half_below w a h))

pub bval-digits_of : (w a b : ℕ) → b < 2 ^ w → plane_of bval_bit (digits_of w a b) ≡ b
unfolding digits_of plane_of
bval-digits_of zero a b h = omega arith
bval-digits_of (suc w) a b h =
    omega (arith, bval_bit-digit_of a b, bval-digits_of w (a / 2) (b / 2) (half_below w b h))

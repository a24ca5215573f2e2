-- The operators on integers, from the planes of their operands.
use Rattle.std.proofs.Common.{◌≡◌, ℕ, zero, suc, ◌+◌, ◌-◌, ◌*◌, ◌/◌, ◌%◌, ◌^◌, ◌<◌, ◌≤◌, eqb, refl, ap, arith, ◌∙◌, sym, subst, Bool, true, false, ◌&&◌, Some, None, Option, inl, inr, length}
use Rattle.std.specs.Prelude.{ℤ, pos, negsuc, neg_ℤ, ◌*ℤ◌, bit_or, IfSome}
use Rattle.std.proofs.Math.Bool.{xor}
use Rattle.std.proofs.lemmas.Int.{ints}
use Rattle.std.proofs.Math.Nat.{zero-div, zero-mod, mul-zero, pow-zero, pow-suc, mul_assoc, mul_comm}
use Rattle.std.proofs.Math.Numerals.{add-one}
use Rattle.std.proofs.lemmas.Nat.{pow_pos, shr_split, mod_below, pow-add, mul-pow, pow-mod, mul-mod_first, mul-mod_second}
use Rattle.std.proofs.lemmas.Bool.{cases_eq, eq-eqb, ne_eqb, lt-leb}
use Rattle.std.specs.Int.{int_pow}
use Rattle.vh_logic.specs.declared.digits.Digit.TheVariants.{X}
use Rattle.vh_logic.specs.Vector.{Vector, width_of, filled}
use Rattle.vh_logic.specs.Number.{binary, wrapped, integer_at, integer_of, signed_integer, vector_of}
use Rattle.vh_logic.specs.Arithmetic.{arithmetic, quotient, remainder, power, reciprocal_power}
use Rattle.vh_logic.proofs.PlanesLemmas.{Vector-of, digits_with}
use Rattle.vh_logic.proofs.NumberLemmas.{known_integer, unknown_integer, or_zero, Differs, binary-wrapped, binary-differs, pow_multiple, Differs-product, integer_at-differs}
use Rattle.vh_logic.specs.PlanesBack.{length-digits_of}
use Rattle.vh_logic.specs.Planes.{digits_of}

-- An operand with an x or z digit makes all digits x
pub arithmetic-unknown : (f : ℤ → ℤ → Option ℤ) (w a b v c d : ℕ) (s t : Bool) (x y : Vector)
    → Vector-of w a b s ≡ x → Vector-of v c d t ≡ y → a < 2 ^ w → b < 2 ^ w → c < 2 ^ v → d < 2 ^ v
    → (bit_or b d ≡ 0 → ⊥) → filled (width_of x) X x.signed ≡ arithmetic f x y
arithmetic-unknown f w a b v c d s t x y e g ha hb hc hd n =
    elim (cases_eq b 0) [
      | inl z ↦
          (let other : d ≡ 0 → ⊥ = λ z'. n (rw (z, z') refl) in
          rw (known_integer w a b s x e ha z, unknown_integer v c d t y g hc hd other) refl)
      | inr m ↦ rw (unknown_integer w a b s x e ha hb m) refl
    ]

-- Known operands have an integer each
pub arithmetic-known : (f : ℤ → ℤ → Option ℤ) (w a b v c d : ℕ) (s t : Bool) (x y : Vector)
    → Vector-of w a b s ≡ x → Vector-of v c d t ≡ y → a < 2 ^ w → c < 2 ^ v
    → bit_or b d ≡ 0 → arithmetic f x y ≡ vector_of (width_of x) x.signed (f (integer_at w s a) (integer_at v t c))
arithmetic-known f w a b v c d s t x y e g ha hc n =
    rw (known_integer w a b s x e ha (or_zero b d n).0, known_integer v c d t y g hc (or_zero b d n).1) refl

pub width-planes : (w a b : ℕ) (s : Bool) (x : Vector) → Vector-of w a b s ≡ x → width_of x ≡ w
width-planes w a b s x e = sym (ap (λ (z : Vector). width_of z) e) ∙ length-digits_of w a b

pub literal-width : (w a b m p : ℕ) {s : Bool} (x : Vector) → Vector-of w a b s ≡ x → length (digits_of w m p) ≡ width_of x
literal-width w a b m p {s} x e = length-digits_of w m p ∙ sym (width-planes w a b s x e)

pub widths-planes : (w a b v c d : ℕ) (s t : Bool) (x y : Vector) → Vector-of w a b s ≡ x → Vector-of v c d t ≡ y
    → width_of x ≡ width_of y → v ≡ w
widths-planes w a b v c d s t x y e g l = sym (width-planes v c d t y g) ∙ sym l ∙ width-planes w a b s x e

-- A result of the machine's word of p bits, which differs from the integer by a multiple of 2 ^ width
pub arithmetic-result : (f : ℤ → ℤ → Option ℤ) (w a b v c d n p : ℕ) (s t : Bool) (x y : Vector) (z : ℤ)
    → Vector-of w a b s ≡ x → Vector-of v c d t ≡ y → a < 2 ^ w → c < 2 ^ v
    → bit_or b d ≡ 0 → f (integer_at w s a) (integer_at v t c) ≡ Some z → w ≤ p → Differs w z n
    → digits_with (binary (width_of x) (n % 2 ^ p)) x.signed ≡ arithmetic f x y
arithmetic-result f w a b v c d n p s t x y z e g ha hc known is le differs =
    ap (λ ds. record { digits = ds; signed = x.signed }) (rw (width-planes w a b s x e) (binary-wrapped w p n z le differs))
    ∙ sym (arithmetic-known f w a b v c d s t x y e g ha hc known ∙ ap (vector_of (width_of x) x.signed) is)

-- The second operand, at the width of the first
pub right-differs : (w v c : ℕ) (t : Bool) → v ≡ w → c < 2 ^ v → (Differs w (integer_at v t c) c) × (c < 2 ^ w)
right-differs w v c t e h = rw (← e) (integer_at-differs v c t h, h)

-- A result of a machine's word, where the operator on integers differs from that on numbers by multiples of 2 ^ width
pub word-result : (f : ℤ → ℤ → ℤ) (w a b v c d n p : ℕ) (s t : Bool) (x y : Vector)
    → Vector-of w a b s ≡ x → Vector-of v c d t ≡ y → width_of x ≡ width_of y → a < 2 ^ w → c < 2 ^ v → bit_or b d ≡ 0 → w ≤ p
    → (c < 2 ^ w → Differs w (integer_at w s a) a → Differs w (integer_at v t c) c → Differs w (f (integer_at w s a) (integer_at v t c)) n)
    → digits_with (binary (width_of x) (n % 2 ^ p)) x.signed ≡ arithmetic (λ i j. Some (f i j)) x y
word-result f w a b v c d n p s t x y e g l below under known within h =
    let right = right-differs w v c t (widths-planes w a b v c d s t x y e g l) under in
    arithmetic-result (λ i j. Some (f i j)) w a b v c d n p s t x y (f (integer_at w s a) (integer_at v t c)) e g
    below under known refl within (h right.1 (integer_at-differs w a s below) right.0)

-- A result of any number that differs from the integer by a multiple of 2 ^ width
pub vector_of-number : (w a b n : ℕ) (s : Bool) (x : Vector) (z : ℤ) → Vector-of w a b s ≡ x → Differs w z n
    → digits_with (binary (width_of x) n) x.signed ≡ vector_of (width_of x) x.signed (Some z)
vector_of-number w a b n s x z e differs =
    ap (λ ds. digits_with ds x.signed) (rw (width-planes w a b s x e) (binary-differs w n z differs))

-- ---- quotients and remainders
pub quotient-signed : (m n : Bool) (p q : ℕ) → 0 < q
    → quotient (signed_integer m p) (signed_integer n q) ≡ Some (signed_integer (xor m n) (p / q))
unfolding xor
quotient-signed m n p zero h = absurd (omega arith)
quotient-signed true true zero (suc q) h = rw (zero-div (suc q)) refl
quotient-signed true true (suc p) (suc q) h = refl
quotient-signed true false zero (suc q) h = rw (zero-div (suc q)) refl
quotient-signed true false (suc p) (suc q) h = refl
quotient-signed false true p (suc q) h = refl
quotient-signed false false p (suc q) h = refl

pub remainder-signed : (m n : Bool) (p q : ℕ) → 0 < q
    → remainder (signed_integer m p) (signed_integer n q) ≡ Some (signed_integer m (p % q))
remainder-signed m n p zero h = absurd (omega arith)
remainder-signed true true zero (suc q) h = rw (zero-mod (suc q)) refl
remainder-signed true true (suc p) (suc q) h = refl
remainder-signed true false zero (suc q) h = rw (zero-mod (suc q)) refl
remainder-signed true false (suc p) (suc q) h = refl
remainder-signed false true p (suc q) h = refl
remainder-signed false false p (suc q) h = refl

-- The machine's word for a signed integer
pub Differs-wrapped : (p : ℕ) (z : ℤ) → Differs p z (wrapped p z)
Differs-wrapped p (pos n) =
    record { up = 0; down = n / 2 ^ p; same = ap pos (omega (arith, shr_split n p)) }
Differs-wrapped p (negsuc n) =
    record { up = n / 2 ^ p + 1; down = 0; same = omega (arith, ints, shr_split n p, mod_below n (2 ^ p) (pow_pos p)) }

pub Differs-narrow : (w p n : ℕ) (z : ℤ) → w ≤ p → Differs p z n → Differs w z n
Differs-narrow w p n z le d =
    let times : 2 ^ p ≡ 2 ^ (p - w) * 2 ^ w = pow_multiple w p le in
    record { up = d.up * 2 ^ (p - w); down = d.down * 2 ^ (p - w); same = let wide = rw times at d.same in omega (arith, ints) }

-- ---- powers by squaring, modulo N
power-step : (N p s h : ℕ) → (p * (s * s % N) ^ h) % N ≡ (p * (s * s) ^ h) % N
power-step N p s h = sym (mul-mod_second p ((s * s % N) ^ h) N) ∙ ap (λ x. (p * x) % N) (pow-mod (s * s) h N) ∙ mul-mod_second p ((s * s) ^ h) N

square-pow : (s h : ℕ) → (s * s) ^ h ≡ s ^ (h + h)
square-pow s h = mul-pow s s h ∙ sym (pow-add s h h)

pub power-even : (N p s n : ℕ) → n % 2 ≡ 0 → (p * (s * s % N) ^ (n / 2)) % N ≡ (p * s ^ n) % N
power-even N p s n even =
    let whole : n / 2 + n / 2 ≡ n = omega arith in
    power-step N p s (n / 2) ∙ ap (λ x. (p * x) % N) (square-pow s (n / 2) ∙ ap (λ k. s ^ k) whole)

pub power-odd : (N p s n : ℕ) → n % 2 ≡ 1 → (p * s % N * (s * s % N) ^ (n / 2)) % N ≡ (p * s ^ n) % N
power-odd N p s n odd =
    let whole : n / 2 + n / 2 + 1 ≡ n = omega arith in
    let more : s * s ^ (n / 2 + n / 2) ≡ s ^ n = sym (pow-suc' s (n / 2 + n / 2)) ∙ ap (λ k. s ^ k) whole in
    power-step N (p * s % N) s (n / 2) ∙ mul-mod_first (p * s) ((s * s) ^ (n / 2)) N
    ∙ ap (λ x. (p * s * x) % N) (square-pow s (n / 2)) ∙ ap (λ x. x % N) (mul_assoc p s (s ^ (n / 2 + n / 2)) ∙ ap (λ x. p * x) more)
  where
    pow-suc' : (s k : ℕ) → s ^ (k + 1) ≡ s * s ^ k
    pow-suc' s k = rw (add-one, pow-suc) (mul_comm (s ^ k) s)

-- ---- powers of integers
negsuc-neg : (a n : ℕ) → negsuc a *ℤ neg_ℤ (pos n) ≡ pos (suc a * n)
negsuc-neg a zero = rw (mul-zero (suc a)) refl
negsuc-neg a (suc n) = refl

int_pow-suc : (z : ℤ) (e : ℕ) → int_pow z (suc e) ≡ z *ℤ int_pow z e
int_pow-suc (pos a) e = ap pos (pow-suc a e ∙ mul_comm (a ^ e) a)
int_pow-suc (negsuc a) e =
    let more : suc a ^ suc e ≡ suc a * suc a ^ e = pow-suc (suc a) e ∙ mul_comm (suc a ^ e) (suc a) in
    elim (cases_eq (e % 2) 0) [
      | inl even ↦
          (let odd : suc e % 2 ≡ 0 → ⊥ = λ h. omega arith in
          rw (ne_eqb (suc e % 2) 0 odd, eq-eqb (e % 2) 0 even, more) refl)
      | inr odd ↦
          (let even : suc e % 2 ≡ 0 = omega arith in
          rw (eq-eqb (suc e % 2) 0 even, ne_eqb (e % 2) 0 odd, more) (sym (negsuc-neg a (suc a ^ e))))
    ]

pub Differs-power : (w n e : ℕ) (z : ℤ) → Differs w z n → Differs w (int_pow z e) (n ^ e)
Differs-power w n zero (pos a) d = record { up = 0; down = 0; same = rw (pow-zero n, pow-zero a) (omega (arith, ints)) }
Differs-power w n zero (negsuc a) d = record { up = 0; down = 0; same = rw (pow-zero n, pow-zero (suc a)) (omega (arith, ints)) }
Differs-power w n (suc e) z d =
    rw (int_pow-suc z e, pow-suc) (let P : ℕ → Type 0 = λ m. Differs w (z *ℤ int_pow z e) m in
    subst P (mul_comm n (n ^ e)) (Differs-product w n (n ^ e) z (int_pow z e) d (Differs-power w n e z d)))

-- A zero
pub integer_at-zero : (w : ℕ) (s : Bool) → integer_at w s 0 ≡ pos 0
integer_at-zero w true = rw (lt-leb (2 ^ w) (2 * 0) (pow_pos w)) refl
integer_at-zero w false = refl

-- A result that is the machine's word for an integer
pub vector_of-word : (w a b p r : ℕ) (s : Bool) (x : Vector) (z : ℤ) → Vector-of w a b s ≡ x → w ≤ p → r ≡ wrapped p z
    → digits_with (binary (width_of x) r) x.signed ≡ vector_of (width_of x) x.signed (Some z)
vector_of-word w a b p r s x z e le word =
    let differs : Differs w z r = rw word (Differs-narrow w p (wrapped p z) z le (Differs-wrapped p z)) in
    vector_of-number w a b r s x z e differs

pub arithmetic-word : (f : ℤ → ℤ → Option ℤ) (w a b v c d p r : ℕ) (s t : Bool) (x y : Vector) (z : ℤ)
    → Vector-of w a b s ≡ x → Vector-of v c d t ≡ y → a < 2 ^ w → c < 2 ^ v
    → bit_or b d ≡ 0 → f (integer_at w s a) (integer_at v t c) ≡ Some z → w ≤ p → r ≡ wrapped p z
    → digits_with (binary (width_of x) r) x.signed ≡ arithmetic f x y
arithmetic-word f w a b v c d p r s t x y z e g ha hc known is le word =
    vector_of-word w a b p r s x z e le word
    ∙ sym (arithmetic-known f w a b v c d s t x y e g ha hc known ∙ ap (vector_of (width_of x) x.signed) is)

pub IfSome-integer : (w a b : ℕ) (s : Bool) (x : Vector) (P : ℤ → Type 0) → Vector-of w a b s ≡ x → a < 2 ^ w → b < 2 ^ w
    → P (integer_at w s a) → IfSome (integer_of x) P
IfSome-integer w a b s x P e ha hb h =
    elim (cases_eq b 0) [
      | inl z ↦ rw (known_integer w a b s x e ha z) h
      | inr n ↦ rw (unknown_integer w a b s x e ha hb n) tt
    ]

one_pow : (e : ℕ) → 1 ^ e ≡ 1
one_pow zero = pow-zero 1
one_pow (suc e) = rw (pow-suc, one_pow e) refl

pub reciprocal-none : (m : Bool) (size e : ℕ) → size ≡ 0 → reciprocal_power (signed_integer m size) e ≡ None
reciprocal-none true size e z = rw z refl
reciprocal-none false size e z = rw z refl

pub reciprocal-zero : (m : Bool) (size e : ℕ) → 1 < size → reciprocal_power (signed_integer m size) e ≡ Some (pos 0)
reciprocal-zero m zero e h = absurd (omega arith)
reciprocal-zero m (suc zero) e h = absurd (omega arith)
reciprocal-zero true (suc (suc k)) e h = refl
reciprocal-zero false (suc (suc k)) e h = refl

pub reciprocal-one : (m : Bool) (size e : ℕ) → size ≡ 1
    → reciprocal_power (signed_integer m size) e ≡ Some (signed_integer (m && eqb (e % 2) 1) 1)
reciprocal-one true size e z =
    rw (z, one_pow e) (elim (cases_eq (e % 2) 0) [
      | inl even ↦ (let odd : e % 2 ≡ 1 → ⊥ = λ h. omega arith in rw (eq-eqb (e % 2) 0 even, ne_eqb (e % 2) 1 odd) refl)
      | inr n ↦ (let odd : e % 2 ≡ 1 = omega arith in rw (ne_eqb (e % 2) 0 n, eq-eqb (e % 2) 1 odd) refl)
    ])
reciprocal-one false size e z = rw z refl

pub power-negative : (m : Bool) (x : ℤ) (size : ℕ) → m ≡ true → 0 < size → power x (signed_integer m size) ≡ reciprocal_power x size
power-negative m x zero t h = absurd (omega arith)
power-negative m x (suc n) t h = rw t refl

pub power-natural : (m : Bool) (x : ℤ) (size : ℕ) → m ≡ false → power x (signed_integer m size) ≡ Some (int_pow x size)
power-natural m x size f = rw f refl

-- The hexadecimal text of a number: its characters, its length, its last digit.
use Rattle.std.proofs.Common.{◌≡◌, ℕ, zero, suc, ◌+◌, ◌-◌, ◌*◌, ◌/◌, ◌%◌, ◌^◌, ◌<◌, ◌≤◌, List, [], ◌∷◌, ◌++◌, length, get_or, refl, ap, arith, ◌∙◌, sym, Bool, true, false, leb, inl, inr, append_assoc}
use Rattle.std.specs.Prelude.{◌&&◌, ◌||◌}
use Rattle.std.specs.Char.{is_ascii_digit, digit_char}
use Rattle.std.specs.List.{list_all}
use Rattle.std.specs.Fmt.{digits, digits_onto, digit_glyph}
use Rattle.std.proofs.lemmas.Bool.{lt-ltb, le-ltb, le-leb, eq-eqb}
use Rattle.std.proofs.lemmas.Bool.Decides.{eqb_tells, leb_tells}
use Rattle.std.proofs.lemmas.Fmt.{hex_one_digit}
use Rattle.std.proofs.Math.Nat.{pow-suc}
use Rattle.vh_logic.specs.declared.vector.TheConstants.{MAX_WIDTH}
use Rattle.vh_text.specs.Texts.{group_count}
use Rattle.vh_text.specs.Values.{is_lower_hex}

-- How many digits std's `digits` writes at most, which is no width of a vector
abbrev LIMIT : ℕ
LIMIT = 64

-- What is written before more digits
onto-append : (k n : ℕ) (acc : List ℕ) → digits_onto k 16 false n acc ≡ digits_onto k 16 false n [] ++ acc
onto-append zero n acc = refl
onto-append (suc k) n acc =
    let d : ℕ = digit_glyph false (n % 16) in
    elim (eqb_tells (n / 16) 0) [
      | inl e ↦ rw e.0 refl
      | inr e ↦
          rw e.0 (onto-append k (n / 16) (d ∷ acc)
          ∙ sym (ap (λ (xs : List ℕ). xs ++ acc) (onto-append k (n / 16) (d ∷ [])) ∙ append_assoc (digits_onto k 16 false (n / 16) []) (d ∷ []) acc))
    ]

-- A greater limit than the digits need writes the same
onto-limit : (k n : ℕ) (acc : List ℕ) → n < 16 ^ suc k → digits_onto (suc (suc k)) 16 false n acc ≡ digits_onto (suc k) 16 false n acc
onto-limit zero n acc h = let e : n / 16 ≡ 0 = omega arith in rw (eq-eqb (n / 16) 0 e) refl
onto-limit (suc k) n acc h =
    let power : 16 ^ suc (suc k) ≡ 16 * 16 ^ suc k = rw pow-suc (omega arith) in
    elim (eqb_tells (n / 16) 0) [
      | inl e ↦ rw e.0 refl
      | inr e ↦ rw e.0 (onto-limit k (n / 16) (digit_glyph false (n % 16) ∷ acc) (omega (arith, power)))
    ]

onto-last : (k n : ℕ) → 16 ≤ n → n < 16 ^ suc (suc k)
    → digits_onto (suc (suc k)) 16 false n [] ≡ digits_onto (suc (suc k)) 16 false (n / 16) [] ++ (digit_glyph false (n % 16) ∷ [])
onto-last k n some h =
    let power : 16 ^ suc (suc k) ≡ 16 * 16 ^ suc k = rw pow-suc (omega arith) in
    let d : ℕ = digit_glyph false (n % 16) in
    elim (eqb_tells (n / 16) 0) [
      | inl e ↦ let none : n / 16 ≡ 0 = e.1 in absurd (omega (arith, none))
      | inr e ↦
          rw e.0 (onto-append (suc k) (n / 16) (d ∷ [])
          ∙ ap (λ (xs : List ℕ). xs ++ (d ∷ [])) (sym (onto-limit k (n / 16) [] (omega (arith, power)))))
    ]

-- The last digit, behind those of the rest
pub hex-last : (n : ℕ) → 16 ≤ n → n < 2 ^ MAX_WIDTH → digits 16 false n ≡ digits 16 false (n / 16) ++ (digit_char (n % 16) ∷ [])
unfolding digits
hex-last n some h = onto-last (LIMIT - 2) n some (omega arith)

pub hex-one : (n : ℕ) → n < 16 → digits 16 false n ≡ digit_char n ∷ []
hex-one n h = hex_one_digit false n h

-- The characters of hexadecimal digits
or_right : (a b : Bool) → b ≡ true → (a || b) ≡ true
or_right true b h = refl
or_right false b h = h

glyph-low : (n : ℕ) → n < 10 → digit_glyph false n ≡ 48 + n
glyph-low n h = rw (lt-ltb n 10 h) refl

glyph-high : (n : ℕ) → 10 ≤ n → digit_glyph false n ≡ 87 + n
glyph-high n h = rw (le-ltb n 10 h) refl

low-hex : (n : ℕ) → n < 10 → is_lower_hex (48 + n) ≡ true
low-hex n h =
    let least : 48 ≤ 48 + n = omega arith in
    let most : 48 + n ≤ 57 = omega arith in
    rw (le-leb 48 (48 + n) least, le-leb (48 + n) 57 most) refl

high-hex : (n : ℕ) → 10 ≤ n → n < 16 → is_lower_hex (87 + n) ≡ true
high-hex n h k =
    let least : 97 ≤ 87 + n = omega arith in
    let most : 87 + n ≤ 102 = omega arith in
    let letter : (leb 97 (87 + n) && leb (87 + n) 102) ≡ true = rw (le-leb 97 (87 + n) least, le-leb (87 + n) 102 most) refl in
    or_right (is_ascii_digit (87 + n)) (leb 97 (87 + n) && leb (87 + n) 102) letter

glyph-hex : (n : ℕ) → n < 16 → is_lower_hex (digit_glyph false n) ≡ true
glyph-hex n h =
    elim (leb_tells 10 n) [
      | inl e ↦ let large : 10 ≤ n = e.1 in ap is_lower_hex (glyph-high n large) ∙ high-hex n large h
      | inr e ↦ let small : n < 10 = e.1 in ap is_lower_hex (glyph-low n small) ∙ low-hex n small
    ]

glyph-zero : (n : ℕ) → 0 < n → n < 16 → digit_glyph false n ≡ 48 → ⊥
glyph-zero n some h e =
    elim (leb_tells 10 n) [
      | inl l ↦ let large : 10 ≤ n = l.1 in omega (arith, e, glyph-high n large)
      | inr l ↦ let small : n < 10 = l.1 in omega (arith, e, glyph-low n small)
    ]

hex-all : (k n : ℕ) (acc : List ℕ) → list_all is_lower_hex acc ≡ true → list_all is_lower_hex (digits_onto k 16 false n acc) ≡ true
hex-all zero n acc h = h
hex-all (suc k) n acc h =
    let first : list_all is_lower_hex (digit_glyph false (n % 16) ∷ acc) ≡ true = rw (glyph-hex (n % 16) (omega arith)) h in
    elim (eqb_tells (n / 16) 0) [
      | inl e ↦ rw e.0 first
      | inr e ↦ rw e.0 (hex-all k (n / 16) (digit_glyph false (n % 16) ∷ acc) first)
    ]

hex-length : (k j n : ℕ) (acc : List ℕ) → j ≤ k → n < 16 ^ suc j → length (digits_onto (suc k) 16 false n acc) ≤ length acc + suc j
hex-length k zero n acc h below = let e : n / 16 ≡ 0 = omega arith in rw (eq-eqb (n / 16) 0 e) (omega arith)
hex-length zero (suc j) n acc h below = absurd (omega arith)
hex-length (suc k) (suc j) n acc h below =
    let power : 16 ^ suc (suc j) ≡ 16 * 16 ^ suc j = rw pow-suc (omega arith) in
    elim (eqb_tells (n / 16) 0) [
      | inl e ↦ rw e.0 (omega arith)
      | inr e ↦
          let rest = hex-length k j (n / 16) (digit_glyph false (n % 16) ∷ acc) (omega arith) (omega (arith, power)) in
          rw e.0 (omega (arith, rest))
    ]

hex-first : (k n : ℕ) (acc : List ℕ) → 0 < n → n < 16 ^ suc k → get_or (digits_onto (suc k) 16 false n acc) 0 0 ≡ 48 → ⊥
hex-first zero n acc some below =
    let e : n / 16 ≡ 0 = omega arith in
    rw (eq-eqb (n / 16) 0 e) (glyph-zero (n % 16) (omega arith) (omega arith))
hex-first (suc k) n acc some below =
    let power : 16 ^ suc (suc k) ≡ 16 * 16 ^ suc k = rw pow-suc (omega arith) in
    elim (eqb_tells (n / 16) 0) [
      | inl e ↦ let small : n / 16 ≡ 0 = e.1 in rw e.0 (glyph-zero (n % 16) (omega arith) (omega arith))
      | inr e ↦ let large : n / 16 ≡ 0 → ⊥ = e.1 in rw e.0 (hex-first k (n / 16) (digit_glyph false (n % 16) ∷ acc) (omega arith) (omega (arith, power)))
    ]

-- The hexadecimal text of a plane
pub text-hex : (n : ℕ) → list_all is_lower_hex (digits 16 false n) ≡ true
unfolding digits
text-hex n = hex-all LIMIT n [] refl

pub text-length : (n : ℕ) → n < 2 ^ MAX_WIDTH → length (digits 16 false n) ≤ group_count 4 MAX_WIDTH
unfolding digits
text-length n h = hex-length (LIMIT - 1) (group_count 4 MAX_WIDTH - 1) n [] (omega arith) (omega arith)

pub text-first : (n : ℕ) → 0 < n → n < 2 ^ MAX_WIDTH → get_or (digits 16 false n) 0 0 ≡ 48 → ⊥
unfolding digits
text-first n some h = hex-first (LIMIT - 1) n [] some (omega arith)

pub text-zero : digits 16 false 0 ≡ 48 ∷ []
unfolding digits
text-zero = refl

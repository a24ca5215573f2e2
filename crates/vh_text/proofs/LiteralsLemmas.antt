-- What the code of literals owes its definitions.
use Rattle.std.proofs.Common.{◌≡◌, ℕ, zero, suc, ◌+◌, ◌-◌, ◌*◌, ◌/◌, ◌%◌, ◌^◌, ◌≤◌, List, [], ◌∷◌, length, take, map, refl, ap, arith, ◌∙◌, sym, Bool, true, false, cond, eqb, leb, Option, Some, None, inl, inr}
use Rattle.std.specs.Prelude.{◌&&◌, not}
use Rattle.std.specs.Char.{digit_value, is_ascii_digit}
use Rattle.std.specs.List.{list_all, filter, find}
use Rattle.std.specs.Option.{option_map}
use Rattle.std.specs.Str.{all_ascii_digits}
use Rattle.std.specs.Str.Parse.{digits_value_after}
use Rattle.std.proofs.lemmas.List.{length-take-le, take-take, take_all, take-append-le}
use Rattle.std.proofs.lemmas.Bool.{lt-ltb, le-ltb, leb-true}
use Rattle.std.proofs.lemmas.Bool.Decides.{eqb_tells}
use Rattle.std.proofs.Math.Nat.{pow-suc}
use Rattle.std.proofs.Math.Arith.{mod-mul}
use Rattle.std.proofs.lemmas.Nat.{pow_pos}
use Rattle.vh_logic.specs.declared.digits.Digit.{Digit}
use Rattle.vh_logic.specs.declared.digits.Digit.TheVariants.{X, Z}
use Rattle.vh_logic.specs.declared.vector.TheConstants.{MAX_WIDTH, NATURAL_WIDTHS}
use Rattle.vh_logic.specs.Number.{binary}
use Rattle.vh_logic.specs.Planes.{digits_of}
use Rattle.vh_text.specs.declared.pattern.Pattern.{Pattern}
use Rattle.vh_text.specs.Digits.{question_as_z, characters, sized_digits, is_held}
use Rattle.vh_text.specs.Symbols.{is_x_letter, is_z_letter}
use Rattle.vh_text.specs.Literals.{natural_width, lone_letter, by_front, behind_size, after_white, size_of_number, unsigned_number}
use Rattle.vh_text.specs.Views.{pattern_of, pattern_held, IsWidth}
use Rattle.vh_text.proofs.ViewsLemmas.{digits_of-binary, short_or, is_held-take}

-- The number that digits write when they follow those of n
abbrev pub number_after : ℕ → List ℕ → Option ℕ
number_after n cs = cond (all_ascii_digits cs) (Some (digits_value_after 10 n cs)) None

pub number_after-more : (n c : ℕ) (cs : List ℕ) → is_ascii_digit c ≡ true → number_after n (c ∷ cs) ≡ number_after (n * 10 + digit_value c) cs
number_after-more n c cs e = rw e refl

and_both : (a b : Bool) → (a && b) ≡ true → (a ≡ true) × (b ≡ true)
and_both true b h = (refl, h)
and_both false b h = cc

-- A decimal digit and its value
pub digit_range : (c : ℕ) → is_ascii_digit c ≡ true → (48 ≤ c) × (c ≤ 57)
digit_range c h = let parts = and_both _ _ h in (leb-true 48 c parts.0, leb-true c 57 parts.1)

pub digit_value-is : (c : ℕ) → is_ascii_digit c ≡ true → digit_value c ≡ c - 48
digit_value-is c h =
    let range = digit_range c h in
    rw (le-ltb c 48 range.0, lt-ltb c 58 (omega arith)) refl

pub question-same : (b : ℕ) → is_ascii_digit b ≡ true → question_as_z b ≡ b
question-same b h =
    elim (eqb_tells b 63) [
      | inl e ↦ let range = digit_range b h in absurd (omega (arith, e.1))
      | inr n ↦ rw n.0 refl
    ]

-- The lowest digits of what is kept of a number
mod-half : (n p : ℕ) → (n % 2 ^ suc p % 2 ≡ n % 2) × (n % 2 ^ suc p / 2 ≡ n / 2 % 2 ^ p)
mod-half n p =
    let twice : 2 ^ suc p ≡ 2 ^ p * 2 = rw pow-suc (omega arith) in
    let split : n % 2 ^ suc p ≡ n / 2 % 2 ^ p * 2 + n % 2 = ap (λ m. n % m) twice ∙ mod-mul n {m = 2 ^ p} {c = 2} (pow_pos p) (omega arith) in
    (omega (arith, split), omega (arith, split))

pub binary-mod : (w p n : ℕ) → w ≤ p → binary w (n % 2 ^ p) ≡ binary w n
unfolding binary
binary-mod zero p n h = refl
binary-mod (suc w) zero n h = absurd (omega arith)
binary-mod (suc w) (suc p) n h =
    let half = mod-half n p in
    rw (half.0, half.1, binary-mod w p (n / 2) (omega arith)) refl

pub digits_of-kept : (w n : ℕ) → w ≤ MAX_WIDTH → digits_of w (n % 2 ^ MAX_WIDTH) 0 ≡ binary w n
digits_of-kept w n h = digits_of-binary w (n % 2 ^ MAX_WIDTH) ∙ binary-mod w MAX_WIDTH n h

-- What is kept of digits is enough to size them
pub sized_digits-take : (w : ℕ) (ds : List Digit) → w ≤ MAX_WIDTH → sized_digits w (take MAX_WIDTH ds) ≡ sized_digits w ds
sized_digits-take w ds h =
    elim (short_or (length ds) MAX_WIDTH) [
      | inl short ↦ ap (λ (xs : List Digit). sized_digits w xs) (take_all MAX_WIDTH ds short)
      | inr long ↦
          let len : length (take MAX_WIDTH ds) ≡ MAX_WIDTH = length-take-le MAX_WIDTH ds (omega arith) in
          take-append-le w (take MAX_WIDTH ds) _ (omega (arith, len)) ∙ take-take w MAX_WIDTH ds h ∙ sym (take-append-le w ds _ (omega arith))
    ]

-- Each natural width is one of a vector
abbrev is_width : ℕ → Bool
is_width w = leb 1 w && leb w MAX_WIDTH

natural_widths : list_all is_width NATURAL_WIDTHS ≡ true
natural_widths = refl

-- Tests that agree at each width find the same
find-same : (p q : ℕ → Bool) (ws : List ℕ) → list_all is_width ws ≡ true → ((w : ℕ) → IsWidth w → p w ≡ q w) → find p ws ≡ find q ws
find-same p q [] all h = refl
find-same p q (w ∷ ws) all h =
    let parts = and_both (is_width w) (list_all is_width ws) all in
    let range = and_both (leb 1 w) (leb w MAX_WIDTH) parts.0 in
    rw (h w (leb-true 1 w range.0, leb-true w MAX_WIDTH range.1), find-same p q ws parts.1 h) refl

-- The natural width of digits, by what is kept of them
pub natural_width-pattern : (p : Pattern) (ds : List Digit) → p ≡ pattern_of ds
    → natural_width (λ w. pattern_held p w) ≡ natural_width (λ w. is_held w ds)
natural_width-pattern p ds e =
    ap (λ (q : Pattern). natural_width (λ w. pattern_held q w)) e
    ∙ find-same (λ w. pattern_held (pattern_of ds) w) (λ w. is_held w ds) NATURAL_WIDTHS natural_widths
    (λ w range. sym (is_held-take w MAX_WIDTH ds range.1))

pub from_pattern : (o : Option (List Digit)) (p : Pattern) → Some p ≡ option_map pattern_of o
    → (ds : List Digit) × (o ≡ Some ds) × (p ≡ pattern_of ds)
from_pattern None p h = cc
from_pattern (Some ds) p h = (ds, refl, cc)

-- One letter, and underscores
mark_step : (c b : ℕ) (bs : List ℕ) (t : Bool) (all : Bool) → (t && all) ≡ false → (all ≡ false → lone_letter (c ∷ map question_as_z bs) ≡ None)
    → lone_letter (c ∷ map question_as_z (cond (not t) (b ∷ bs) bs)) ≡ None
mark_step c b bs true all h rest = rest h
mark_step c b bs false all h rest = refl

pub lone_letter-many : (c : ℕ) (bs : List ℕ) → list_all (λ b. eqb b 95) bs ≡ false → lone_letter (c ∷ characters bs) ≡ None
lone_letter-many c [] h = cc
lone_letter-many c (b ∷ bs) h =
    mark_step c b (filter (λ x. not (eqb x 95)) bs) (eqb b 95) (list_all (λ x. eqb x 95) bs) h (lone_letter-many c bs)

pub characters-none : (bs : List ℕ) → list_all (λ b. eqb b 95) bs ≡ true → characters bs ≡ []
characters-none [] h = refl
characters-none (b ∷ bs) h = let parts = and_both (eqb b 95) (list_all (λ x. eqb x 95) bs) h in rw parts.0 (characters-none bs parts.1)

pub lone_letter-x : (c : ℕ) → is_x_letter c ≡ true → lone_letter (c ∷ []) ≡ Some X
lone_letter-x c e = rw e refl

pub lone_letter-z : (c : ℕ) → is_x_letter c ≡ false → is_z_letter c ≡ true → lone_letter (c ∷ []) ≡ Some Z
lone_letter-z c e f = rw (e, f) refl

-- A literal with digits in front and something behind them
pub by_front-sized : (front rest : List ℕ) → (length front ≡ 0 → ⊥) → (length rest ≡ 0 → ⊥)
    → by_front front rest ≡ behind_size (after_white rest) (size_of_number (unsigned_number front))
by_front-sized [] rest h k = absurd (h refl)
by_front-sized (c ∷ cs) [] h k = absurd (k refl)
by_front-sized (c ∷ cs) (b ∷ bs) h k = refl

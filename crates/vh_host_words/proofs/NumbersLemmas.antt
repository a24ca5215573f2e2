-- Digits that are read as a number.
use Rattle.std.proofs.Common.{◌≡◌, ℕ, ◌<◌, ◌^◌, List, length, Bool, true, false, if◌then◌else◌, Some, None, Err, nat_lt, refl, sym, ap, ◌∙◌, arith}
use Rattle.std.specs.List.{list_all}
use Rattle.std.specs.Str.Parse.{ParsesUnsigned, digits_value}
use Rattle.std.proofs.lemmas.Bool.Decides.{nat_tests}
use Rattle.std.proofs.lemmas.Str.Parse.{IsDigitsTest, IsNumeralModel, numerals_by_value, parse_digits}
use Rattle.vh_host_words.specs.Words.{is_digit, is_numeral, below, number_named}

abbrev pub Digits : List ℕ → Type 0
Digits ds = list_all is_digit ds ≡ true

tells : IsDigitsTest Digits
tells = record {
  empty = refl;
  parts = λ c cs e. ((grind (arith, nat_tests, e), grind (arith, nat_tests, e)), grind (arith, e));
  more = λ c cs k e. grind (arith, nat_tests, k, e);
}

own : IsNumeralModel Digits (digits_value 10)
own = numerals_by_value Digits tells

below-none : (limit n : ℕ) → (n < limit → ⊥) → None ≡ below limit n
below-none limit n great = let b : nat_lt n limit ≡ false = grind (arith, nat_tests, great) in sym (ap (λ (b : Bool). if b then Some n else None) b)

-- What a numeral is, where it can't be read as a number below 2^64
pub not_named : {E : Type 0} (word : List ℕ) (e : E) → ParsesUnsigned 64 10 word (Err e) → is_numeral word ≡ true → None ≡ number_named word
not_named word e h is =
    let parts : (0 < length word) × Digits word = grind (arith, nat_tests, is) in
    let d = parse_digits own 64 word (Err e) h parts.1 in
    below-none (2 ^ 64) (digits_value 10 word) (λ small. d (parts.0, small))
    ∙ sym (ap (λ (b : Bool). if b then below (2 ^ 64) (digits_value 10 word) else None) is)

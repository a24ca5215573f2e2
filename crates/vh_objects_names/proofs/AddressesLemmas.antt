-- Addresses in brackets, and the words of a memory by their names.
use Rattle.std.proofs.Common.{bytes_eq, ◌≤◌, ◌+◌, ◌≡◌, ◌≢◌, ◌∙◌, ℕ, zero, suc, ◌<◌, ◌^◌, ◌++◌, List, [], ◌∷◌, length, drop, get_or, refl, if◌then◌else◌, ◌==◌, Bool, true, false, Option, Some, None, Err, MatchOption, sym, ap, subst, arith}
use Rattle.std.specs.Fmt.{decimal}
use Rattle.std.specs.Str.Parse.{AllDigits, IsNumeral, ParsesUnsigned, digits_value, without_leading_plus}
use Rattle.std.proofs.lemmas.Fmt.{decimal_is_IsNumeral, decimal_digit, decimal_injective, decimal_nonempty, first_decimal, parse-decimal, decimal-digits_value, IsAscii-decimal}
use Rattle.std.proofs.lemmas.List.{append_cancel_left, append_cancel_right}
use Rattle.std.proofs.lemmas.Bool.Decides.{nat_tests}
use Rattle.std.proofs.lemmas.Str.{IsUtf8-from_ascii}
use Rattle.std.proofs.lemmas.Str.Parse.{IsNumeralModel, digit_from_value}
use Rattle.std.specs.Str.{IsUtf8}
use Rattle.std.proofs.lemmas.Slice.Eq.{bytes_eq-Decides}
use Rattle.vh_objects_names.specs.Addresses.{is_canonical, IsNoNumber, IsNoWord}
use Rattle.vh_objects.specs.Properties.{at_address}
use Rattle.vh_objects_names.specs.Paths.{word_named}

digits-own : IsNumeralModel (AllDigits 10) (digits_value 10)
digits-own = record { to = λ ds d. d; from = λ ds d. d; same = λ ds d. refl }

zero-alone : (a c : ℕ) (cs : List ℕ) → a < 2 ^ 64 → c ∷ cs ≡ decimal a → c ≡ 48 → length cs ≡ 0
zero-alone zero c cs small same is = omega (arith, ap length (same ∙ decimal_digit 0 (omega arith)))
zero-alone (suc n) c cs small same is = absurd (omega (arith, is, subst (λ (l : List ℕ). 48 < get_or l 0 0) (sym same) (first_decimal (suc n) (omega arith) (omega arith))))

pub not-canonical : (digits : List ℕ) → is_canonical digits ≡ false → IsNoNumber digits
not-canonical [] e = λ a small same. omega (arith, ap length same, decimal_nonempty a (omega arith))
not-canonical (c ∷ cs) e = λ a small same.
    let digit = digit_from_value c (subst (AllDigits 10) (sym same) (decimal_is_IsNumeral a (omega arith)).0.1).0 in
    let alone = zero-alone a c cs small same in
    grind (arith, nat_tests, e, digit, alone)

pub no-text : (digits : List ℕ) → (IsUtf8 digits → ⊥) → IsNoNumber digits
no-text digits bad = λ a small same. bad (subst IsUtf8 (sym same) (IsUtf8-from_ascii (decimal a) (IsAscii-decimal a (omega arith))))

pub no-number : {E : Type 0} (digits : List ℕ) (e : E) → ParsesUnsigned 64 10 digits (Err e) → IsNoNumber digits
no-number digits e parses = λ a small same. absurd (let is = parse-decimal 64 a digits (Err e) small (omega arith) same parses in cc)

-- What the text of digits is read as.
abbrev pub Reads : List ℕ → ℕ → Type 0
Reads digits n = (IsNumeral 10 (without_leading_plus digits) × (digits_value 10 (without_leading_plus digits) < 2 ^ 64)) × (n ≡ digits_value 10 (without_leading_plus digits))

pub is-number : (digits : List ℕ) (n : ℕ) → is_canonical digits ≡ true → Reads digits n → (n < 2 ^ 64) × (digits ≡ decimal n)
is-number [] n e parses = absurd (cc)
is-number (c ∷ cs) n e parses =
    let plain : (c == 43) ≡ false = grind (arith, nat_tests, e) in
    let same : without_leading_plus (c ∷ cs) ≡ c ∷ cs = ap (λ (b : Bool). drop (if b then 1 else 0) (c ∷ cs)) plain in
    let numeral = subst (IsNumeral 10) same parses.0.0 in
    let value : n ≡ digits_value 10 (c ∷ cs) = parses.1 ∙ ap (digits_value 10) same in
    let lead : c ≡ 48 → length (c ∷ cs) ≡ 1 = λ is. grind (arith, nat_tests, e, is) in
    let small : digits_value 10 (c ∷ cs) < 2 ^ 64 = omega (arith, subst (λ (m : ℕ). m < 2 ^ 64) (ap (digits_value 10) same) parses.0.1) in (
      subst (λ (m : ℕ). m < 2 ^ 64) (sym parses.1) parses.0.1,
      sym (decimal-digits_value digits-own (c ∷ cs) numeral.1 (omega arith) lead small) ∙ ap decimal (sym value),
    )

same_digits : (name text behind inner digits : List ℕ) (a : ℕ) → text ≡ name ++ behind → behind ≡ 91 ∷ inner → inner ≡ digits ++ (93 ∷ [])
    → text ≡ at_address name a → digits ≡ decimal a
same_digits name text behind inner digits a one two three same =
    append_cancel_right digits (decimal a) (93 ∷ [])
    (sym three ∙ ap (drop 1) (sym two ∙ append_cancel_left name behind (91 ∷ (decimal a ++ (93 ∷ []))) (sym one ∙ same)))

pub word-of : (name text behind inner digits : List ℕ) (r : Option ℕ) → text ≡ name ++ behind → behind ≡ (91 ∷ []) ++ inner → inner ≡ digits ++ (93 ∷ [])
    → MatchOption r (IsNoNumber digits) (λ a. (a < 2 ^ 64) × (digits ≡ decimal a)) → MatchOption r (IsNoWord name text) (λ a. (a < 2 ^ 64) × (text ≡ at_address name a))
word-of name text behind inner digits (Some a) one two three is =
    (is.0, one ∙ ap (λ l. name ++ l) (two ∙ ap (λ l. 91 ∷ l) (three ∙ ap (λ l. l ++ (93 ∷ [])) is.1)))
word-of name text behind inner digits None one two three bad =
    λ a small same. bad a small (same_digits name text behind inner digits a one two three same)

-- What has no bracket behind the name is no word's name,
pub no-front : (name text : List ℕ) → ((rest : List ℕ) → text ≢ name ++ rest) → IsNoWord name text
no-front name text bad = λ a small same. bad _ same

pub no-open : (name text behind : List ℕ) → text ≡ name ++ behind → ((rest : List ℕ) → behind ≢ (91 ∷ []) ++ rest) → IsNoWord name text
no-open name text behind one bad = λ a small same. bad (decimal a ++ (93 ∷ []))
    (append_cancel_left name behind (91 ∷ (decimal a ++ (93 ∷ []))) (sym one ∙ same))

pub no-close : (name text behind inner : List ℕ) → text ≡ name ++ behind → behind ≡ (91 ∷ []) ++ inner
    → ((front : List ℕ) → inner ≢ front ++ (93 ∷ [])) → IsNoWord name text
no-close name text behind inner one two bad = λ a small same. bad (decimal a)
    (ap (drop 1) (sym two ∙ append_cancel_left name behind (91 ∷ (decimal a ++ (93 ∷ []))) (sym one ∙ same)))

-- No two words of a memory have one name.
same_address : (name : List ℕ) (a b : ℕ) → a < 2 ^ 64 → b < 2 ^ 64 → at_address name a ≡ at_address name b → a ≡ b
same_address name a b low high same =
    decimal_injective a b low high
    (append_cancel_right (decimal a) (decimal b) (93 ∷ [])
    (ap (drop 1) (append_cancel_left name (91 ∷ (decimal a ++ (93 ∷ []))) (91 ∷ (decimal b ++ (93 ∷ []))) same)))

-- The word of a name is found where the memory has it,
found-first : (text name : List ℕ) (a first count : ℕ) → text ≡ at_address name a → first < 2 ^ 64 → a < 2 ^ 64
    → ((first ≡ a → ⊥) → word_named text name (first + 1) count ≡ Some a) → (b : Bool) → bytes_eq text (at_address name first) ≡ b
    → word_named text name first (suc count) ≡ Some a
found-first text name a first count is low high next true e =
    rw e (ap (λ (x : ℕ). Some x) (same_address name first a low high (sym ((bytes_eq-Decides text (at_address name first)).0 e) ∙ is)))
found-first text name a first count is low high next false e =
    rw e (next (λ same. absurd (let yes = (bytes_eq-Decides text (at_address name first)).1 (is ∙ ap (at_address name) (sym same)) in cc)))

pub word-found : (text name : List ℕ) (a first count : ℕ) → text ≡ at_address name a → first + count ≤ 2 ^ 64 → first ≤ a → a < first + count
    → word_named text name first count ≡ Some a
word-found text name a first zero is fits low high = absurd (omega (arith, low, high))
word-found text name a first (suc count) is fits low high =
    found-first text name a first count is (omega (arith, fits)) (omega (arith, fits, high))
    (λ apart. word-found text name a (first + 1) count is (omega (arith, fits)) (omega (arith, low, apart)) (omega (arith, high)))
    (bytes_eq text (at_address name first)) refl

-- And no other.
lost-first : (text name : List ℕ) (first count : ℕ) → text ≢ at_address name first → word_named text name (first + 1) count ≡ None
    → (b : Bool) → bytes_eq text (at_address name first) ≡ b → word_named text name first (suc count) ≡ None
lost-first text name first count apart next true e = absurd (apart ((bytes_eq-Decides text (at_address name first)).0 e))
lost-first text name first count apart next false e = rw e next

pub word-lost : (text name : List ℕ) (first count : ℕ) → ((b : ℕ) → first ≤ b → b < first + count → text ≢ at_address name b)
    → word_named text name first count ≡ None
word-lost text name first zero none = refl
word-lost text name first (suc count) none =
    lost-first text name first count (none first (omega arith) (omega arith))
    (word-lost text name (first + 1) count (λ b low high. none b (omega (arith, low)) (omega (arith, high))))
    (bytes_eq text (at_address name first)) refl

pub other-word : (text name : List ℕ) (a first count : ℕ) → text ≡ at_address name a → a < 2 ^ 64 → first + count ≤ 2 ^ 64
    → (first ≤ a → a < first + count → ⊥) → word_named text name first count ≡ None
other-word text name a first count is small fits outside =
    word-lost text name first count (λ b low high same.
    let one = same_address name a b small (omega (arith, fits, high)) (sym is ∙ same) in
    outside (omega (arith, one, low)) (omega (arith, one, high)))

-- A number is the longest one.
use Rattle.std.proofs.Common.{◌≡◌, ℕ, suc, ◌+◌, ◌-◌, ◌≤◌, ◌⊎◌, inl, inr, Bool, true, false, ◌&&◌, ◌||◌, List, [], ◌∷◌, ◌++◌, Result, Ok, Err, length, take, drop, nat_eq, nat_lt, if◌then◌else◌, refl, ap, sym, ◌∙◌, length-drop, drop-drop, arith}
use Rattle.std.specs.List.{prefix_len}
use Rattle.std.proofs.lemmas.Bool.Decides.{nat_tests}
use Rattle.vh_base.specs.Classes.{is_space, is_digit}
use Rattle.vh_base.specs.declared.faults.DesignFault.TheVariants.{L1, L4}
use Rattle.vh_logic.specs.Vector.{Vector}
use Rattle.vh_text.specs.declared.literal.LiteralFault.{LiteralFault}
use Rattle.vh_text.specs.Literals.{literal}
use Rattle.vh_lex.specs.declared.piece.Part.{Part}
use Rattle.vh_lex.specs.declared.piece.Piece.{Piece}
use Rattle.vh_lex.specs.declared.piece.Piece.TheVariants.{Kept, Fault}
use Rattle.vh_lex.specs.Bytes.{begins, is_decimal, is_based_letter, is_question, is_based, is_base_ten, is_base, is_sign_byte, is_exponent, is_plus_or_minus}
use Rattle.vh_lex.specs.Numbers.{begins_fraction, begins_exponent, begins_real, base_len_behind, base_len, digits_len, spaced_digits_len, based_len_by, based_len, valued, number_of, number_by, behind_digits, number_at}
use Rattle.vh_lex.proofs.BytesLemmas.{take-beginning, drop-beginning, run-same, run-whole, run-inside, drop-all, begins-beginning, begins-same, or-more, not-beginning}
use Rattle.vh_lex.proofs.LongLemmas.{Len, len-is}

drop-more : (n m : ℕ) (xs : List ℕ) → drop m (drop n xs) ≡ drop (n + m) xs
drop-more n m xs = drop-drop m n xs

-- A fraction or an exponent
second-beginning : (p : ℕ → Bool) (xs ys : List ℕ) → begins p (drop 1 xs) ≡ true → begins p (drop 1 (xs ++ ys)) ≡ true
second-beginning p [] ys e = cc
second-beginning p (x ∷ xs) ys e = begins-beginning p xs ys e

third-beginning : (p : ℕ → Bool) (xs ys : List ℕ) → begins p (drop 2 xs) ≡ true → begins p (drop 2 (xs ++ ys)) ≡ true
third-beginning p [] ys e = cc
third-beginning p (x ∷ xs) ys e = second-beginning p xs ys e

both-beginning : (a b c d : Bool) → (a ≡ true → c ≡ true) → (b ≡ true → d ≡ true) → (a && b) ≡ true → (c && d) ≡ true
both-beginning true b true d h k e = k e
both-beginning true b false d h k e = h refl
both-beginning false b c d h k e = cc

real-beginning : (xs ys : List ℕ) → begins_real xs ≡ true → begins_real (xs ++ ys) ≡ true
real-beginning xs ys e =
    or-more (begins_fraction xs) (begins_exponent xs) (begins_fraction (xs ++ ys)) (begins_exponent (xs ++ ys))
    (both-beginning (begins (λ b. nat_eq b 46) xs) (begins is_digit (drop 1 xs)) (begins (λ b. nat_eq b 46) (xs ++ ys)) (begins is_digit (drop 1 (xs ++ ys)))
    (begins-beginning (λ b. nat_eq b 46) xs ys) (second-beginning is_digit xs ys))
    (both-beginning (begins is_exponent xs) (begins is_digit (drop 1 xs) || begins is_plus_or_minus (drop 1 xs) && begins is_digit (drop 2 xs))
    (begins is_exponent (xs ++ ys)) (begins is_digit (drop 1 (xs ++ ys)) || begins is_plus_or_minus (drop 1 (xs ++ ys)) && begins is_digit (drop 2 (xs ++ ys)))
    (begins-beginning is_exponent xs ys)
    (or-more (begins is_digit (drop 1 xs)) (begins is_plus_or_minus (drop 1 xs) && begins is_digit (drop 2 xs))
    (begins is_digit (drop 1 (xs ++ ys))) (begins is_plus_or_minus (drop 1 (xs ++ ys)) && begins is_digit (drop 2 (xs ++ ys)))
    (second-beginning is_digit xs ys)
    (both-beginning (begins is_plus_or_minus (drop 1 xs)) (begins is_digit (drop 2 xs)) (begins is_plus_or_minus (drop 1 (xs ++ ys))) (begins is_digit (drop 2 (xs ++ ys)))
    (second-beginning is_plus_or_minus xs ys) (third-beginning is_digit xs ys))))
    e

-- A base
abbrev three : Bool → ℕ
three t = if t then 3 else 0

abbrev two-or : Bool → ℕ → ℕ
two-or t n = if t then 2 else n

sign-same : (xs ys : List ℕ) → three (begins is_base (xs ++ ys)) ≤ length xs + 2 → three (begins is_base xs) ≡ three (begins is_base (xs ++ ys))
sign-same [] ys h = by (begins is_base ys) h
  where
    by : (t : Bool) → three t ≤ length {A = ℕ} [] + 2 → three false ≡ three t
    by true h = absurd (omega arith)
    by false h = refl
sign-same (x ∷ xs) ys h = refl

behind-same : (xs ys : List ℕ) → base_len_behind (xs ++ ys) ≤ length xs + 1 → base_len_behind xs ≡ base_len_behind (xs ++ ys)
behind-same [] ys h = by (begins is_base ys) (begins is_sign_byte ys && begins is_base (drop 1 ys)) h
  where
    by : (t u : Bool) → two-or t (three u) ≤ length {A = ℕ} [] + 1 → three false ≡ two-or t (three u)
    by true u h = absurd (omega arith)
    by false true h = absurd (omega arith)
    by false false h = refl
behind-same (x ∷ xs) ys h = by (is_base x) (is_sign_byte x) h
  where
    by : (t u : Bool) → two-or t (three (u && begins is_base (xs ++ ys))) ≤ suc (length xs) + 1
        → two-or t (three (u && begins is_base xs)) ≡ two-or t (three (u && begins is_base (xs ++ ys)))
    by true u h = refl
    by false true h = sign-same xs ys (omega arith)
    by false false h = refl

base-same : (xs ys : List ℕ) → base_len (xs ++ ys) ≤ length xs → base_len xs ≡ base_len (xs ++ ys)
base-same [] ys h = omega arith
base-same (x ∷ xs) ys h = by (nat_eq x 39) h
  where
    by : (t : Bool) → (if t then base_len_behind (xs ++ ys) else 0) ≤ suc (length xs) → (if t then base_len_behind xs else 0) ≡ (if t then base_len_behind (xs ++ ys) else 0)
    by true h = behind-same xs ys (omega arith)
    by false h = refl

-- The digits behind a base
digits-same : (t : Bool) (xs ys : List ℕ) → digits_len t (xs ++ ys) ≤ length xs → digits_len t xs ≡ digits_len t (xs ++ ys)
digits-same false xs ys h = run-same is_based xs ys h
digits-same true [] ys h = omega arith
digits-same true (x ∷ xs) ys h = by (is_question x) h (run-same is_based_letter (x ∷ xs) ys)
  where
    by : (t : Bool) → (if t then 1 + prefix_len is_based_letter (xs ++ ys) else prefix_len is_based_letter (x ∷ (xs ++ ys))) ≤ suc (length xs)
        → (prefix_len is_based_letter (x ∷ (xs ++ ys)) ≤ suc (length xs) → prefix_len is_based_letter (x ∷ xs) ≡ prefix_len is_based_letter (x ∷ (xs ++ ys)))
        → (if t then 1 + prefix_len is_based_letter xs else prefix_len is_based_letter (x ∷ xs)) ≡ (if t then 1 + prefix_len is_based_letter (xs ++ ys) else prefix_len is_based_letter (x ∷ (xs ++ ys)))
    by true h k = ap (λ n. 1 + n) (run-same is_based_letter xs ys (omega arith))
    by false h k = k h

spaced-same : (t : Bool) (xs ys : List ℕ) → spaced_digits_len t (xs ++ ys) ≤ length xs → spaced_digits_len t xs ≡ spaced_digits_len t (xs ++ ys)
spaced-same t xs ys h =
    let n = prefix_len is_space (xs ++ ys) in
    let small : n ≤ length xs = omega arith in
    let cut = drop-beginning n xs ys small in
    let size = length-drop n xs in
    let inner : digits_len t (drop n xs ++ ys) ≤ length (drop n xs) = let same = ap (digits_len t) cut in omega arith in
    ap (λ m. m + digits_len t (drop m xs)) (run-same is_space xs ys small)
    ∙ ap (λ m. n + m) (digits-same t (drop n xs) ys inner ∙ ap (digits_len t) (sym cut))

more-than : (n : ℕ) → nat_eq n 0 ≡ false → 1 ≤ n
more-than n e = grind (arith, nat_tests)

based-same : (xs ys : List ℕ) → based_len (xs ++ ys) ≤ length xs → 1 ≤ based_len (xs ++ ys) → based_len xs ≡ based_len (xs ++ ys)
based-same xs ys h k = by (nat_eq (base_len (xs ++ ys)) 0) refl h k
  where
    by : (t : Bool) → nat_eq (base_len (xs ++ ys)) 0 ≡ t
        → (if t then 0 else base_len (xs ++ ys) + spaced_digits_len (begins is_base_ten (drop (base_len (xs ++ ys) - 1) (xs ++ ys))) (drop (base_len (xs ++ ys)) (xs ++ ys))) ≤ length xs
        → 1 ≤ (if t then 0 else base_len (xs ++ ys) + spaced_digits_len (begins is_base_ten (drop (base_len (xs ++ ys) - 1) (xs ++ ys))) (drop (base_len (xs ++ ys)) (xs ++ ys)))
        → based_len xs ≡ (if t then 0 else base_len (xs ++ ys) + spaced_digits_len (begins is_base_ten (drop (base_len (xs ++ ys) - 1) (xs ++ ys))) (drop (base_len (xs ++ ys)) (xs ++ ys)))
    by true e h k = absurd (omega arith)
    by false e h k =
        let n = base_len (xs ++ ys) in
        let some : 1 ≤ n = more-than n e in
        let small : n ≤ length xs = omega arith in
        let letter = drop-beginning (n - 1) xs ys (omega arith) in
        let cut = drop-beginning n xs ys small in
        let size = length-drop n xs in
        let before = length-drop (n - 1) xs in
        let ten : begins is_base_ten (drop (n - 1) (xs ++ ys)) ≡ begins is_base_ten (drop (n - 1) xs) = ap (begins is_base_ten) letter ∙ begins-same is_base_ten (drop (n - 1) xs) ys (omega arith) in
        let rest : spaced_digits_len (begins is_base_ten (drop (n - 1) (xs ++ ys))) (drop n (xs ++ ys)) ≡ spaced_digits_len (begins is_base_ten (drop (n - 1) xs)) (drop n xs ++ ys) =
        ap (λ t. spaced_digits_len t (drop n (xs ++ ys))) ten ∙ ap (spaced_digits_len (begins is_base_ten (drop (n - 1) xs))) cut in
        ap (λ m. based_len_by m xs) (base-same xs ys small)
        ∙ ap (λ t. if t then 0 else n + spaced_digits_len (begins is_base_ten (drop (n - 1) xs)) (drop n xs)) e
        ∙ ap (λ m. n + m) (spaced-same (begins is_base_ten (drop (n - 1) xs)) (drop n xs) ys (omega arith) ∙ sym rest)

none-based : (xs ys : List ℕ) → based_len (xs ++ ys) ≡ 0 → based_len xs ≡ 0
none-based xs ys h = by (nat_eq (base_len (xs ++ ys)) 0) refl h
  where
    by : (t : Bool) → nat_eq (base_len (xs ++ ys)) 0 ≡ t
        → (if t then 0 else base_len (xs ++ ys) + spaced_digits_len (begins is_base_ten (drop (base_len (xs ++ ys) - 1) (xs ++ ys))) (drop (base_len (xs ++ ys)) (xs ++ ys))) ≡ 0 → based_len xs ≡ 0
    by true e h =
        let nothing : base_len (xs ++ ys) ≡ 0 = grind (arith, nat_tests) in
        ap (λ m. based_len_by m xs) (base-same xs ys (omega arith) ∙ nothing)
    by false e h = let some = more-than (base_len (xs ++ ys)) e in absurd (omega arith)

-- No base behind the white space, wherever it ends
no-base : (xs ys : List ℕ) → based_len (drop (prefix_len is_space (xs ++ ys)) (xs ++ ys)) ≡ 0 → based_len (drop (prefix_len is_space xs) xs) ≡ 0
no-base xs ys h = by (run-whole is_space xs ys)
  where
    by : (prefix_len is_space xs ≡ prefix_len is_space (xs ++ ys)) ⊎ (prefix_len is_space xs ≡ length xs) → based_len (drop (prefix_len is_space xs) xs) ≡ 0
    by (inl e) =
        none-based (drop (prefix_len is_space xs) xs) ys
        (ap based_len (sym (drop-beginning (prefix_len is_space xs) xs ys (run-inside is_space xs))) ∙ ap (λ n. based_len (drop n (xs ++ ys))) e ∙ h)
    by (inr e) = ap (λ n. based_len (drop n xs)) e ∙ ap based_len (drop-all xs)

valued-len : (o : Result Vector LiteralFault) (sized : Bool) (n : ℕ) → Len n (valued o sized n)
valued-len (Ok v) sized n = refl
valued-len (Err f) sized n = tt

not-less : (n : ℕ) → nat_lt 0 n ≡ false → n ≡ 0
not-less n e = grind (arith, nat_tests)

less : (n : ℕ) → nat_lt 0 n ≡ true → 1 ≤ n
less n e = grind (arith, nat_tests)

-- By what stands behind the digits
number-case : (xs ys : List ℕ) (p : Part) (len digits spaces based : ℕ) → prefix_len is_decimal (xs ++ ys) ≡ digits → prefix_len is_space (drop digits (xs ++ ys)) ≡ spaces
    → based_len (drop (digits + spaces) (xs ++ ys)) ≡ based → len ≤ length xs → (t : Bool) → begins_real (drop digits (xs ++ ys)) ≡ t → (u : Bool) → nat_lt 0 based ≡ u → (v : Bool) → nat_lt 0 digits ≡ v
    → (if t then Fault L4 0 else (if u then number_of (xs ++ ys) (nat_lt 0 digits) (digits + spaces + based) else (if v then number_of (xs ++ ys) false digits else Fault L1 0))) ≡ Kept p len
    → number_at xs ≡ Kept p len
number-case xs ys p len digits spaces based d s b h true r u f v g e = cc
number-case xs ys p len digits spaces based d s b h false r true f v g e =
    let size : digits + spaces + based ≡ len =
    len-is (digits + spaces + based) (number_of (xs ++ ys) (nat_lt 0 digits) (digits + spaces + based)) p len
    (valued-len (literal (take (digits + spaces + based) (xs ++ ys))) (nat_lt 0 digits) (digits + spaces + based)) e in
    let cut = drop-beginning digits xs ys (omega arith) in
    let far = drop-beginning (digits + spaces) xs ys (omega arith) in
    let behind = length-drop digits xs in
    let far_behind = length-drop (digits + spaces) xs in
    let some = less based f in
    let same_spaces : prefix_len is_space (drop digits xs ++ ys) ≡ spaces = ap (prefix_len is_space) (sym cut) ∙ s in
    let same_base : based_len (drop (digits + spaces) xs ++ ys) ≡ based = ap based_len (sym far) ∙ b in
    let last : Piece = if nat_lt 0 digits then number_of xs false digits else Fault L1 0 in
    let inner : Piece = if nat_lt 0 based then number_of xs (nat_lt 0 digits) (digits + spaces + based) else last in
    ap (λ n. behind_digits xs n (prefix_len is_space (drop n xs))) (run-same is_decimal xs ys (omega arith) ∙ d)
    ∙ ap (λ n. behind_digits xs digits n) (run-same is_space (drop digits xs) ys (omega arith) ∙ same_spaces)
    ∙ ap (λ n. number_by xs digits spaces n) (based-same (drop (digits + spaces) xs) ys (omega arith) (omega arith) ∙ same_base)
    ∙ ap (λ t. if t then Fault L4 0 else inner)
    (not-beginning (begins_real (drop digits xs)) (begins_real (drop digits xs ++ ys)) (real-beginning (drop digits xs) ys) (ap begins_real (sym cut) ∙ r))
    ∙ ap (λ u. if u then number_of xs (nat_lt 0 digits) (digits + spaces + based) else last) f
    ∙ ap (λ w. valued (literal w) (nat_lt 0 digits) (digits + spaces + based)) (sym (take-beginning (digits + spaces + based) xs ys (omega arith)))
    ∙ e
number-case xs ys p len digits spaces based d s b h false r false f true g e =
    let size : digits ≡ len = len-is digits (number_of (xs ++ ys) false digits) p len (valued-len (literal (take digits (xs ++ ys))) false digits) e in
    let cut = drop-beginning digits xs ys (omega arith) in
    let nothing = not-less based f in
    let here = prefix_len is_space (drop digits xs) in
    let whole : based_len (drop (prefix_len is_space (drop digits xs ++ ys)) (drop digits xs ++ ys)) ≡ 0 =
    ap (λ w. based_len (drop (prefix_len is_space w) w)) (sym cut) ∙ ap (λ n. based_len (drop n (drop digits (xs ++ ys)))) s
    ∙ ap based_len (drop-more digits spaces (xs ++ ys)) ∙ b ∙ nothing in
    let none : based_len (drop (digits + here) xs) ≡ 0 = ap based_len (sym (drop-more digits here xs)) ∙ no-base (drop digits xs) ys whole in
    let last : Piece = if nat_lt 0 digits then number_of xs false digits else Fault L1 0 in
    let inner : Piece = if nat_lt 0 0 then number_of xs (nat_lt 0 digits) (digits + here + 0) else last in
    ap (λ n. behind_digits xs n (prefix_len is_space (drop n xs))) (run-same is_decimal xs ys (omega arith) ∙ d)
    ∙ ap (λ n. number_by xs digits here n) none
    ∙ ap (λ t. if t then Fault L4 0 else inner)
    (not-beginning (begins_real (drop digits xs)) (begins_real (drop digits xs ++ ys)) (real-beginning (drop digits xs) ys) (ap begins_real (sym cut) ∙ r))
    ∙ ap (λ v. if v then number_of xs false digits else Fault L1 0) g
    ∙ ap (λ w. valued (literal w) false digits) (sym (take-beginning digits xs ys (omega arith))) ∙ e
number-case xs ys p len digits spaces based d s b h false r false f false g e = cc

pub number-kept : (xs ys : List ℕ) (p : Part) (len : ℕ) → number_at (xs ++ ys) ≡ Kept p len → len ≤ length xs → number_at xs ≡ Kept p len
number-kept xs ys p len e h =
    number-case xs ys p len _ _ _ refl refl refl h (begins_real (drop (prefix_len is_decimal (xs ++ ys)) (xs ++ ys))) refl
    (nat_lt 0 (based_len (drop (prefix_len is_decimal (xs ++ ys) + prefix_len is_space (drop (prefix_len is_decimal (xs ++ ys)) (xs ++ ys))) (xs ++ ys)))) refl
    (nat_lt 0 (prefix_len is_decimal (xs ++ ys))) refl e

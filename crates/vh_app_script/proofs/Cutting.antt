-- Cutting bytes into tokens, from any place on.
use Rattle.std.proofs.Common.{◌≡◌, ℕ, zero, suc, ◌+◌, ◌-◌, ◌<◌, ◌≤◌, List, [], ◌∷◌, ◌++◌, Option, Some, None, Bool, true, false, if◌then◌else◌, length, drop, nat_eq, refl, ap, sym, ◌∙◌, subst, append_assoc, arith}
use Rattle.std.specs.List.{prefix_len}
use Rattle.std.specs.Option.{option_map}
use Rattle.std.proofs.lemmas.Bool.Decides.{nat_tests}
use Rattle.std.proofs.lemmas.List.Sums.{prefix_len-le-length}
use Rattle.vh_base.specs.Classes.{is_between, is_space, is_name_start, is_digit}
use Rattle.vh_app_script.specs.Token.{Terminal, wrong, Token}
use Rattle.vh_app_script.specs.Spelling.{Piece, blank, token, no_token, piece_at, piece_then, token_with, further, tokens_after, tokens_of, is_name_byte, is_comment_byte, is_escaped, one_longer, text_len, text_of, symbol_at, other_at, number_of, begins_with}

-- So many bytes more, if there is an end
abbrev pub further_by : ℕ → Option ℕ → Option ℕ
further_by n o = option_map (λ len. n + len) o

-- Skipping bytes is cutting what follows them
skipped : (skip : ℕ) (bytes : List ℕ) → tokens_after skip bytes ≡ tokens_of (drop skip bytes)
skipped zero [] = refl
skipped (suc skip) [] = refl
skipped zero (byte ∷ bytes) = refl
skipped (suc skip) (byte ∷ bytes) = skipped skip bytes

-- A piece is no longer than this, and has a byte at least
abbrev IsWithin : Piece → ℕ → Type 0
IsWithin (blank len) most = (1 ≤ len) × (len ≤ most)
IsWithin (token t len) most = (1 ≤ len) × (len ≤ most)
IsWithin no_token most = Unit {0}

within-if : (b : Bool) (p q : Piece) (most : ℕ) → (b ≡ true → IsWithin p most) → (b ≡ false → IsWithin q most) → IsWithin (if b then p else q) most
within-if true p q most first_holds second_holds = first_holds refl
within-if false p q most first_holds second_holds = second_holds refl

prefix-some : (p : ℕ → Bool) (byte : ℕ) (bytes : List ℕ) → p byte ≡ true → 1 ≤ prefix_len p (byte ∷ bytes)
prefix-some p byte bytes h = rw h (omega arith)

name-byte : (byte : ℕ) → is_name_start byte ≡ true → is_name_byte byte ≡ true
name-byte byte h = rw h refl

hash-byte : (byte : ℕ) → nat_eq byte 35 ≡ true → is_comment_byte byte ≡ true
hash-byte byte h = grind (arith, nat_tests)

-- A text ends within its bytes
one-more-below : (o : Option ℕ) (len most : ℕ) → ((n : ℕ) → o ≡ Some n → n < most) → one_longer o ≡ Some len → len < suc most
one-more-below None len most h e = cc
one-more-below (Some n) len most h e = let below = h n refl in let same : n + 1 ≡ len = cc in omega (arith, below, same)

some-if : (b : Bool) (o p : Option ℕ) (len most : ℕ) → (o ≡ Some len → len < most) → (p ≡ Some len → len < most) → (if b then o else p) ≡ Some len → len < most
some-if true o p len most first second e = first e
some-if false o p len most first second e = second e

text-below : (escaped : Bool) (bytes : List ℕ) (len : ℕ) → text_len escaped bytes ≡ Some len → len < length bytes
text-below true [] len e = cc
text-below false [] len e = cc
text-below true (byte ∷ bytes) len e =
    some-if (is_escaped byte) _ _ len _ (one-more-below (text_len false bytes) len (length bytes) (text-below false bytes)) (λ n. cc) e
text-below false (byte ∷ bytes) len e =
    some-if (nat_eq byte 34) _ _ len _ (λ h. let same : 0 ≡ len = cc in omega (arith, same))
    (some-if (nat_eq byte 92) _ _ len _ (one-more-below (text_len true bytes) len (length bytes) (text-below true bytes))
    (some-if (is_between 32 126 byte) _ _ len _ (one-more-below (text_len false bytes) len (length bytes) (text-below false bytes)) (λ n. cc))) e

within-text : (o : Option ℕ) (bytes : List ℕ) (most : ℕ) → ((n : ℕ) → o ≡ Some n → n < length bytes) → most ≡ suc (length bytes) → IsWithin (text_of o bytes) most
within-text (Some n) bytes most h e = let below = h n refl in (omega arith, omega (arith, below, e))
within-text None bytes most h e = tt

within-number : (o : Option ℕ) (len most : ℕ) → 1 ≤ len → len ≤ most → IsWithin (number_of o len) most
within-number (Some n) len most l h = (l, h)
within-number None len most l h = tt

within-two : (byte : ℕ) (bytes : List ℕ) (p q : Piece) → IsWithin q (suc (length bytes)) → (1 ≤ length bytes → IsWithin p (suc (length bytes))) → IsWithin (if begins_with byte bytes then p else q) (suc (length bytes))
within-two byte [] p q h i = h
within-two byte (b ∷ bytes) p q h i = within-if (nat_eq b byte) p q _ (λ _. i (omega arith)) (λ _. h)

within-symbol : (byte : ℕ) (bytes : List ℕ) → IsWithin (symbol_at byte bytes) (suc (length bytes))
unfolding symbol_at
within-symbol byte bytes =
    within-if (nat_eq byte 44) _ _ _ (λ _. (omega arith, omega arith)) (λ _.
    within-if (nat_eq byte 59) _ _ _ (λ _. (omega arith, omega arith)) (λ _.
    within-if (nat_eq byte 61) _ _ _ (λ _. within-two 61 bytes _ _ (omega arith, omega arith) (λ l. (omega arith, omega (arith, l)))) (λ _.
    within-if (nat_eq byte 33) _ _ _ (λ _. within-two 61 bytes _ _ tt (λ l. (omega arith, omega (arith, l)))) (λ _.
    within-if (nat_eq byte 43) _ _ _ (λ _. (omega arith, omega arith)) (λ _.
    within-if (nat_eq byte 40) _ _ _ (λ _. (omega arith, omega arith)) (λ _.
    within-if (nat_eq byte 41) _ _ _ (λ _. (omega arith, omega arith)) (λ _.
    within-if (nat_eq byte 123) _ _ _ (λ _. (omega arith, omega arith)) (λ _.
    within-if (nat_eq byte 125) _ _ _ (λ _. (omega arith, omega arith)) (λ _. tt)))))))))

within-other : (byte : ℕ) (bytes : List ℕ) → IsWithin (other_at byte bytes) (suc (length bytes))
unfolding other_at
within-other byte bytes =
    within-if (nat_eq byte 34) _ _ _ (λ _. within-text (text_len false bytes) bytes _ (text-below false bytes) refl) (λ _. within-symbol byte bytes)

piece-within : (bytes : List ℕ) → IsWithin (piece_at bytes) (length bytes)
piece-within [] = tt
piece-within (byte ∷ bytes) =
    within-if (is_space byte) _ _ _ (λ _. (omega arith, omega arith)) (λ _.
    within-if (nat_eq byte 35) _ _ _ (λ h. (prefix-some is_comment_byte byte bytes (hash-byte byte h), prefix_len-le-length is_comment_byte (byte ∷ bytes))) (λ _.
    within-if (is_name_start byte) _ _ _ (λ h. (prefix-some is_name_byte byte bytes (name-byte byte h), prefix_len-le-length is_name_byte (byte ∷ bytes))) (λ _.
    within-if (is_digit byte) _ _ _ (λ h. within-number _ _ _ (prefix-some is_digit byte bytes h) (prefix_len-le-length is_digit (byte ∷ bytes))) (λ _.
    within-other byte bytes))))

after-first : (len : ℕ) (byte : ℕ) (more : List ℕ) → 1 ≤ len → tokens_of (drop (len - 1) more) ≡ tokens_of (drop len (byte ∷ more))
after-first len byte more low = let e : len ≡ suc (len - 1) = omega arith in ap (λ n. tokens_of (drop n (byte ∷ more))) (sym e)

-- A token more is cut off
pub token-more : (found : List Token) (t : Terminal) (len left : ℕ) (bytes rest : List ℕ) → token t len ≡ piece_at rest → left ≡ length rest → tokens_of bytes ≡ found ++ tokens_of rest
    → tokens_of bytes ≡ (found ++ token_with t left ∷ []) ++ tokens_of (drop len rest)
token-more found t len left bytes [] e l h = cc
token-more found t len left bytes (byte ∷ more) e l h =
    let within = subst (λ p. IsWithin p (length (byte ∷ more))) (sym e) (piece-within (byte ∷ more)) in
    h ∙ ap (λ ts. found ++ ts)
    (ap (λ p. piece_then p (suc (length more)) (tokens_after (further p) more)) (sym e)
    ∙ ap (λ n. token_with t n ∷ tokens_after (len - 1) more) (sym l)
    ∙ ap (λ ts. token_with t left ∷ ts) (skipped (len - 1) more ∙ after-first len byte more within.0))
    ∙ sym (append_assoc found (token_with t left ∷ []) (tokens_of (drop len (byte ∷ more))))

-- No token more
pub no-more : (found : List Token) (left : ℕ) (bytes rest : List ℕ) → 1 ≤ length rest → no_token ≡ piece_at rest → left ≡ length rest → tokens_of bytes ≡ found ++ tokens_of rest
    → found ++ token_with wrong left ∷ [] ≡ tokens_of bytes
no-more found left bytes [] low e l h = absurd (omega arith)
no-more found left bytes (byte ∷ more) low e l h =
    sym (h ∙ ap (λ ts. found ++ ts) (ap (λ p. piece_then p (suc (length more)) (tokens_after (further p) more)) (sym e) ∙ ap (λ n. token_with wrong n ∷ []) (sym l)))

-- White space or a comment is cut off
pub blank-more : (found : List Token) (len : ℕ) (bytes rest : List ℕ) → blank len ≡ piece_at rest → tokens_of bytes ≡ found ++ tokens_of rest
    → tokens_of bytes ≡ found ++ tokens_of (drop len rest)
blank-more found len bytes [] e h = cc
blank-more found len bytes (byte ∷ more) e h =
    let within = subst (λ p. IsWithin p (length (byte ∷ more))) (sym e) (piece-within (byte ∷ more)) in
    h ∙ ap (λ ts. found ++ ts)
    (ap (λ p. piece_then p (suc (length more)) (tokens_after (further p) more)) (sym e) ∙ skipped (len - 1) more ∙ after-first len byte more within.0)

-- How long a token is, and white space
pub token-long : (t : Terminal) (len : ℕ) (rest : List ℕ) → token t len ≡ piece_at rest → (1 ≤ len) × (len ≤ length rest)
token-long t len rest e = subst (λ p. IsWithin p (length rest)) (sym e) (piece-within rest)

pub blank-long : (len : ℕ) (rest : List ℕ) → blank len ≡ piece_at rest → (1 ≤ len) × (len ≤ length rest)
blank-long len rest e = subst (λ p. IsWithin p (length rest)) (sym e) (piece-within rest)

pub shorter : (a b len : ℕ) → (1 ≤ len) × (len ≤ b) → a + len ≡ b → a < b
shorter a b len h e = omega arith

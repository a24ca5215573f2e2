-- Any token is the longest one.
use Rattle.std.proofs.Common.{◌≡◌, ℕ, suc, ◌≤◌, Bool, true, false, ◌&&◌, ◌||◌, not, List, [], ◌∷◌, ◌++◌, length, drop, nat_eq, if◌then◌else◌, ap, sym, subst, ◌∙◌, arith}
use Rattle.std.specs.List.{prefix_len}
use Rattle.vh_base.specs.Classes.{is_space, is_name_start, is_digit}
use Rattle.vh_lex.specs.declared.piece.Part.{Part}
use Rattle.vh_lex.specs.declared.piece.Piece.{Piece}
use Rattle.vh_lex.specs.declared.piece.Piece.TheVariants.{Blank, Kept}
use Rattle.vh_lex.specs.Bytes.{begins, begins_with, through}
use Rattle.vh_lex.specs.Numbers.{number_at}
use Rattle.vh_lex.specs.Texts.{text_at}
use Rattle.vh_lex.specs.Beginning.{comment_len, name_of, word_at, system_at, escaped_by, use_by, symbol_piece, slash_piece, attribute_of, bracket_at, symbolic, beginning}
use Rattle.vh_lex.specs.TextLaws.{Longest}
use Rattle.vh_lex.proofs.BeginningLemmas.{IsFine, fine-beginning}
use Rattle.vh_lex.proofs.BytesLemmas.{pair-beginning, not-beginning}
use Rattle.vh_lex.proofs.LongLemmas.{word-same, system-same, escape-kept, use-kept, text-kept, symbol-kept, slash-kept}
use Rattle.vh_lex.proofs.NumbersLemmas.{number-kept}

-- The same test of both
if-kept : (t : Bool) (f g q r : Piece) (p : Part) (len : ℕ) → (f ≡ Kept p len → g ≡ Kept p len) → (q ≡ Kept p len → r ≡ Kept p len)
    → (if t then f else q) ≡ Kept p len → (if t then g else r) ≡ Kept p len
if-kept true f g q r p len h k e = h e
if-kept false f g q r p len h k e = k e

-- A bracket that begins no attribute
bracket-kept : (xs ys : List ℕ) (p : Part) (len : ℕ) → begins_with 40 42 (xs ++ ys) ≡ false → bracket_at (xs ++ ys) ≡ Kept p len → len ≤ length xs → bracket_at xs ≡ Kept p len
bracket-kept xs ys p len a e h =
    let none = not-beginning (begins_with 40 42 xs) (begins_with 40 42 (xs ++ ys)) (pair-beginning 40 42 xs ys) a in
    let tail = not (begins (λ b. nat_eq b 41) (drop (prefix_len is_space (drop 2 xs)) (drop 2 xs))) in
    let whole = not (begins (λ b. nat_eq b 41) (drop (prefix_len is_space (drop 2 (xs ++ ys))) (drop 2 (xs ++ ys)))) in
    let here : Piece = symbol_piece xs in
    let there : Piece = symbol_piece (xs ++ ys) in
    let attribute : Piece = attribute_of (through 42 41 false (drop 2 xs)) xs in
    let other : Piece = attribute_of (through 42 41 false (drop 2 (xs ++ ys))) (xs ++ ys) in
    ap (λ t. if t && tail then attribute else here) none
    ∙ symbol-kept xs ys p len (sym (ap (λ t. if t && whole then other else there) a) ∙ e) h

symbolic-kept : (b : ℕ) (xs ys : List ℕ) (p : Part) (len : ℕ) → begins_with 40 42 (b ∷ (xs ++ ys)) ≡ false → len ≤ suc (length xs)
    → symbolic b (xs ++ ys) (b ∷ (xs ++ ys)) ≡ Kept p len → symbolic b xs (b ∷ xs) ≡ Kept p len
symbolic-kept b xs ys p len a h e =
    if-kept (nat_eq b 36) (system_at (b ∷ (xs ++ ys))) (system_at (b ∷ xs)) _ _ p len (λ f. system-same (b ∷ xs) ys p len f h)
    (if-kept (nat_eq b 34) (text_at (xs ++ ys)) (text_at xs) _ _ p len (λ f. text-kept xs ys p len f (omega arith))
    (if-kept (nat_eq b 92) (escaped_by (name_of (b ∷ (xs ++ ys)))) (escaped_by (name_of (b ∷ xs))) _ _ p len (λ f. escape-kept (b ∷ xs) ys p len f h)
    (if-kept (nat_eq b 96) (use_by (name_of (xs ++ ys))) (use_by (name_of xs)) _ _ p len (λ f. use-kept xs ys p len f (omega arith))
    (if-kept (nat_eq b 47) (slash_piece (comment_len (b ∷ (xs ++ ys))) (b ∷ (xs ++ ys))) (slash_piece (comment_len (b ∷ xs)) (b ∷ xs)) _ _ p len (λ f. slash-kept (b ∷ xs) ys p len f h)
    (if-kept (nat_eq b 40) (bracket_at (b ∷ (xs ++ ys))) (bracket_at (b ∷ xs)) (symbol_piece (b ∷ (xs ++ ys))) (symbol_piece (b ∷ xs)) p len (λ f. bracket-kept (b ∷ xs) ys p len a f h)
    (λ f. symbol-kept (b ∷ xs) ys p len f h)))))) e

pub longest : Longest
longest [] ys p len e h a = by ys e
  where
    by : (ys : List ℕ) → beginning ys ≡ Kept p len → beginning [] ≡ Kept p len
    by [] f = cc
    by (b ∷ bs) f = let k = (subst (IsFine b) f (fine-beginning b bs)).0 in absurd (omega arith)
longest (b ∷ xs) ys p len e h a =
    if-kept (is_space b) (Blank (prefix_len is_space (b ∷ (xs ++ ys)))) (Blank (prefix_len is_space (b ∷ xs))) _ _ p len (λ f. cc)
    (if-kept (is_name_start b) (word_at (b ∷ (xs ++ ys))) (word_at (b ∷ xs)) _ _ p len (λ f. word-same (b ∷ xs) ys p len f h)
    (if-kept (is_digit b || nat_eq b 39) (number_at (b ∷ (xs ++ ys))) (number_at (b ∷ xs)) (symbolic b (xs ++ ys) (b ∷ (xs ++ ys))) (symbolic b xs (b ∷ xs)) p len
    (λ f. number-kept (b ∷ xs) ys p len f h) (λ f. symbolic-kept b xs ys p len a h f))) e

-- A token is the longest one.
use Rattle.std.proofs.Common.{◌≡◌, ℕ, ◌+◌, ◌≤◌, Bool, true, false, cond, ◌||◌, List, [], ◌∷◌, ◌++◌, Option, Some, None, length, take, drop, nat_eq, nat_lt, nat_le, option_map, bytes_eq, if◌then◌else◌, refl, ap, sym, subst, ◌∙◌, length-take, arith}
use Rattle.std.specs.List.{prefix_len, find, starts_with}
use Rattle.std.proofs.lemmas.List.Folds.{length-prefix_len}
use lib.Pointwise.{pointwise, pointwise_long}
use Rattle.vh_base.specs.Classes.{is_name_start, is_digit}
use Rattle.vh_base.specs.declared.faults.DesignFault.TheVariants.{L1, L5, L6}
use Rattle.vh_lex.specs.declared.keyword.Keyword.{Keyword}
use Rattle.vh_lex.specs.declared.symbol.Symbol.{Symbol as SymbolOf}
use Rattle.vh_lex.specs.declared.token.Kind.{Kind}
use Rattle.vh_lex.specs.declared.token.Kind.TheVariants as kind
use Rattle.vh_lex.specs.declared.piece.Part.{Part}
use Rattle.vh_lex.specs.declared.piece.Part.TheVariants as part
use Rattle.vh_lex.specs.declared.piece.Piece.{Piece}
use Rattle.vh_lex.specs.declared.piece.Piece.TheVariants.{Blank, Kept, Fault}
use Rattle.vh_lex.specs.Bytes.{begins_with, through, one_more, is_text, is_line_byte, is_graphic, is_name_byte}
use Rattle.vh_lex.specs.Keywords.{module_word, keyword_of}
use Rattle.vh_lex.specs.Symbols.{symbol_rows}
use Rattle.vh_lex.specs.Texts.{Decoded, decoded, text_len, text_by, text_within, text_of, text_at}
use Rattle.vh_lex.specs.Beginning.{Named, comment_len, escaped_name, simple_name, name_of, is_long, named, word_by, word_of, word_at, system_of, system_at, escaped_by, use_by, symbol_by, symbol_piece, slash_piece}
use Rattle.vh_lex.proofs.BytesLemmas.{take-beginning, run-same, pair-beginning, not-beginning}

-- How many bytes a piece has that is kept
abbrev pub Len : ℕ → Piece → Type 0
Len n (Blank len) = Unit {0}
Len n (Kept p len) = n ≡ len
Len n (Fault fault at) = Unit {0}

pub if-len : (n : ℕ) (t : Bool) (p q : Piece) → (t ≡ true → Len n p) → (t ≡ false → Len n q) → Len n (if t then p else q)
if-len n true p q h k = h refl
if-len n false p q h k = k refl

pub len-is : (n : ℕ) (q : Piece) (p : Part) (len : ℕ) → Len n q → q ≡ Kept p len → n ≡ len
len-is n q p len h e = subst (Len n) e h

named-len : (k : List ℕ → Kind) (name : List ℕ) (len : ℕ) → Len len (named k name len)
named-len k name len = if-len len (is_long name) (Fault L6 0) (Kept (part.Token (k name)) len) (λ _. tt) (λ _. refl)

word_by-len : (o : Option Keyword) (word : List ℕ) → Len (length word) (word_by o word)
word_by-len (Some k) word = refl
word_by-len None word = named-len kind.Name word (length word)

word-len : (word : List ℕ) → Len (length word) (word_of word)
word-len word = if-len (length word) (bytes_eq module_word word) (Kept part.Module (length word)) (word_by (keyword_of word) word) (λ _. refl) (λ _. word_by-len (keyword_of word) word)

system-len : (name : List ℕ) → Len (length name) (system_of name)
system-len name = if-len (length name) (nat_lt 1 (length name)) (named kind.SysName name (length name)) (Fault L1 0) (λ _. named-len kind.SysName name (length name)) (λ _. tt)

-- A run of bytes, and what it is
run-kept : (of : List ℕ → Piece) → ((word : List ℕ) → Len (length word) (of word)) → (c : ℕ → Bool) (xs ys : List ℕ) (p : Part) (len : ℕ)
    → of (take (prefix_len c (xs ++ ys)) (xs ++ ys)) ≡ Kept p len → len ≤ length xs → of (take (prefix_len c xs) xs) ≡ Kept p len
run-kept of lens c xs ys p len e h =
    let n = prefix_len c (xs ++ ys) in
    let long : length (take n (xs ++ ys)) ≡ len = len-is (length (take n (xs ++ ys))) (of (take n (xs ++ ys))) p len (lens (take n (xs ++ ys))) e in
    let size = length-prefix_len c (xs ++ ys) in
    let small : n ≤ length xs = omega arith in
    ap (λ m. of (take m xs)) (run-same c xs ys small) ∙ ap of (sym (take-beginning n xs ys small)) ∙ e

pub word-same : (xs ys : List ℕ) (p : Part) (len : ℕ) → word_at (xs ++ ys) ≡ Kept p len → len ≤ length xs → word_at xs ≡ Kept p len
word-same xs ys p len e h = run-kept word_of word-len is_name_byte xs ys p len e h

pub system-same : (xs ys : List ℕ) (p : Part) (len : ℕ) → system_at (xs ++ ys) ≡ Kept p len → len ≤ length xs → system_at xs ≡ Kept p len
system-same xs ys p len e h = run-kept system_of system-len is_name_byte xs ys p len e h

-- Names
size-of : Option Named → ℕ
size-of None = 0
size-of (Some n) = n.len

escaped-same : (xs ys : List ℕ) (n : Named) → escaped_name (prefix_len is_graphic (xs ++ ys)) (xs ++ ys) ≡ Some n → n.len ≤ length xs + 1
    → escaped_name (prefix_len is_graphic xs) xs ≡ Some n
unfolding size-of
escaped-same xs ys n e h = by (nat_lt 0 (prefix_len is_graphic (xs ++ ys))) refl e
  where
    by : (t : Bool) → nat_lt 0 (prefix_len is_graphic (xs ++ ys)) ≡ t
        → (if t then Some (record { name = take (prefix_len is_graphic (xs ++ ys)) (xs ++ ys); len = prefix_len is_graphic (xs ++ ys) + 1 }) else None) ≡ Some n
        → escaped_name (prefix_len is_graphic xs) xs ≡ Some n
    by true f g =
        let k = prefix_len is_graphic (xs ++ ys) in
        let size : k + 1 ≡ n.len = ap size-of g in
        let small : k ≤ length xs = omega arith in
        ap (λ m. escaped_name m xs) (run-same is_graphic xs ys small)
        ∙ ap (λ t. if t then Some (record { name = take k xs; len = k + 1 }) else None) f
        ∙ ap (λ w. Some (record { name = w; len = k + 1 })) (sym (take-beginning k xs ys small)) ∙ g
    by false f g = cc

name-long : (bytes : List ℕ) (n : Named) → name_of bytes ≡ Some n → 1 ≤ n.len
unfolding size-of
name-long [] n e = cc
name-long (b ∷ bs) n e = by (is_name_start b) refl (nat_eq b 92) e
  where
    escaped : (t : Bool) → (if t then Some (record { name = take (prefix_len is_graphic bs) bs; len = prefix_len is_graphic bs + 1 }) else None) ≡ Some n → 1 ≤ n.len
    escaped true f = let size : prefix_len is_graphic bs + 1 ≡ n.len = ap size-of f in omega arith
    escaped false f = cc

    by : (t : Bool) → is_name_start b ≡ t → (u : Bool) → (if t then Some (simple_name (b ∷ bs)) else (if u then escaped_name (prefix_len is_graphic bs) bs else None)) ≡ Some n → 1 ≤ n.len
    by true f u g =
        let size : prefix_len is_name_byte (b ∷ bs) ≡ n.len = ap size-of g in
        let first : is_name_byte b ≡ true = ap (λ t. t || is_digit b || nat_eq b 36) f in
        let one : prefix_len is_name_byte (b ∷ bs) ≡ 1 + prefix_len is_name_byte bs = ap (λ t. cond t (1 + prefix_len is_name_byte bs) 0) first in
        omega arith
    by false f true g = escaped (nat_lt 0 (prefix_len is_graphic bs)) g
    by false f false g = cc

pub name-same : (xs ys : List ℕ) (n : Named) → name_of (xs ++ ys) ≡ Some n → n.len ≤ length xs → name_of xs ≡ Some n
unfolding size-of
name-same [] ys n e h = let k = name-long ys n e in absurd (omega arith)
name-same (x ∷ xs) ys n e h = by (is_name_start x) (nat_eq x 92) e
  where
    by : (t u : Bool) → (if t then Some (simple_name (x ∷ (xs ++ ys))) else (if u then escaped_name (prefix_len is_graphic (xs ++ ys)) (xs ++ ys) else None)) ≡ Some n
        → (if t then Some (simple_name (x ∷ xs)) else (if u then escaped_name (prefix_len is_graphic xs) xs else None)) ≡ Some n
    by true u g =
        let k = prefix_len is_name_byte (x ∷ (xs ++ ys)) in
        let size : k ≡ n.len = ap size-of g in
        let small : k ≤ length (x ∷ xs) = omega arith in
        ap (λ m. Some (record { name = take m (x ∷ xs); len = m })) (run-same is_name_byte (x ∷ xs) ys small)
        ∙ ap (λ w. Some (record { name = w; len = k })) (sym (take-beginning k (x ∷ xs) ys small)) ∙ g
    by false true g = escaped-same xs ys n g (omega arith)
    by false false g = g

pub escape-kept : (xs ys : List ℕ) (p : Part) (len : ℕ) → escaped_by (name_of (xs ++ ys)) ≡ Kept p len → len ≤ length xs → escaped_by (name_of xs) ≡ Kept p len
escape-kept xs ys p len e h = by (name_of (xs ++ ys)) refl e
  where
    by : (o : Option Named) → name_of (xs ++ ys) ≡ o → escaped_by o ≡ Kept p len → escaped_by (name_of xs) ≡ Kept p len
    by None f g = cc
    by (Some n) f g =
        let size = len-is n.len (named kind.Name n.name n.len) p len (named-len kind.Name n.name n.len) g in
        ap escaped_by (name-same xs ys n f (omega arith)) ∙ g

pub use-kept : (xs ys : List ℕ) (p : Part) (len : ℕ) → use_by (name_of (xs ++ ys)) ≡ Kept p len → len ≤ length xs + 1 → use_by (name_of xs) ≡ Kept p len
use-kept xs ys p len e h = by (name_of (xs ++ ys)) refl e
  where
    by : (o : Option Named) → name_of (xs ++ ys) ≡ o → use_by o ≡ Kept p len → use_by (name_of xs) ≡ Kept p len
    by None f g = cc
    by (Some n) f g =
        let size : n.len + 1 ≡ len = len-is (n.len + 1) (Kept (part.Use n.name) (n.len + 1)) p len refl g in
        ap use_by (name-same xs ys n f (omega arith)) ∙ g

-- Strings
less-one : (o : Option ℕ) (k : ℕ) → one_more o ≡ Some k → (j : ℕ) × ((o ≡ Some j) × (k ≡ j + 1))
less-one None k e = cc
less-one (Some j) k e = (j, (refl, let same : j + 1 ≡ k = cc in sym same))

text-end : (escaped : Bool) (xs ys : List ℕ) (k : ℕ) → text_len escaped (xs ++ ys) ≡ Some k → k + 1 ≤ length xs → text_len escaped xs ≡ Some k
text-end escaped [] ys k e h = absurd (omega arith)
text-end true (x ∷ xs) ys k e h = by (is_text x) e (λ j f g. text-end false xs ys j f g)
  where
    by : (t : Bool) → (if t then one_more (text_len false (xs ++ ys)) else None) ≡ Some k → ((j : ℕ) → text_len false (xs ++ ys) ≡ Some j → j + 1 ≤ length xs → text_len false xs ≡ Some j)
        → (if t then one_more (text_len false xs) else None) ≡ Some k
    by true f go =
        let w = less-one (text_len false (xs ++ ys)) k f in
        let size = w.1.1 in
        ap one_more (go w.0 w.1.0 (omega arith)) ∙ ap Some (sym size)
    by false f go = f
text-end false (x ∷ xs) ys k e h = by (nat_eq x 34) (is_text x) e (λ j f g. text-end (nat_eq x 92) xs ys j f g)
  where
    by : (t u : Bool) → (if t then Some 0 else (if u then one_more (text_len (nat_eq x 92) (xs ++ ys)) else None)) ≡ Some k
        → ((j : ℕ) → text_len (nat_eq x 92) (xs ++ ys) ≡ Some j → j + 1 ≤ length xs → text_len (nat_eq x 92) xs ≡ Some j)
        → (if t then Some 0 else (if u then one_more (text_len (nat_eq x 92) xs) else None)) ≡ Some k
    by true u f go = f
    by false true f go =
        let w = less-one (text_len (nat_eq x 92) (xs ++ ys)) k f in
        let size = w.1.1 in
        ap one_more (go w.0 w.1.0 (omega arith)) ∙ ap Some (sym size)
    by false false f go = f

text-by-len : (wrong : Option ℕ) (bytes : List ℕ) (k : ℕ) → Len (k + 2) (text_by wrong bytes k)
text-by-len None bytes k = refl
text-by-len (Some w) bytes k = tt

text-length : (d : Decoded) (k : ℕ) → Len (k + 2) (text_within d k)
text-length d k = if-len (k + 2) (nat_le (length d.bytes) 4096) (text_by d.wrong d.bytes k) (Fault L6 0) (λ _. text-by-len d.wrong d.bytes k) (λ _. tt)

pub text-kept : (xs ys : List ℕ) (p : Part) (len : ℕ) → text_at (xs ++ ys) ≡ Kept p len → len ≤ length xs + 1 → text_at xs ≡ Kept p len
text-kept xs ys p len e h = by (text_len false (xs ++ ys)) refl e
  where
    by : (o : Option ℕ) → text_len false (xs ++ ys) ≡ o → text_of o (xs ++ ys) ≡ Kept p len → text_at xs ≡ Kept p len
    by None f g = cc
    by (Some k) f g =
        let size = len-is (k + 2) (text_within (decoded (take k (xs ++ ys))) k) p len (text-length (decoded (take k (xs ++ ys))) k) g in
        let small : k + 1 ≤ length xs = omega arith in
        ap (λ o. text_of o xs) (text-end false xs ys k f small) ∙ ap (λ w. text_within (decoded w) k) (sym (take-beginning k xs ys (omega arith))) ∙ g

-- Operators and symbols
starts-same : (xs ys r : List ℕ) → length r ≤ length xs → starts_with nat_eq (xs ++ ys) r ≡ starts_with nat_eq xs r
starts-same xs ys r h = ap (pointwise nat_eq r) (take-beginning (length r) xs ys h)

starts-short : (xs r : List ℕ) → starts_with nat_eq xs r ≡ true → length r ≤ length xs
starts-short xs r e = let same = pointwise_long nat_eq r (take (length r) xs) e in let size = length-take (length r) xs in omega arith

symbol-found : (rows : List (List ℕ × SymbolOf)) (xs ys : List ℕ) (p : Part) (len : ℕ) → symbol_by (find (λ row. starts_with nat_eq (xs ++ ys) row.0) rows) ≡ Kept p len → len ≤ length xs
    → symbol_by (find (λ row. starts_with nat_eq xs row.0) rows) ≡ Kept p len
symbol-found [] xs ys p len e h = e
symbol-found (row ∷ rows) xs ys p len e h =
    by (starts_with nat_eq (xs ++ ys) row.0) refl (starts_with nat_eq xs row.0) refl e (λ g. symbol-found rows xs ys p len g h)
  where
    by : (t : Bool) → starts_with nat_eq (xs ++ ys) row.0 ≡ t → (u : Bool) → starts_with nat_eq xs row.0 ≡ u
        → symbol_by (cond t (Some row) (find (λ r. starts_with nat_eq (xs ++ ys) r.0) rows)) ≡ Kept p len
        → (symbol_by (find (λ r. starts_with nat_eq (xs ++ ys) r.0) rows) ≡ Kept p len → symbol_by (find (λ r. starts_with nat_eq xs r.0) rows) ≡ Kept p len)
        → symbol_by (cond u (Some row) (find (λ r. starts_with nat_eq xs r.0) rows)) ≡ Kept p len
    by true f true g k go = k
    by true f false g k go =
        let size : length row.0 ≡ len = len-is (length row.0) (Kept (part.Token (kind.Symbol row.1)) (length row.0)) p len refl k in
        let no = sym f ∙ starts-same xs ys row.0 (omega arith) ∙ g in cc
    by false f true g k go = let no = sym f ∙ starts-same xs ys row.0 (starts-short xs row.0 g) ∙ g in cc
    by false f false g k go = go k

pub symbol-kept : (xs ys : List ℕ) (p : Part) (len : ℕ) → symbol_piece (xs ++ ys) ≡ Kept p len → len ≤ length xs → symbol_piece xs ≡ Kept p len
symbol-kept xs ys p len e h = symbol-found symbol_rows xs ys p len e h

-- A slash that begins no comment
pub slash-kept : (xs ys : List ℕ) (p : Part) (len : ℕ) → slash_piece (comment_len (xs ++ ys)) (xs ++ ys) ≡ Kept p len → len ≤ length xs → slash_piece (comment_len xs) xs ≡ Kept p len
slash-kept xs ys p len e h =
    by (begins_with 47 47 (xs ++ ys)) refl (begins_with 47 42 (xs ++ ys)) refl (through 42 47 false (drop 2 (xs ++ ys))) e
  where
    by : (t : Bool) → begins_with 47 47 (xs ++ ys) ≡ t → (u : Bool) → begins_with 47 42 (xs ++ ys) ≡ u → (o : Option ℕ)
        → slash_piece (if t then Some (prefix_len is_line_byte (xs ++ ys)) else (if u then option_map (λ n. n + 2) o else None)) (xs ++ ys) ≡ Kept p len
        → slash_piece (comment_len xs) xs ≡ Kept p len
    by true f u g o k = cc
    by false f true g (Some n) k = cc
    by false f true g None k =
        let l : Piece = symbol_piece (xs ++ ys) in
        let no = sym (ap (λ t. if t then Fault L5 0 else l) g) ∙ k in cc
    by false f false g o k =
        let no_line = not-beginning (begins_with 47 47 xs) (begins_with 47 47 (xs ++ ys)) (pair-beginning 47 47 xs ys) f in
        let no_block = not-beginning (begins_with 47 42 xs) (begins_with 47 42 (xs ++ ys)) (pair-beginning 47 42 xs ys) g in
        let whole : Piece = symbol_piece (xs ++ ys) in
        let here : Piece = symbol_piece xs in
        ap (λ t. slash_piece (if t then Some (prefix_len is_line_byte xs) else (if begins_with 47 42 xs then option_map (λ n. n + 2) (through 42 47 false (drop 2 xs)) else None)) xs) no_line
        ∙ ap (λ t. slash_piece (if t then option_map (λ n. n + 2) (through 42 47 false (drop 2 xs)) else None) xs) no_block
        ∙ ap (λ t. if t then Fault L5 0 else here) no_block
        ∙ symbol-kept xs ys p len (sym (ap (λ t. if t then Fault L5 0 else whole) g) ∙ k) h

-- What bytes begin with has one byte at least; and a use begins with a backquote.
use Rattle.std.proofs.Common.{◌≡◌, ℕ, ◌+◌, ◌≤◌, Bool, true, false, cond, ◌&&◌, ◌||◌, List, [], ◌∷◌, Option, Some, None, Result, Ok, Err, length, take, drop, nat_eq, nat_lt, nat_le, option_map, bytes_eq, if◌then◌else◌, refl, ap, length-take, arith}
use Rattle.std.specs.List.{prefix_len, find, starts_with, list_all}
use Rattle.std.proofs.lemmas.Bool.Decides.{nat_tests}
use Rattle.vh_base.specs.Classes.{is_space, is_name_start, is_digit}
use Rattle.vh_base.specs.declared.faults.DesignFault.TheVariants.{L1, L4, L5, L6}
use Rattle.vh_logic.specs.Vector.{Vector}
use Rattle.vh_text.specs.declared.literal.LiteralFault.{LiteralFault}
use Rattle.vh_text.specs.Literals.{literal}
use Rattle.vh_lex.specs.declared.keyword.Keyword.{Keyword}
use Rattle.vh_lex.specs.declared.symbol.Symbol.{Symbol as SymbolOf}
use Rattle.vh_lex.specs.declared.token.Kind.{Kind}
use Rattle.vh_lex.specs.declared.token.Kind.TheVariants as kind
use Rattle.vh_lex.specs.declared.piece.Part.{Part}
use Rattle.vh_lex.specs.declared.piece.Part.TheVariants as part
use Rattle.vh_lex.specs.declared.piece.Piece.{Piece}
use Rattle.vh_lex.specs.declared.piece.Piece.TheVariants.{Blank, Kept, Fault}
use Rattle.vh_lex.specs.Bytes.{begins, begins_with, through, is_line_byte, is_source, is_graphic, is_name_byte, is_decimal}
use Rattle.vh_lex.specs.Keywords.{module_word, keyword_of}
use Rattle.vh_lex.specs.Symbols.{symbol_rows}
use Rattle.vh_lex.specs.Numbers.{begins_real, based_len, valued, number_of, number_by, number_at}
use Rattle.vh_lex.specs.Texts.{decoded, text_len, text_by, text_of, text_at}
use Rattle.vh_lex.specs.Beginning.{Named, comment_len, escaped_name, simple_name, name_of, is_long, named, word_by, word_of, word_at, system_of, system_at, escaped_by, use_by, symbol_by, symbol_piece, slash_piece, begins_attribute, attribute_of, bracket_at, symbolic, beginning}

-- A use begins with a backquote
abbrev IsQuoted : ℕ → Part → Type 0
IsQuoted byte (part.Use name) = nat_eq byte 96 ≡ true
IsQuoted byte (part.Token kind) = Unit {0}
IsQuoted byte part.Module = Unit {0}
IsQuoted byte (part.Wrong fault) = Unit {0}

abbrev pub IsFine : ℕ → Piece → Type 0
IsFine byte (Blank len) = 1 ≤ len
IsFine byte (Kept p len) = (1 ≤ len) × IsQuoted byte p
IsFine byte (Fault fault at) = Unit {0}

if-fine : (byte : ℕ) (t : Bool) (p q : Piece) → (t ≡ true → IsFine byte p) → (t ≡ false → IsFine byte q) → IsFine byte (if t then p else q)
if-fine byte true p q h k = h refl
if-fine byte false p q h k = k refl

some-more : (n : ℕ) → nat_lt 0 n ≡ true → 1 ≤ n
some-more n e = grind (arith, nat_tests)

prefix-long : (p : ℕ → Bool) (b : ℕ) (bs : List ℕ) → p b ≡ true → 1 ≤ prefix_len p (b ∷ bs)
prefix-long p b bs e = rw e (omega arith)

-- A word that begins with a byte of its class
run-long : (p : ℕ → Bool) (b : ℕ) (bs : List ℕ) → p b ≡ true → 1 ≤ length (take (prefix_len p (b ∷ bs)) (b ∷ bs))
run-long p b bs e = rw (length-take (prefix_len p (b ∷ bs)) (b ∷ bs)) (let h = prefix-long p b bs e in omega arith)

fine-named : (byte : ℕ) (k : List ℕ → Kind) (name : List ℕ) (len : ℕ) → 1 ≤ len → IsFine byte (named k name len)
fine-named byte k name len h = if-fine byte (is_long name) (Fault L6 0) (Kept (part.Token (k name)) len) (λ _. tt) (λ _. (h, tt))

fine-word_by : (byte : ℕ) (o : Option Keyword) (word : List ℕ) → 1 ≤ length word → IsFine byte (word_by o word)
fine-word_by byte (Some k) word h = (h, tt)
fine-word_by byte None word h = fine-named byte kind.Name word (length word) h

fine-word : (byte : ℕ) (word : List ℕ) → 1 ≤ length word → IsFine byte (word_of word)
fine-word byte word h = if-fine byte (bytes_eq module_word word) (Kept part.Module (length word)) (word_by (keyword_of word) word) (λ _. (h, tt)) (λ _. fine-word_by byte (keyword_of word) word h)

fine-valued : (byte : ℕ) (o : Result Vector LiteralFault) (sized : Bool) (len : ℕ) → 1 ≤ len → IsFine byte (valued o sized len)
fine-valued byte (Ok value) sized len h = (h, tt)
fine-valued byte (Err fault) sized len h = tt

fine-number : (byte : ℕ) (bytes : List ℕ) (digits spaces based : ℕ) → IsFine byte (number_by bytes digits spaces based)
fine-number byte bytes digits spaces based =
    if-fine byte (begins_real (drop digits bytes)) (Fault L4 0) _ (λ _. tt)
    (λ _. if-fine byte (nat_lt 0 based) (number_of bytes (nat_lt 0 digits) (digits + spaces + based)) _
    (λ e. fine-valued byte (literal (take (digits + spaces + based) bytes)) (nat_lt 0 digits) (digits + spaces + based) (let h = some-more based e in omega arith))
    (λ _. if-fine byte (nat_lt 0 digits) (number_of bytes false digits) (Fault L1 0)
    (λ e. fine-valued byte (literal (take digits bytes)) false digits (some-more digits e)) (λ _. tt)))

both : (a b : Bool) → (a && b) ≡ true → (a ≡ true) × (b ≡ true)
both true b e = (refl, e)
both false b e = cc

fine-found : (byte : ℕ) (p : List ℕ × SymbolOf → Bool) (rows : List (List ℕ × SymbolOf)) → list_all (λ row. nat_lt 0 (length row.0)) rows ≡ true → IsFine byte (symbol_by (find p rows))
fine-found byte p [] all = tt
fine-found byte p (row ∷ rows) all =
    let parts = both (nat_lt 0 (length row.0)) (list_all (λ r. nat_lt 0 (length r.0)) rows) all in
    by (p row) (some-more (length row.0) parts.0) (fine-found byte p rows parts.1)
  where
    by : (t : Bool) → 1 ≤ length row.0 → IsFine byte (symbol_by (find p rows)) → IsFine byte (symbol_by (cond t (Some row) (find p rows)))
    by true h k = (h, tt)
    by false h k = k

fine-symbol : (byte : ℕ) (bytes : List ℕ) → IsFine byte (symbol_piece bytes)
unfolding symbol_rows
fine-symbol byte bytes = fine-found byte (λ row. starts_with nat_eq bytes row.0) symbol_rows refl

fine-text_by : (byte : ℕ) (wrong : Option ℕ) (bytes : List ℕ) (len : ℕ) → IsFine byte (text_by wrong bytes len)
fine-text_by byte None bytes len = (omega arith, tt)
fine-text_by byte (Some wrong) bytes len = tt

fine-text : (byte : ℕ) (o : Option ℕ) (bytes : List ℕ) → IsFine byte (text_of o bytes)
fine-text byte None bytes = tt
fine-text byte (Some len) bytes =
    let d = decoded (take len bytes) in
    if-fine byte (nat_le (length d.bytes) 4096) (text_by d.wrong d.bytes len) (Fault L6 0) (λ _. fine-text_by byte d.wrong d.bytes len) (λ _. tt)

starts-name : (b : ℕ) → is_name_start b ≡ true → is_name_byte b ≡ true
starts-name b e = rw e refl

fine-escaped : (byte b : ℕ) (bs : List ℕ) → IsFine byte (escaped_by (name_of (b ∷ bs)))
fine-escaped byte b bs = by (is_name_start b) refl (nat_eq b 92) (prefix_len is_graphic bs)
  where
    escaped : (n : ℕ) (t : Bool) → nat_lt 0 n ≡ t → IsFine byte (escaped_by (if t then Some (record { name = take n bs; len = n + 1 }) else None))
    escaped n true e = fine-named byte kind.Name (take n bs) (n + 1) (omega arith)
    escaped n false e = tt

    by : (t : Bool) → is_name_start b ≡ t → (u : Bool) (n : ℕ) → IsFine byte (escaped_by (if t then Some (simple_name (b ∷ bs)) else (if u then escaped_name n bs else None)))
    by true e u n = fine-named byte kind.Name (simple_name (b ∷ bs)).name (simple_name (b ∷ bs)).len (prefix-long is_name_byte b bs (starts-name b e))
    by false e true n = escaped n (nat_lt 0 n) refl
    by false e false n = tt

fine-use : (byte : ℕ) (o : Option Named) → nat_eq byte 96 ≡ true → IsFine byte (use_by o)
fine-use byte None e = tt
fine-use byte (Some n) e = (omega arith, e)

eq-literal : (b n : ℕ) → nat_eq b n ≡ true → b ≡ n
eq-literal b n e = grind (arith, nat_tests)

pub comment-long : (b : ℕ) (bs : List ℕ) (len : ℕ) → comment_len (b ∷ bs) ≡ Some len → 1 ≤ len
comment-long b bs len e = by (begins_with 47 47 (b ∷ bs)) refl (begins_with 47 42 (b ∷ bs)) (through 42 47 false (drop 2 (b ∷ bs))) e
  where
    line : nat_eq b 47 ≡ true → 1 ≤ prefix_len is_line_byte (b ∷ bs)
    line f = prefix-long is_line_byte b bs (ap is_line_byte (eq-literal b 47 f))

    by : (t : Bool) → begins_with 47 47 (b ∷ bs) ≡ t → (u : Bool) (o : Option ℕ)
        → (if t then Some (prefix_len is_line_byte (b ∷ bs)) else (if u then option_map (λ n. n + 2) o else None)) ≡ Some len → 1 ≤ len
    by true f u o e = let h = line (both (nat_eq b 47) (begins (λ c. nat_eq c 47) bs) f).0 in let same : prefix_len is_line_byte (b ∷ bs) ≡ len = cc in omega arith
    by false f true (Some n) e = let same : n + 2 ≡ len = cc in omega arith
    by false f true None e = cc
    by false f false o e = cc

fine-slash : (byte b : ℕ) (bs : List ℕ) (o : Option ℕ) → comment_len (b ∷ bs) ≡ o → IsFine byte (slash_piece o (b ∷ bs))
fine-slash byte b bs (Some len) e = comment-long b bs len e
fine-slash byte b bs None e = if-fine byte (begins_with 47 42 (b ∷ bs)) (Fault L5 0) (symbol_piece (b ∷ bs)) (λ _. tt) (λ _. fine-symbol byte (b ∷ bs))

fine-attribute : (byte : ℕ) (o : Option ℕ) (bytes : List ℕ) → IsFine byte (attribute_of o bytes)
fine-attribute byte None bytes = tt
fine-attribute byte (Some len) bytes =
    let clean = prefix_len is_source (take (len + 2) bytes) in
    if-fine byte (nat_lt clean (len + 2)) (Fault L1 clean) (Blank (len + 2)) (λ _. tt) (λ _. omega arith)

fine-system : (byte : ℕ) (name : List ℕ) → IsFine byte (system_of name)
fine-system byte name =
    if-fine byte (nat_lt 1 (length name)) (named kind.SysName name (length name)) (Fault L1 0)
    (λ e. fine-named byte kind.SysName name (length name) (grind (arith, nat_tests))) (λ _. tt)

fine-symbolic : (b : ℕ) (bs : List ℕ) → IsFine b (symbolic b bs (b ∷ bs))
fine-symbolic b bs =
    if-fine b (nat_eq b 36) (system_at (b ∷ bs)) _ (λ _. fine-system b (take (prefix_len is_name_byte (b ∷ bs)) (b ∷ bs)))
    (λ _. if-fine b (nat_eq b 34) (text_at bs) _ (λ _. fine-text b (text_len false bs) bs)
    (λ _. if-fine b (nat_eq b 92) (escaped_by (name_of (b ∷ bs))) _ (λ _. fine-escaped b b bs)
    (λ _. if-fine b (nat_eq b 96) (use_by (name_of bs)) _ (λ e. fine-use b (name_of bs) e)
    (λ _. if-fine b (nat_eq b 47) (slash_piece (comment_len (b ∷ bs)) (b ∷ bs)) _ (λ _. fine-slash b b bs (comment_len (b ∷ bs)) refl)
    (λ _. if-fine b (nat_eq b 40) (bracket_at (b ∷ bs)) (symbol_piece (b ∷ bs))
    (λ _. if-fine b (begins_attribute (b ∷ bs)) (attribute_of (through 42 41 false (drop 2 (b ∷ bs))) (b ∷ bs)) (symbol_piece (b ∷ bs))
    (λ _. fine-attribute b (through 42 41 false (drop 2 (b ∷ bs))) (b ∷ bs)) (λ _. fine-symbol b (b ∷ bs)))
    (λ _. fine-symbol b (b ∷ bs)))))))

pub fine-beginning : (b : ℕ) (bs : List ℕ) → IsFine b (beginning (b ∷ bs))
fine-beginning b bs =
    if-fine b (is_space b) (Blank (prefix_len is_space (b ∷ bs))) _ (λ e. prefix-long is_space b bs e)
    (λ _. if-fine b (is_name_start b) (word_at (b ∷ bs)) _
    (λ e. fine-word b (take (prefix_len is_name_byte (b ∷ bs)) (b ∷ bs)) (run-long is_name_byte b bs (starts-name b e)))
    (λ _. if-fine b (is_digit b || nat_eq b 39) (number_at (b ∷ bs)) (symbolic b bs (b ∷ bs))
    (λ _. fine-number b (b ∷ bs) (prefix_len is_decimal (b ∷ bs)) (prefix_len is_space (drop (prefix_len is_decimal (b ∷ bs)) (b ∷ bs)))
    (based_len (drop (prefix_len is_decimal (b ∷ bs) + prefix_len is_space (drop (prefix_len is_decimal (b ∷ bs)) (b ∷ bs))) (b ∷ bs))))
    (λ _. fine-symbolic b bs)))

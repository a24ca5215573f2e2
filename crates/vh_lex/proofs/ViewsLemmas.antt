-- A table, and those of its rows that have a first byte.
use Rattle.std.proofs.Common.{◌≡◌, ◌≢◌, ℕ, List, [], ◌∷◌, Option, Some, None, Bool, true, false, cond, ◌&&◌, ◌||◌, nat_eq, nat_lt, refl, ap, sym, ◌∙◌, arith}
use Rattle.std.specs.Prelude.{bytes_eq, length}
use Rattle.std.specs.List.{AllByRecursion, find, starts_with, list_all, list_any}
use Rattle.std.specs.Option.{option_map}
use Rattle.std.proofs.lemmas.Bool.Decides.{nat_tests}
use Rattle.vh_lex.specs.declared.symbol.Symbol.{Symbol}
use Rattle.vh_lex.specs.declared.keyword.Keyword.{Keyword}
use Rattle.vh_lex.specs.Bytes.{begins}
use Rattle.vh_lex.specs.Symbols.{symbol_rows, symbol_at}
use Rattle.vh_lex.specs.Keywords.{keyword_rows, keyword_of}
use Rattle.vh_lex.specs.Views.{rows_from}

both : (a b : Bool) → (a && b) ≡ true → (a ≡ true) × (b ≡ true)
both true b e = (refl, e)
both false b e = cc

apart : (x b c : ℕ) → b ≢ c → nat_eq x c ≡ true → nat_eq x b ≡ false
apart x b c h e = grind (arith, nat_tests)

-- A byte that is none of these is not what one of them is
none-of : (x b : ℕ) (cs : List ℕ) → AllByRecursion (λ c. b ≢ c) cs → list_any (λ c. nat_eq x c) cs ≡ true → nat_eq x b ≡ false
none-of x b [] h e = cc
none-of x b (c ∷ cs) h e = first (nat_eq x c) refl (λ f. none-of x b cs h.1 f) e
  where
    first : (t : Bool) → nat_eq x c ≡ t → (list_any (λ d. nat_eq x d) cs ≡ true → nat_eq x b ≡ false) → (t || list_any (λ d. nat_eq x d) cs) ≡ true → nat_eq x b ≡ false
    first true same rest f = apart x b c h.0 same
    first false same rest f = rest f

not-first : (x : List ℕ) (b : ℕ) (cs : List ℕ) → AllByRecursion (λ c. b ≢ c) cs → list_any (λ c. begins (λ d. nat_eq d c) x) cs ≡ true → begins (λ d. nat_eq d b) x ≡ false
not-first [] b cs h e = refl
not-first (x ∷ xs) b cs h e = none-of x b cs h e

-- No row has a first byte that is none of those of the rows
pub no-row : {A : Type 0} (b : ℕ) (cs : List ℕ) (rows : List (List ℕ × A)) → AllByRecursion (λ c. b ≢ c) cs
    → list_all (λ row. list_any (λ c. begins (λ d. nat_eq d c) row.0) cs) rows ≡ true → rows_from b rows ≡ []
no-row b cs [] h all = refl
no-row {A} b cs (row ∷ rows) h all =
    let parts = both (list_any (λ c. begins (λ d. nat_eq d c) row.0) cs) (list_all (λ r. list_any (λ c. begins (λ d. nat_eq d c) r.0) cs) rows) all in
    ap (λ t. cond t (row ∷ rows_from b rows) (rows_from b rows)) (not-first row.0 b cs h parts.0)
    ∙ no-row b cs rows h parts.1

-- What is found among all rows is found among those that have the first byte, since each has one
pub find-from : {A : Type 0} (p : List ℕ × A → Bool) (b : ℕ) (rows : List (List ℕ × A))
    → ((row : List ℕ × A) → nat_lt 0 (length row.0) ≡ true → p row ≡ true → begins (λ d. nat_eq d b) row.0 ≡ true)
    → list_all (λ row. nat_lt 0 (length row.0)) rows ≡ true → find p (rows_from b rows) ≡ find p rows
find-from p b [] h all = refl
find-from {A} p b (row ∷ rows) h all =
    let parts = both (nat_lt 0 (length row.0)) (list_all (λ r. nat_lt 0 (length r.0)) rows) all in
    first (begins (λ d. nat_eq d b) row.0) refl (p row) refl (h row parts.0) (find-from p b rows h parts.1)
  where
    first : (t : Bool) → begins (λ d. nat_eq d b) row.0 ≡ t → (u : Bool) → p row ≡ u → (p row ≡ true → begins (λ d. nat_eq d b) row.0 ≡ true) → find p (rows_from b rows) ≡ find p rows
        → find p (cond t (row ∷ rows_from b rows) (rows_from b rows)) ≡ cond u (Some row) (find p rows)
    first true e true f g rest = ap (λ v. cond v (Some row) (find p (rows_from b rows))) f
    first true e false f g rest = ap (λ v. cond v (Some row) (find p (rows_from b rows))) f ∙ rest
    first false e true f g rest = let k = sym e ∙ g f in cc
    first false e false f g rest = rest

-- A word that is a row's
pub spelled-first : (b : ℕ) (bs spelling : List ℕ) → bytes_eq spelling (b ∷ bs) ≡ true → begins (λ d. nat_eq d b) spelling ≡ true
spelled-first b bs [] e = cc
spelled-first b bs (x ∷ xs) e = (both (nat_eq x b) (bytes_eq xs bs) e).0

-- Bytes that begin with a row's
pub begun-first : (b : ℕ) (bs spelling : List ℕ) → nat_lt 0 (length spelling) ≡ true → starts_with nat_eq (b ∷ bs) spelling ≡ true → begins (λ d. nat_eq d b) spelling ≡ true
begun-first b bs [] n e = cc
begun-first b bs (x ∷ xs) n e = (both (nat_eq x b) (starts_with nat_eq bs xs) e).0

-- So it is with the symbols
pub symbol-from : (bytes : List ℕ) (b : ℕ) (bs : List ℕ) (rows : List (List ℕ × Symbol)) (found : Option (List ℕ × Symbol)) → bytes ≡ b ∷ bs → rows ≡ rows_from b symbol_rows
    → found ≡ find (λ row. starts_with nat_eq bytes row.0) rows → found ≡ symbol_at bytes
unfolding symbol_rows
symbol-from bytes b bs rows found e r f =
    f ∙ ap (λ rs. find (λ row. starts_with nat_eq bytes row.0) rs) r
    ∙ find-from (λ row. starts_with nat_eq bytes row.0) b symbol_rows
    (λ row n h. begun-first b bs row.0 n (sym (ap (λ bytes. starts_with nat_eq bytes row.0) e) ∙ h)) refl

pub no-symbol : (bytes : List ℕ) → length bytes ≡ 0 → None ≡ symbol_at bytes
unfolding symbol_rows
no-symbol [] e = refl
no-symbol (b ∷ bs) e = cc

-- And with the reserved words
pub keyword-from : (bytes : List ℕ) (b : ℕ) (bs : List ℕ) (rows : List (List ℕ × Keyword)) (found : Option Keyword) → bytes ≡ b ∷ bs → rows ≡ rows_from b keyword_rows
    → found ≡ option_map (λ row. row.1) (find (λ row. bytes_eq row.0 bytes) rows) → found ≡ keyword_of bytes
unfolding keyword_rows
keyword-from bytes b bs rows found e r f =
    f ∙ ap (λ rs. option_map (λ row. row.1) (find (λ row. bytes_eq row.0 bytes) rs)) r
    ∙ ap (option_map (λ row. row.1)) (find-from (λ row. bytes_eq row.0 bytes) b keyword_rows
    (λ row n h. spelled-first b bs row.0 (sym (ap (bytes_eq row.0) e) ∙ h)) refl)

pub no-keyword : (bytes : List ℕ) → length bytes ≡ 0 → None ≡ keyword_of bytes
unfolding keyword_rows
no-keyword [] e = refl
no-keyword (b ∷ bs) e = cc

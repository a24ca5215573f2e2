-- Small files with their tokens, and tokens that they don't have.
use Rattle.std.proofs.Common.{◌≡◌, ℕ, List, [], ◌∷◌, ◌++◌, ◌≢◌, false, codes, length, nat_eq, refl, ap, arith}
use Rattle.std.proofs.lemmas.Bool.Decides.{nat_tests}
use Rattle.vh_lex.specs.declared.token.Kind.{Kind}
use Rattle.vh_lex.specs.declared.token.Kind.TheVariants as kind
use Rattle.vh_lex.specs.declared.token.Token.{Token}
use Rattle.vh_lex.specs.Keywords.{keyword_rows}
use Rattle.vh_lex.specs.Symbols.{symbol_rows}
use Rattle.vh_lex.specs.Directives.{directive_rows}
use Rattle.vh_lex.specs.Spelling.{expanded}
use Rattle.vh_lex.specs.Lexed.{File, files_read}
use Rattle.vh_lex.specs.SourceText.{HasText}
use Rattle.vh_lex.proofs.ReachedLemmas.{Gives, one-list, text_is_spelled}
use Rattle.vh_lex.proofs.ChainLemmas.{spelled_has_text}

abbrev text : List ℕ → List File
text bytes = record { number = 0; bytes = bytes } ∷ []

abbrev name : List ℕ → ℕ → ℕ → Token
name bytes line column = record { kind = kind.Name bytes; place = record { file = 0; line = line; column = column } }

-- Of the first token: how long its name is, its line and its column
abbrev size-of : List Token → ℕ
size-of [] = 0
size-of (t ∷ ts) = size t.kind
  where
    size : Kind → ℕ
    size (kind.Name bytes) = length bytes
    size _ = 0

abbrev line-of : List Token → ℕ
line-of [] = 0
line-of (t ∷ ts) = t.place.line

abbrev column-of : List Token → ℕ
column-of [] = 0
column-of (t ∷ ts) = t.place.column

differ : (m n : ℕ) → nat_eq m n ≡ false → m ≡ n → ⊥
differ m n e f = let h : m ≢ n = grind (arith, nat_tests) in h f

only : (bytes : List ℕ) (tokens others : List Token) → Gives (files_read (text bytes)) tokens → HasText (text bytes) others → tokens ≡ others
only bytes tokens others h t = one-list (files_read (text bytes)) tokens others h (text_is_spelled (text bytes) others t)

-- A name is the longest one, and no byte less
whole-name : HasText (text (codes "ab")) (name (codes "ab") 1 1 ∷ [])
unfolding keyword_rows symbol_rows directive_rows expanded
whole-name = spelled_has_text (text (codes "ab")) (name (codes "ab") 1 1 ∷ []) (refl, refl)

short-name : HasText (text (codes "ab")) (name (codes "a") 1 1 ∷ name (codes "b") 1 2 ∷ []) → ⊥
unfolding keyword_rows symbol_rows directive_rows expanded
short-name t =
    let e = only (codes "ab") (name (codes "ab") 1 1 ∷ []) (name (codes "a") 1 1 ∷ name (codes "b") 1 2 ∷ []) (refl, refl) t in
    differ 2 1 refl (ap size-of e)

-- A tab is one column
tabbed : HasText (text (9 ∷ 97 ∷ [])) (name (codes "a") 1 2 ∷ [])
unfolding keyword_rows symbol_rows directive_rows expanded
tabbed = spelled_has_text (text (9 ∷ 97 ∷ [])) (name (codes "a") 1 2 ∷ []) (refl, refl)

tab-of-eight : HasText (text (9 ∷ 97 ∷ [])) (name (codes "a") 1 9 ∷ []) → ⊥
unfolding keyword_rows symbol_rows directive_rows expanded
tab-of-eight t =
    let e = only (9 ∷ 97 ∷ []) (name (codes "a") 1 2 ∷ []) (name (codes "a") 1 9 ∷ []) (refl, refl) t in
    differ 2 9 refl (ap column-of e)

-- The token of a macro stands where the macro is used

at-the-use : HasText (text (codes "`define A x" ++ 10 ∷ codes "`A")) (name (codes "x") 2 1 ∷ [])
unfolding keyword_rows symbol_rows directive_rows expanded
at-the-use = spelled_has_text (text (codes "`define A x" ++ 10 ∷ codes "`A")) (name (codes "x") 2 1 ∷ []) (refl, refl)

at-the-text : HasText (text (codes "`define A x" ++ 10 ∷ codes "`A")) (name (codes "x") 1 11 ∷ []) → ⊥
unfolding keyword_rows symbol_rows directive_rows expanded
at-the-text t =
    let e = only (codes "`define A x" ++ 10 ∷ codes "`A") (name (codes "x") 2 1 ∷ []) (name (codes "x") 1 11 ∷ []) (refl, refl) t in
    differ 2 1 refl (ap line-of e)

-- Of a conditional one text is read
one-text : HasText (text (codes "`define A" ++ 10 ∷ codes "`ifdef A a `elsif A b `endif")) (name (codes "a") 2 10 ∷ [])
unfolding keyword_rows symbol_rows directive_rows expanded
one-text = spelled_has_text (text (codes "`define A" ++ 10 ∷ codes "`ifdef A a `elsif A b `endif")) (name (codes "a") 2 10 ∷ []) (refl, refl)

two-texts : HasText (text (codes "`define A" ++ 10 ∷ codes "`ifdef A a `elsif A b `endif")) (name (codes "a") 2 10 ∷ name (codes "b") 2 21 ∷ []) → ⊥
unfolding keyword_rows symbol_rows directive_rows expanded
two-texts t =
    let e = only (codes "`define A" ++ 10 ∷ codes "`ifdef A a `elsif A b `endif") (name (codes "a") 2 10 ∷ []) (name (codes "a") 2 10 ∷ name (codes "b") 2 21 ∷ []) (refl, refl) t in
    differ 1 2 refl (ap length e)

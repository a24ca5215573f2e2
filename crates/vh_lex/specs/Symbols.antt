-- The operators and symbols, and the longest of them with which bytes begin.
use Rattle.std.specs.Prelude.{ℕ, List, [], ◌∷◌, Option, codes, ◌==◌}
use Rattle.std.specs.List.{find, starts_with}
use Rattle.vh_lex.specs.declared.symbol.Symbol.{Symbol}
use Rattle.vh_lex.specs.declared.symbol.Symbol.TheVariants as symbol

-- A spelling and its symbol, a row for each, the longest first (IEEE 1364-2005, 3.4, Table 5-1 and Annex A)
unfoldable pub symbol_rows : List (List ℕ × Symbol)
symbol_rows =
    (codes "<<<", symbol.ArithmeticShiftLeft) ∷
    (codes ">>>", symbol.ArithmeticShiftRight) ∷
    (codes "===", symbol.CaseEqual) ∷
    (codes "!==", symbol.CaseUnequal) ∷
    (codes "==", symbol.LogicalEqual) ∷
    (codes "!=", symbol.LogicalUnequal) ∷
    (codes "&&", symbol.AndAnd) ∷
    (codes "||", symbol.OrOr) ∷
    (codes "~&", symbol.TildeAnd) ∷
    (codes "~|", symbol.TildeOr) ∷
    (codes "~^", symbol.TildeCaret) ∷
    (codes "^~", symbol.CaretTilde) ∷
    (codes "**", symbol.StarStar) ∷
    (codes "<<", symbol.ShiftLeft) ∷
    (codes ">>", symbol.ShiftRight) ∷
    (codes "<=", symbol.LessEqual) ∷
    (codes ">=", symbol.GreaterEqual) ∷
    (codes "->", symbol.Arrow) ∷
    (codes "+:", symbol.PlusColon) ∷
    (codes "-:", symbol.MinusColon) ∷
    (codes "(", symbol.LeftParen) ∷
    (codes ")", symbol.RightParen) ∷
    (codes "[", symbol.LeftBracket) ∷
    (codes "]", symbol.RightBracket) ∷
    (codes "{", symbol.LeftBrace) ∷
    (codes "}", symbol.RightBrace) ∷
    (codes ";", symbol.Semicolon) ∷
    (codes ",", symbol.Comma) ∷
    (codes ".", symbol.Dot) ∷
    (codes ":", symbol.Colon) ∷
    (codes "#", symbol.Hash) ∷
    (codes "@", symbol.At) ∷
    (codes "=", symbol.Equal) ∷
    (codes "+", symbol.Plus) ∷
    (codes "-", symbol.Minus) ∷
    (codes "*", symbol.Star) ∷
    (codes "/", symbol.Slash) ∷
    (codes "%", symbol.Percent) ∷
    (codes "!", symbol.Bang) ∷
    (codes "~", symbol.Tilde) ∷
    (codes "&", symbol.Ampersand) ∷
    (codes "|", symbol.Bar) ∷
    (codes "^", symbol.Caret) ∷
    (codes "<", symbol.Less) ∷
    (codes ">", symbol.Greater) ∷
    (codes "?", symbol.Question) ∷
    []

-- The longest symbol with which bytes begin, and how many bytes it has (3.4)
abbrev pub symbol_at : List ℕ → Option (List ℕ × Symbol)
symbol_at bytes = find (λ row. starts_with ◌==◌ bytes row.0) symbol_rows

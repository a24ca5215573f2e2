-- Pieces stand inside the bytes, and symbols of one byte (own).
use Rattle.std.specs.Prelude.{◌≡◌, ℕ, ◌≤◌, false, List}
use Rattle.vh_lex.specs.declared.symbol.Symbol.{Symbol}
use Rattle.vh_lex.specs.declared.token.Kind.TheVariants as kind
use Rattle.vh_lex.specs.declared.piece.Part.TheVariants.{Token}
use Rattle.vh_lex.specs.declared.piece.Piece.{Piece}
use Rattle.vh_lex.specs.declared.piece.Piece.TheVariants.{Blank, Kept, Fault}
use Rattle.vh_lex.specs.Bytes.{begins, is_line_end}
use Rattle.vh_lex.specs.Beginning.{beginning}

-- A piece has no more bytes than these, and a fault stands behind no more of them
abbrev pub IsInside : Piece → ℕ → Type 0
IsInside (Blank len) most = len ≤ most
IsInside (Kept part len) most = len ≤ most
IsInside (Fault fault at) most = at ≤ most

-- Bytes begin with this symbol, of one byte
pub record IsLone (symbol : Symbol) (bytes : List ℕ) : Type 0 where
  pub piece : beginning bytes ≡ Kept (Token (kind.Symbol symbol)) 1
  pub in_line : begins is_line_end bytes ≡ false

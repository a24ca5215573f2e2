-- What a macro's text spells, wherever it is used (IEEE 1364-2005, 19.3.1).
use Rattle.std.specs.Prelude.{◌≡◌, ℕ, suc, ◌+◌, false, List, [], ◌∷◌, ◌++◌, Option, Some, None, if◌then◌else◌, drop, bytes_eq, is_some}
use Rattle.vh_base.specs.declared.place.Place.{Place}
use Rattle.vh_lex.specs.declared.token.Kind.{Kind}
use Rattle.vh_lex.specs.declared.token.Kind.TheVariants as kind
use Rattle.vh_lex.specs.declared.token.Token.{Token}
use Rattle.vh_lex.specs.declared.setting.Setting.{Setting}
use Rattle.vh_lex.specs.declared.piece.Part.{Part}
use Rattle.vh_lex.specs.declared.piece.Part.TheVariants as part
use Rattle.vh_lex.specs.declared.piece.Piece.TheVariants.{Blank, Kept}
use Rattle.vh_lex.specs.Beginning.{beginning}
use Rattle.vh_lex.specs.Directives.{directive_of}

-- The macros are a finite map from names to texts.
abbrev pub Macros : Type 0
Macros = List ℕ → Option (List ℕ)

abbrev pub no_macros : Macros
no_macros name = None

-- One more, or one less (19.3.1, 19.3.2)
abbrev pub with_text : List ℕ → Option (List ℕ) → Macros → Macros
with_text name text macros other = if bytes_eq other name then text else macros other

-- The token that a piece is: `module` carries what the directives before it set
abbrev pub token_of : Setting → Part → Option Kind
token_of setting (part.Token kind) = Some kind
token_of setting part.Module = Some (kind.Module setting)
token_of setting (part.Use name) = None
token_of setting (part.Wrong fault) = None

-- The bytes of a text spell these tokens, each of them at the place of the outermost use, with so many uses in it, where so many
-- levels of uses may be open: piece by piece, each the longest one, and a use is what the other macro's text spells.
pub data Gives (macros : Macros) (setting : Setting) (place : Place) : ℕ → List ℕ → List Token → ℕ → Type 0 where
  nothing : {levels : ℕ} → Gives macros setting place levels [] [] 0
  -- white space, a comment or an attribute
  blank : {levels uses : ℕ} {bytes : List ℕ} {tokens : List Token} (len : ℕ) → beginning bytes ≡ Blank len
      → Gives macros setting place levels (drop len bytes) tokens uses → Gives macros setting place levels bytes tokens uses
  token : {levels uses : ℕ} {bytes : List ℕ} {tokens : List Token} (p : Part) (k : Kind) (len : ℕ) → beginning bytes ≡ Kept p len
      → token_of setting p ≡ Some k
      → Gives macros setting place levels (drop len bytes) tokens uses
      → Gives macros setting place levels bytes (record { kind = k; place = place } ∷ tokens) uses
  -- a directive's name is no macro in a text
  macro : {levels inner uses : ℕ} {bytes : List ℕ} {first tokens : List Token} (name text : List ℕ) (len : ℕ)
      → beginning bytes ≡ Kept (part.Use name) len → is_some (directive_of name) ≡ false → macros name ≡ Some text
      → Gives macros setting place levels text first inner
      → Gives macros setting place (suc levels) (drop len bytes) tokens uses
      → Gives macros setting place (suc levels) bytes (first ++ tokens) (1 + inner + uses)

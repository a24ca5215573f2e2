-- The laws of the text of files: its pieces are the bytes of the files, the tokens that the lexer gives are its tokens, and each token
-- is the longest one (IEEE 1364-2005, clauses 3 and 19).
use Rattle.std.specs.Prelude.{◌≡◌, ◌⊎◌, ℕ, ◌≤◌, Bool, false, List, [], ◌∷◌, ◌++◌, length}
use Rattle.vh_base.specs.declared.place.Place.{Place}
use Rattle.vh_base.specs.declared.faults.DesignFault.{DesignFault}
use Rattle.vh_lex.specs.declared.token.Token.{Token}
use Rattle.vh_lex.specs.declared.piece.Part.{Part}
use Rattle.vh_lex.specs.declared.piece.Piece.TheVariants.{Kept}
use Rattle.vh_lex.specs.Bytes.{begins_with}
use Rattle.vh_lex.specs.Beginning.{beginning}
use Rattle.vh_lex.specs.Lexed.{File, Spells, Refuses}
use Rattle.vh_lex.specs.SourceText.{At, Goes, Passes, If, Elsif, Else, Endif, HasText}
use Rattle.vh_lex.specs.Reached.{Stops}

-- The next bytes of a file are passed, one at least; or the file is, and the next one begins.
pub record Cuts (a c : At) : Type 0 where
  pub piece : List ℕ
  pub is_some : 1 ≤ length piece
  pub bytes : a.bytes ≡ piece ++ c.bytes
  pub passed : c.passed ≡ a.passed ++ piece
  pub file : c.file ≡ a.file
  pub files : c.files ≡ a.files

pub record Opens (a c : At) : Type 0 where
  pub next : File
  pub none_left : a.bytes ≡ []
  pub bytes : c.bytes ≡ next.bytes
  pub passed : c.passed ≡ []
  pub file : c.file ≡ next.number
  pub files : a.files ≡ next ∷ c.files

-- The pieces of a text, one after the other, are the bytes of its files.
pub record Covers : Type 0 where
  pub read : (a c : At) → Goes a c → Cuts a c ⊎ Opens a c
  pub skipped : (a c : At) → Passes a c → Cuts a c ⊎ Opens a c
  pub opens : (holds : Bool) (a c : At) → If holds a c → Cuts a c
  pub turns : (holds : Bool) (a c : At) → Elsif holds a c → Cuts a c
  pub else_ : (a c : At) → Else a c → Cuts a c
  pub closes : (a c : At) → Endif a c → Cuts a c

-- What files spell is the tokens of a text that they have,
abbrev pub SpelledHasText : Type 0
SpelledHasText = (files : List File) (tokens : List Token) → Spells files tokens → HasText files tokens

-- And the tokens of each text that they have are what they spell.
abbrev pub TextIsSpelled : Type 0
TextIsSpelled = (files : List File) (tokens : List Token) → HasText files tokens → Spells files tokens

-- Where a fault is answered, the files have a text up to a byte and none that goes further, and no piece goes on from there; its
-- place is that byte's, or that of a byte behind it. Or they are gone over, and a conditional is open.
abbrev pub FaultStops : Type 0
FaultStops = (files : List File) (fault : DesignFault) (place : Place) → Refuses files fault place → Stops files fault place

-- Where bytes begin with a token or a use, each front of them that holds it begins with it too: so it stands alone, and no longer
-- front of them is one. A `(` before a `*` is left out: `(*)` begins with `(`, and `(*` with nothing.
abbrev pub Longest : Type 0
Longest =
    (bytes more : List ℕ) (p : Part) (len : ℕ) → beginning (bytes ++ more) ≡ Kept p len → len ≤ length bytes
    → begins_with 40 42 (bytes ++ more) ≡ false
    → beginning bytes ≡ Kept p len

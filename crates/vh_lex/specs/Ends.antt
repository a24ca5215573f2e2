-- What the answers for files say of their text: they have one, with the tokens that were made, or it stops at the fault.
use Rattle.std.specs.Prelude.{◌≡◌, List, [], Result, Ok, Err}
use Rattle.vh_base.specs.declared.place.Place.{Place}
use Rattle.vh_base.specs.declared.faults.DesignFault.{DesignFault}
use Rattle.vh_lex.specs.declared.fault.LexFault.{LexFault}
use Rattle.vh_lex.specs.declared.fault.LexFault.TheVariants.{Refused, NoMemory}
use Rattle.vh_lex.specs.declared.token.Token.{Token}
use Rattle.vh_lex.specs.Lexed.{File, Lexed, reading, refused, exhausted, files_read}
use Rattle.vh_lex.specs.SourceText.{HasText}
use Rattle.vh_lex.specs.Reached.{Stops}

-- The tokens so far
abbrev pub tokens_of : Lexed → List Token
tokens_of (reading first s) = s.made.tokens
tokens_of (refused fault place) = []
tokens_of exhausted = []

-- The files have a text with these tokens, and no other tokens.
pub record IsText (files : List File) (tokens : List Token) : Type 0 where
  pub text : HasText files tokens
  pub one : (others : List Token) → HasText files others → tokens ≡ others

-- The files have no text: it stops at the fault.
pub record IsNoText (files : List File) (fault : DesignFault) (place : Place) : Type 0 where
  pub stops : Stops files fault place
  pub none : (tokens : List Token) → HasText files tokens → ⊥

-- What the answer at the end of the files says
abbrev pub EndsText : List File → List Token → Result (Unit {0}) LexFault → Type 0
EndsText files tokens (Ok done) = IsText files tokens
EndsText files tokens (Err (Refused fault place)) = IsNoText files fault place
EndsText files tokens (Err NoMemory) = Unit {0}

-- And the answer for a file, behind which others may come
abbrev pub StopsText : List File → Result (Unit {0}) LexFault → Type 0
StopsText files (Ok done) = Unit {0}
StopsText files (Err (Refused fault place)) = IsNoText files fault place
StopsText files (Err NoMemory) = Unit {0}

-- They say so of any files that come to this.
abbrev pub AnswersEnd : Lexed → Result (Unit {0}) LexFault → Type 0
AnswersEnd l result = (files : List File) → files_read files ≡ l → EndsText files (tokens_of l) result

abbrev pub AnswersFile : Lexed → Result (Unit {0}) LexFault → Type 0
AnswersFile l result = (files : List File) → files_read files ≡ l → StopsText files result

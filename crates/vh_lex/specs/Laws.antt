-- The laws of spelling, over all lists of files.
use Rattle.std.specs.Prelude.{◌≡◌, ◌⊎◌, List, ◌++◌}
use Rattle.vh_base.specs.declared.place.Place.{Place}
use Rattle.vh_base.specs.declared.faults.DesignFault.{DesignFault}
use Rattle.vh_lex.specs.declared.token.Token.{Token}
use Rattle.vh_lex.specs.Lexed.{File, refused, files_read, Refuses}

-- By what says which tokens files have (`Spells` of Lexed.antt and `HasText` of SourceText.antt):
module _ (Has : List File → List Token → Type 0) where
  -- files have at most one list of tokens;
  abbrev pub OneList : Type 0
  OneList = (files : List File) (tokens others : List Token) → Has files tokens → Has files others → tokens ≡ others

  -- they have tokens, or are refused with a fault at a place,
  abbrev pub TokensOrRefused : Type 0
  TokensOrRefused =
      (files : List File) → ((tokens : List Token) × Has files tokens) ⊎ ((fault : DesignFault) × ((place : Place) × Refuses files fault place))

  -- and never both.
  abbrev pub NeverBoth : Type 0
  NeverBoth = (files : List File) (tokens : List Token) (fault : DesignFault) (place : Place) → Has files tokens → Refuses files fault place → ⊥

-- A fault in the files so far stays the answer, whatever files follow.
abbrev pub FaultStays : Type 0
FaultStays =
    (files more : List File) (fault : DesignFault) (place : Place) → files_read files ≡ refused fault place
    → files_read (files ++ more) ≡ refused fault place

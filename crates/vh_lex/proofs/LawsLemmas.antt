-- The laws of spelling.
use Rattle.std.proofs.Common.{◌≡◌, ◌⊎◌, inl, inr, List, [], ◌∷◌, ◌++◌, Option, Some, None, Result, Ok, Err, slice_get, refl, ap, sym, ◌∙◌}
use Rattle.vh_base.specs.declared.place.Place.{Place}
use Rattle.vh_base.specs.declared.faults.DesignFault.{DesignFault}
use Rattle.vh_base.specs.declared.faults.DesignFault.TheVariants.{L2}
use Rattle.vh_lex.specs.declared.fault.LexFault.TheVariants.{Refused}
use Rattle.vh_lex.specs.declared.conditional.Conditional.{Conditional}
use Rattle.vh_lex.specs.declared.token.Token.{Token}
use Rattle.vh_lex.specs.State.{State, start_of}
use Rattle.vh_lex.specs.Spelling.{Stop, read}
use Rattle.vh_lex.specs.Lexed.{File, Lexed, reading, refused, exhausted, nothing_read, lexed_by, first_place, file_read, files_after, files_read, closed_by, end_of, IfReading, Spells}
use Rattle.vh_lex.specs.Laws.{OneList, TokensOrRefused, NeverBoth, FaultStays}

one-list : (l : Lexed) (tokens others : List Token) → end_of l ≡ Ok tt → IfReading l (λ first s. s.made.tokens ≡ tokens) → IfReading l (λ first s. s.made.tokens ≡ others) → tokens ≡ others
one-list (reading first s) tokens others e h k = sym h ∙ k
one-list (refused fault place) tokens others e h k = cc
one-list exhausted tokens others e h k = cc

pub one_list : OneList Spells
one_list files tokens others h k = one-list (files_read files) tokens others h.0 h.1 k.1

pub never_both : NeverBoth Spells
never_both files tokens fault place h k = let e = sym h.0 ∙ k in cc

-- Want of memory is no reading of files
abbrev pub IsKnown : Lexed → Type 0
IsKnown (reading first s) = Unit {0}
IsKnown (refused fault place) = Unit {0}
IsKnown exhausted = ⊥

known-by : (first : Place) (o : Result State Stop) → IsKnown (lexed_by first o)
known-by first (Ok s) = tt
known-by first (Err stop) = tt

known-file : (f : File) (l : Lexed) → IsKnown l → IsKnown (file_read f l)
known-file f (reading first s) h = known-by (first_place first f.number) (read f.bytes (record s { place = start_of f.number }))
known-file f (refused fault place) h = tt
known-file f exhausted h = h

pub known-files : (l : Lexed) (fs : List File) → IsKnown l → IsKnown (files_after l fs)
known-files l [] h = h
known-files l (f ∷ fs) h = known-files (file_read f l) fs (known-file f l h)

abbrev Ends : Lexed → Type 0
Ends l = ((tokens : List Token) × ((end_of l ≡ Ok tt) × IfReading l (λ first s. s.made.tokens ≡ tokens))) ⊎ ((fault : DesignFault) × ((place : Place) × (end_of l ≡ Err (Refused fault place))))

ends : (l : Lexed) → IsKnown l → Ends l
ends (reading first s) h = closed first s (slice_get s.conditionals 0) refl
  where
    closed : (first : Option Place) (s : State) (o : Option Conditional) → slice_get s.conditionals 0 ≡ o → Ends (reading first s)
    closed first s None e = inl (s.made.tokens, (ap closed_by e, refl))
    closed first s (Some c) e = inr (L2, (c.place, ap closed_by e))
ends (refused fault place) h = inr (fault, (place, refl))
ends exhausted h = absurd h

pub spelled_or_refused : TokensOrRefused Spells
spelled_or_refused files = ends (files_read files) (known-files nothing_read files tt)

refused-stays : (fault : DesignFault) (place : Place) (fs : List File) → files_after (refused fault place) fs ≡ refused fault place
refused-stays fault place [] = refl
refused-stays fault place (f ∷ fs) = refused-stays fault place fs

after-more : (l : Lexed) (fs gs : List File) → files_after l (fs ++ gs) ≡ files_after (files_after l fs) gs
after-more l [] gs = refl
after-more l (f ∷ fs) gs = after-more (file_read f l) fs gs

pub fault_stays : FaultStays
fault_stays files more fault place h = after-more nothing_read files more ∙ ap (λ (l : Lexed). files_after l more) h ∙ refused-stays fault place more

-- What the answers for files say of their text.
use Rattle.std.proofs.Common.{◌≡◌, List, Result, Ok, Err, refl, ap, sym, subst, ◌∙◌}
use Rattle.vh_base.specs.declared.place.Place.{Place}
use Rattle.vh_base.specs.declared.faults.DesignFault.{DesignFault}
use Rattle.vh_lex.specs.declared.fault.LexFault.{LexFault}
use Rattle.vh_lex.specs.declared.fault.LexFault.TheVariants.{Refused, NoMemory}
use Rattle.vh_lex.specs.Lexed.{File, Lexed, reading, refused, exhausted, answer_of, end_of, IfReading, Spells, Refuses}
use Rattle.vh_lex.specs.Ends.{tokens_of, IsNoText, AnswersEnd, AnswersFile}
use Rattle.vh_lex.proofs.ChainLemmas.{spelled_has_text, fault_stops}
use Rattle.vh_lex.proofs.CoverLemmas.{never_both}
use Rattle.vh_lex.proofs.ReachedLemmas.{one_text}

no-text : (files : List File) (fault : DesignFault) (place : Place) → Refuses files fault place → IsNoText files fault place
no-text files fault place h =
    record { stops = fault_stops files fault place h; none = λ tokens text. never_both files tokens fault place text h }

its-tokens : (l : Lexed) → IfReading l (λ first s. s.made.tokens ≡ tokens_of l)
its-tokens (reading first s) = refl
its-tokens (refused fault place) = tt
its-tokens exhausted = tt

pub answers-end : (l : Lexed) (result : Result (Unit {0}) LexFault) → result ≡ end_of l → AnswersEnd l result
answers-end l (Ok done) h files e =
    let spells : Spells files (tokens_of l) =
    (ap end_of e ∙ sym h, subst (λ (k : Lexed). IfReading k (λ first s. s.made.tokens ≡ tokens_of l)) (sym e) (its-tokens l)) in
    let text = spelled_has_text files (tokens_of l) spells in
    record { text = text; one = λ others other. one_text files (tokens_of l) others text other }
answers-end l (Err (Refused fault place)) h files e = no-text files fault place (ap end_of e ∙ sym h)
answers-end l (Err NoMemory) h files e = tt

-- Where the files so far are refused, they are so at their end
refused-end : (l : Lexed) (fault : DesignFault) (place : Place) → Err (Refused fault place) ≡ answer_of l → end_of l ≡ Err (Refused fault place)
refused-end (reading first s) fault place h = cc
refused-end (refused f p) fault place h = sym h
refused-end exhausted fault place h = cc

pub answers-file : (l : Lexed) (result : Result (Unit {0}) LexFault) → result ≡ answer_of l → AnswersFile l result
answers-file l (Ok done) h files e = tt
answers-file l (Err (Refused fault place)) h files e = no-text files fault place (ap end_of e ∙ refused-end l fault place h)
answers-file l (Err NoMemory) h files e = tt

-- What the files so far come to, and what tokens they spell.
use Rattle.std.specs.Prelude.{◌≡◌, ℕ, List, [], ◌∷◌, Option, Some, None, Result, Ok, Err, slice_get}
use Rattle.vh_base.specs.declared.place.Place.{Place}
use Rattle.vh_base.specs.declared.faults.DesignFault.{DesignFault}
use Rattle.vh_base.specs.declared.faults.DesignFault.TheVariants.{L2}
use Rattle.vh_lex.specs.declared.fault.LexFault.{LexFault}
use Rattle.vh_lex.specs.declared.fault.LexFault.TheVariants.{Refused, NoMemory}
use Rattle.vh_lex.specs.declared.token.Token.{Token}
use Rattle.vh_lex.specs.declared.conditional.Conditional.{Conditional}
use Rattle.vh_lex.specs.Gathered.{nothing_gathered}
use Rattle.vh_lex.specs.State.{State, first_setting, start_of}
use Rattle.vh_lex.specs.Spelling.{Stop, read}

-- A file: its number among the file words, and its bytes
pub record File : Type 0 where
  pub number : ℕ
  pub bytes : List ℕ

-- The files so far are read, the first of them beginning at the place, if there is one; or they are refused with a
-- fault at its place; or memory was refused (own).
pub data Lexed : Type 0 where
  reading : Option Place → State → Lexed
  refused : DesignFault → Place → Lexed
  exhausted : Lexed

-- How the code keeps it: whether it has stopped, where the first file begins, and the state
abbrev pub lexed_of : Option LexFault → Option Place → State → Lexed
lexed_of None first s = reading first s
lexed_of (Some (Refused fault place)) first s = refused fault place
lexed_of (Some NoMemory) first s = exhausted

-- The state before the first file: no macro is defined, and no conditional is open (IEEE 1364-2005, clause 19)
abbrev pub first_state : State
first_state = record { macros = []; made = nothing_gathered; conditionals = []; setting = first_setting; place = start_of 0 }

abbrev pub nothing_read : Lexed
nothing_read = reading None first_state

-- The place at which the first file begins
abbrev pub first_place : Option Place → ℕ → Place
first_place None number = start_of number
first_place (Some place) number = place

-- A file more, which goes on with what the directives of those before it set; after a fault that fault stays
abbrev pub lexed_by : Place → Result State Stop → Lexed
lexed_by first (Ok s) = reading (Some first) s
lexed_by first (Err stop) = refused stop.fault stop.place

abbrev pub file_read : File → Lexed → Lexed
file_read f (reading first s) = lexed_by (first_place first f.number) (read f.bytes (record s { place = start_of f.number }))
file_read f (refused fault place) = refused fault place
file_read f exhausted = exhausted

-- All files, in order
abbrev pub files_after : Lexed → List File → Lexed
files_after l [] = l
files_after l (f ∷ fs) = files_after (file_read f l) fs

abbrev pub files_read : List File → Lexed
files_read fs = files_after nothing_read fs

-- What is answered for the files so far
abbrev pub answer_of : Lexed → Result (Unit {0}) LexFault
answer_of (reading first s) = Ok tt
answer_of (refused fault place) = Err (Refused fault place)
answer_of exhausted = Err NoMemory

-- What is answered at the end of the last file: a conditional that is open is L2 where it begins, the outermost one (19.4; own)
abbrev pub closed_by : Option Conditional → Result (Unit {0}) LexFault
closed_by None = Ok tt
closed_by (Some c) = Err (Refused L2 c.place)

abbrev pub end_of : Lexed → Result (Unit {0}) LexFault
end_of (reading first s) = closed_by (slice_get s.conditionals 0)
end_of (refused fault place) = Err (Refused fault place)
end_of exhausted = Err NoMemory

-- What holds of the state that the files so far have led to
abbrev pub IfReading : Lexed → (Option Place → State → Type 0) → Type 0
IfReading (reading first s) holds = holds first s
IfReading (refused fault place) holds = Unit {0}
IfReading exhausted holds = Unit {0}

-- The files have been read up to here, and there is one
abbrev pub IsBegun : Lexed → Type 0
IsBegun (reading None s) = ⊥
IsBegun (reading (Some first) s) = Unit {0}
IsBegun (refused fault place) = ⊥
IsBegun exhausted = ⊥

-- The files spell these tokens: they are read to the end, no conditional is open there, and these are the tokens.
abbrev pub Spells : List File → List Token → Type 0
Spells fs tokens = (end_of (files_read fs) ≡ Ok tt) × IfReading (files_read fs) (λ first s. s.made.tokens ≡ tokens)

-- The files are refused with this fault at this place
abbrev pub Refuses : List File → DesignFault → Place → Type 0
Refuses fs fault place = end_of (files_read fs) ≡ Err (Refused fault place)

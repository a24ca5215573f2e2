-- What the code answers, against what the bytes come to: want of memory is the one free answer.
use Rattle.std.specs.Prelude.{◌≡◌, ℕ, List, Result, Ok, Err, take}
use Rattle.vh_base.specs.declared.place.Place.{Place}
use Rattle.vh_lex.specs.declared.fault.Halt.{Halt}
use Rattle.vh_lex.specs.declared.fault.Halt.TheVariants as halt
use Rattle.vh_lex.specs.declared.fault.Stop.{Stop as StopOf}
use Rattle.vh_lex.specs.declared.fault.Stop.TheVariants as stop
use Rattle.vh_lex.specs.declared.fault.LexFault.{LexFault}
use Rattle.vh_lex.specs.declared.fault.LexFault.TheVariants as lex
use Rattle.vh_lex.specs.Gathered.{Gathered}
use Rattle.vh_lex.specs.State.{State, moved}
use Rattle.vh_lex.specs.Directives.{Naming, Step}
use Rattle.vh_lex.specs.declared.name.Named.{Named as HeldNamed}
use Rattle.vh_lex.specs.Views.{named_seen}
use Rattle.vh_lex.specs.Spelling.{Making, Stop}

-- Parts come to what the code answers and leaves
abbrev pub Makes : Making → Result (Unit {0}) Halt → Gathered → Type 0
Makes o (Ok done) left = o ≡ Ok left
Makes o (Err (halt.Fault fault)) left = o ≡ Err fault
Makes o (Err halt.NoMemory) left = Unit {0}

-- A step comes to what the code answers and leaves
abbrev pub Went : Step → Result ℕ StopOf → State → Type 0
Went o (Ok len) left = o ≡ Ok (left, len)
Went o (Err (stop.Fault fault at)) left = o ≡ Err (fault, at)
Went o (Err stop.NoMemory) left = Unit {0}

-- Bytes come to what the code answers and leaves
abbrev pub Reads : Result State Stop → Result (Unit {0}) LexFault → State → Type 0
Reads o (Ok done) left = o ≡ Ok left
Reads o (Err (lex.Refused fault place)) left = o ≡ Err (record { fault = fault; place = place })
Reads o (Err lex.NoMemory) left = Unit {0}

-- A name is what the code finds
abbrev pub Finds : Naming → Result (ℕ × HeldNamed) StopOf → Type 0
Finds o (Ok found) = o ≡ Ok (found.0, named_seen found.1)
Finds o (Err (stop.Fault fault at)) = o ≡ Err (fault, at)
Finds o (Err stop.NoMemory) = Unit {0}

-- Parts of a macro come to what the code answers; of the state nothing else changes
abbrev pub Leaves : Making → Result (Unit {0}) Halt → State → State → Type 0
Leaves o (Ok done) s left = (o ≡ Ok left.made) × (left ≡ record s { made = left.made })
Leaves o (Err (halt.Fault fault)) s left = o ≡ Err fault
Leaves o (Err halt.NoMemory) s left = Unit {0}

-- How many bytes gave what was made, or the fault at the first of them
abbrev pub stop_of : ℕ → Result (Unit {0}) Halt → Result ℕ StopOf
stop_of len (Ok done) = Ok len
stop_of len (Err (halt.Fault fault)) = Err (stop.Fault fault 0)
stop_of len (Err halt.NoMemory) = Err stop.NoMemory

-- A fault where it stands, in bytes that begin at a place
abbrev pub fault_of : StopOf → Place → List ℕ → LexFault
fault_of (stop.Fault fault at) place bytes = lex.Refused fault (moved (take at bytes) place)
fault_of stop.NoMemory place bytes = lex.NoMemory

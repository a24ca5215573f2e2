-- The laws of processes: whom a `disable` stops and what becomes of everybody; no number is given twice; and what an assignment makes
-- of each digit. (IEEE 1364-2005, 5.2.1, 9.2, 9.8.2 and 10.3)
use Rattle.std.specs.Prelude.{◌≡◌, ℕ, ◌≤◌, ◌<◌, ℤ, ◌⊎◌, true, is_some, Option, Some, Ok, slice_index_or}
use Rattle.vh_base.specs.declared.orders.Object.{Object}
use Rattle.vh_logic.specs.declared.digits.Digit.TheVariants.{X}
use Rattle.vh_logic.specs.Vector.{Vector, width_of}
use Rattle.vh_proc_assign.specs.Pieces.{piece_at}
use Rattle.vh_design.specs.Shape.{Shape}
use Rattle.vh_proc_turn.specs.declared.process.Process.{Process}
use Rattle.vh_proc.specs.Disabled.{is_among, stopped}
use Rattle.vh_design_code.specs.declared.code.Goes.{Goes}
use Rattle.vh_sense.specs.Sensitivity.{Sensitivity, IsOpening, after_woken}
use Rattle.vh_proc.specs.Processes.{Processes, Step, World, opening, process_at, noted, arrived_in, scheduled}
use Rattle.vh_proc.specs.Steps.{step_of, before_disable, disabling}
use Rattle.vh_proc_laws.specs.Disable.{AreNumbered, WaitsRise, Ends, Leaves, Stops}
use Rattle.vh_proc_laws.specs.Digits.{taken, digit_behind}

-- One walk over the processes finds those that end and those that leave, and nobody else.
pub record FindsWhoStops (d : Shape) (target : ℕ) (ps : Processes) (p : ℕ) : Type 0 where
  pub ends : is_among (stopped d target ps).ends p ≡ true → Ends d target ps p
  pub all_ends : Ends d target ps p → is_among (stopped d target ps).ends p ≡ true
  pub leaves : is_among (stopped d target ps).leaves p ≡ true → Leaves d target ps p
  pub all_leaves : Leaves d target ps p → is_among (stopped d target ps).leaves p ≡ true

abbrev pub FindsAll : Type 0
FindsAll = (d : Shape) (target : ℕ) (ps : Processes) (p : ℕ) → AreNumbered ps → FindsWhoStops d target ps p

-- What the label of a `disable` does to them: those inside are found where it has arrived, and where it isn't inside itself it goes on.
abbrev pub DisableStops : Type 0
DisableStops =
    (d : Shape) (target p : ℕ) (goes : Goes) (w : World) (s : Step) → AreNumbered w.processes → WaitsRise w.sense
    → disabling d target p goes w ≡ Ok s
    → Stops d target (arrived_in d p w.processes)
    (scheduled (before_disable d target p goes (arrived_in d p w.processes)) w.sense w.queue)
    (scheduled s.world.processes s.world.sense s.world.queue)

-- The processes of a design stand so, and each label keeps that.
abbrev pub OpensNumbered : Type 0
OpensNumbered = (d : Shape) → AreNumbered (opening d)

abbrev pub KeepsNumbers : Type 0
KeepsNumbers = (d : Shape) (p : ℕ) (w : World) (s : Step) → AreNumbered w.processes → step_of d p w ≡ Ok s → AreNumbered s.world.processes

-- So does an entry that is noted between labels.
abbrev pub NotesNumbers : Type 0
NotesNumbers = (p serial : ℕ) (ps : Processes) → AreNumbered ps → AreNumbered (noted p serial ps)

-- Those that wait stand by rising numbers at the beginning, behind each label, and where a change has woken one.
abbrev pub OpensWaits : Type 0
OpensWaits = (d : Shape) (s : Sensitivity) → IsOpening d s → WaitsRise s

abbrev pub KeepsWaits : Type 0
KeepsWaits = (d : Shape) (p : ℕ) (w : World) (s : Step) → WaitsRise w.sense → step_of d p w ≡ Ok s → WaitsRise s.world.sense

abbrev pub WakesInOrder : Type 0
WakesInOrder = (p : Option ℕ) (s : Sensitivity) → WaitsRise s → WaitsRise (after_woken p s)

-- A process that is there behind a label was there before it, or has a number that none had.
abbrev pub GivesFreshNumbers : Type 0
GivesFreshNumbers = (d : Shape) (p q : ℕ) (t : Process) (w : World) (s : Step) → AreNumbered w.processes → step_of d p w ≡ Ok s
    → process_at q s.world.processes ≡ Some t → (is_some (process_at q w.processes) ≡ true) ⊎ (w.processes.next ≤ q)

-- No number comes back: the next one never falls.
abbrev pub NextNeverFalls : Type 0
NextNeverFalls = (d : Shape) (p : ℕ) (w : World) (s : Step) → AreNumbered w.processes → step_of d p w ≡ Ok s
    → w.processes.next ≤ s.world.processes.next

-- Each digit of an object that is assigned to, wherever the digits begin that are assigned.
abbrev pub AssignsDigits : Type 0
AssignsDigits = (o : Object) (old v : Vector) (position : ℤ) (i : ℕ) → i < width_of old
    → slice_index_or (taken (piece_at o (width_of old) v position) old).digits i X
    ≡ digit_behind v (slice_index_or old.digits i X) position i

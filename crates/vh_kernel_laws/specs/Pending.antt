-- What occurs is told in turn: each occurrence that a label makes stands on control until it is told, and above those that stood
-- before; none is told that no label made. (IEEE 1364-2005, 27.33; that one that nobody watches is passed over is own)
use Rattle.std.specs.Prelude.{◌≡◌, ℕ, List, [], ◌∷◌, ◌++◌, Option, Some, None, Result, Ok, Err, slice_get, ◌⊎◌}
use Rattle.vh_base.specs.declared.faults.Fault.{Fault}
use Rattle.vh_base.specs.declared.words.Reason.TheVariants as reason
use Rattle.vh_kernel.specs.declared.control.Control.{Control}
use Rattle.vh_kernel.specs.declared.control.Control.TheVariants as top
use Rattle.vh_kernel.specs.declared.label.Label.{Label}
use Rattle.vh_kernel.specs.declared.label.Label.TheVariants as label
use Rattle.vh_kernel.specs.declared.occurrence.Agendum.TheVariants as agendum
use Rattle.vh_kernel.specs.Occurrences.{Occurrence, occurrence_of, set_of, all_by}
use Rattle.vh_kernel.specs.Outcome.{Move}
use Rattle.vh_kernel.specs.State.{State, with_queue}
use Rattle.vh_kernel_laws.specs.Firing.{IsTelling}
use Rattle.vh_kernel_laws.specs.Paths.{end_of}
use Rattle.vh_proc_simulation.specs.Labels.{Came, Performed, performed, worked}
use Rattle.vh_queue.specs.declared.entry.Entry.{Entry}
use Rattle.vh_queue.specs.Events.{eligible, without}

-- The occurrences that are still to be told, the first of them first.
abbrev pub pendings_in : List Control → List Occurrence
pendings_in [] = []
pendings_in (top.Process p ∷ xs) = pendings_in xs
pendings_in (top.Pending o ∷ xs) = o ∷ pendings_in xs
pendings_in (top.Frame f ∷ xs) = pendings_in xs
pendings_in (top.Activation a ∷ xs) = pendings_in xs
pendings_in (top.Leave c ∷ xs) = pendings_in xs

abbrev pub pendings_of : State → List Occurrence
pendings_of s = pendings_in s.control

-- What occurs by a statement and by an entry of the queue: what they change, in that order.
abbrev pub statement_made : Result Performed (Option Fault) → List Occurrence
statement_made (Err f) = []
statement_made (Ok r) = all_by r.came.activity.design.objects r.came.made

abbrev pub entry_made : Result Came (Option Fault) → List Occurrence
entry_made (Err f) = []
entry_made (Ok c) = all_by c.activity.design.objects c.made

-- What a label makes occur, a row for each.
abbrev pub Makes : State → Label → List Occurrence → Type 0
Makes s (label.Startup k) made = made ≡ []
Makes s (label.Do who order answer) made = made ≡ []
Makes s (label.Pass who) made = made ≡ []
Makes s (label.Ret who) made = made ≡ []
Makes s (label.Occ n reason object) made = made ≡ []
Makes s (label.Fire n c) made = made ≡ []
Makes s (label.Done n) made = made ≡ []
Makes s (label.Activate region) made = made ≡ []
Makes s (label.Advance time) made = made ≡ []
-- the changes of the entry that is picked
Makes s (label.Pick n shown) made =
    (k : ℕ) × (e : Entry) × (slice_get (eligible s.world.activity.queue) k ≡ Some e) × (e.serial ≡ n)
    × (made ≡ entry_made (worked e.work (with_queue (without n s.world.activity.queue) s).world.activity))
-- those of the statement
Makes s (label.Stmt p shown) made = made ≡ statement_made (performed p s.world.activity)
-- and the end of simulation
Makes s (label.Finish cause) made = made ≡ occurrence_of reason.CbEndOfSimulation ∷ []
Makes s (label.End ending) made = made ≡ []

-- What of those that were pending a label leaves so, a row for each.
abbrev pub Leaves : State → Label → State → List Occurrence → Type 0
Leaves s (label.Startup k) t rest = rest ≡ pendings_of s
Leaves s (label.Do who order answer) t rest = rest ≡ pendings_of s
Leaves s (label.Pass who) t rest = rest ≡ pendings_of s
Leaves s (label.Ret who) t rest = rest ≡ pendings_of s
-- the first is told, or with nothing on control that which is next on the agenda
Leaves s (label.Occ n reason object) t rest =
    ((what : Occurrence) × IsTelling (label.Occ n reason object, t) n what × (pendings_of s ≡ what ∷ rest))
    ⊎ ((s.control ≡ []) × (slice_get s.agenda 0 ≡ Some (agendum.Occurrence reason)) × (object ≡ None) × (rest ≡ []))
Leaves s (label.Fire n c) t rest = rest ≡ pendings_of s
Leaves s (label.Done n) t rest = rest ≡ pendings_of s
Leaves s (label.Activate region) t rest = rest ≡ pendings_of s
Leaves s (label.Advance time) t rest = rest ≡ pendings_of s
Leaves s (label.Pick n shown) t rest = rest ≡ pendings_of s
Leaves s (label.Stmt p shown) t rest = rest ≡ pendings_of s
-- a finish empties control
Leaves s (label.Finish cause) t rest = rest ≡ []
Leaves s (label.End ending) t rest = rest ≡ pendings_of s

-- After a label those that it made are pending, and then those that were; but for the first of them that nobody watches.
pub record KeepsPending (s : State) (m : Move) : Type 0 where
  pub made : List Occurrence
  pub rest : List Occurrence
  pub passed : List Occurrence
  pub makes : Makes s m.0 made
  pub leaves : Leaves s m.0 m.1 rest
  pub in_order : made ++ rest ≡ passed ++ pendings_of m.1
  pub unwatched : (i : ℕ) (o : Occurrence) → slice_get passed i ≡ Some o → set_of o m.1.world.callbacks ≡ []

abbrev pub TellsInTurn : State → List Move → Type 0
TellsInTurn s moves =
    (before behind : List Move) (m : Move) → moves ≡ before ++ m ∷ behind → KeepsPending (end_of s before) m

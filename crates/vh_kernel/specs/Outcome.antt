-- What a row of a table comes to: statements, work, occurrences and orders have one kind of outcome. (own)
use Rattle.std.specs.Prelude.{ℕ, List, [], ◌++◌, map, Option, None, Result, Ok, Err}
use Rattle.vh_base.specs.declared.faults.Fault.{Fault}
use Rattle.vh_orders.specs.declared.phase.Ending.{Ending}
use Rattle.vh_orders.specs.declared.phase.Ending.TheVariants as ending
use Rattle.vh_kernel.specs.declared.label.Label.{Label}
use Rattle.vh_kernel.specs.declared.label.Label.TheVariants as label
use Rattle.vh_orders.specs.declared.phase.Phase.TheVariants as phase
use Rattle.vh_kernel.specs.declared.control.Control.TheVariants as top
use Rattle.vh_kernel.specs.Occurrences.{Occurrence}
use Rattle.vh_kernel.specs.State.{State, with_activity, with_phase}
use Rattle.vh_proc_simulation.specs.Activity.{stopped}

-- The text that was shown, if one was; the occurrences that were made, in their order; and the state.
pub record Made : Type 0 where
  pub shown : Option (List ℕ)
  pub occurrences : List Occurrence
  pub state : State

-- That, or the fault where a number of the machine would be exceeded.
abbrev pub Outcome : Type 0
Outcome = Result Made Fault

-- Nothing is shown and nothing has occurred.
abbrev pub silently : State → Outcome
silently s = Ok (record { shown = None; occurrences = []; state = s })

-- A label and the state after it.
abbrev pub Move : Type 0
Move = Label × State

-- The run is over; nothing else changes.
abbrev pub end_move : Ending → State → Move
end_move e s = (label.End e, with_phase (phase.Ended e) s)

-- In place of a label that would exceed a number the run ends with that fault, and nothing is left of the simulation
-- but its design and the time.
abbrev pub fault_move : Fault → State → Move
fault_move f s = end_move (ending.Fault f) (with_activity (stopped s.world.activity) s)

-- The state with its occurrences pending, the first of them on top.
abbrev pub after_made : Made → State
after_made m = record m.state { control = map top.Pending m.occurrences ++ m.state.control }

-- The label of an outcome, by what was shown, and the state after it.
abbrev pub move_of : (Option (List ℕ) → Label) → State → Outcome → Move
move_of l before (Ok m) = (l m.shown, after_made m)
move_of l before (Err f) = fault_move f before

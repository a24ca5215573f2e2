-- One turn of a run: a step by a choice, and its line offered to the sink.
use Rattle.std.specs.Prelude.{◌≡◌, ◌<◌, ℕ, List, false, Option, Some, None, ◌⊎◌}
use Rattle.vh_base.specs.Outside.{appended, AppendsFront}
use Rattle.vh_orders.specs.declared.phase.Ending.{Ending}
use Rattle.vh_orders.specs.declared.phase.Ending.TheVariants as ending
use Rattle.vh_kernel.specs.declared.label.Label.{Label}
use Rattle.vh_kernel.specs.declared.label.Label.TheVariants as label
use Rattle.vh_kernel.specs.State.{State}
use Rattle.vh_kernel.specs.Outcome.{Move}
use Rattle.vh_kernel.specs.Step.{IsStep, is_end, choices_of}
use Rattle.vh_kernel.specs.Run.{line_of_move}
use Rattle.vh_host.specs.declared.status.Status.{Status}
use Rattle.vh_host.specs.declared.status.Status.TheVariants as status

-- The status that an end gives.
abbrev pub status_of_end : Ending → Status
status_of_end (ending.Cause c) = status.Done c
status_of_end (ending.Fault f) = status.RunFault f

-- The status with which a label ends the run, if it does.
abbrev pub status_after : Label → Option Status
status_after (label.Startup k) = None
status_after (label.Do who order answer) = None
status_after (label.Pass who) = None
status_after (label.Ret who) = None
status_after (label.Occ n reason object) = None
status_after (label.Fire n c) = None
status_after (label.Done n) = None
status_after (label.Activate region) = None
status_after (label.Advance time) = None
status_after (label.Pick serial shown) = None
status_after (label.Stmt process shown) = None
status_after (label.Finish cause) = None
status_after (label.End e) = Some (status_of_end e)

-- The turn's label, and the whole of its line.
abbrev pub TurnsTo : ℕ → Label → State → State → Option (List ℕ) → Option (List ℕ) → Type 0
TurnsTo k l s t old new = IsStep s k (l, t) × (new ≡ appended old (line_of_move (l, t)))

-- The turn wrote a front of its label's line.
abbrev pub IsCut : ℕ → State → Option (List ℕ) → Option (List ℕ) → Type 0
IsCut k s old new = (m : Move) × IsStep s k m × AppendsFront old new (line_of_move m)

-- By what a turn answers: it goes on, or the run is over, or a front of the line was written.
abbrev pub Turned : ℕ → Option Status → State → State → Option (List ℕ) → Option (List ℕ) → Type 0
Turned k None s t old new = (l : Label) × TurnsTo k l s t old new × (is_end l ≡ false) × (0 < choices_of t)
Turned k (Some (status.Done c)) s t old new = TurnsTo k (label.End (ending.Cause c)) s t old new
Turned k (Some (status.RunFault f)) s t old new = TurnsTo k (label.End (ending.Fault f)) s t old new
Turned k (Some status.WriteFault) s t old new = IsCut k s old new
-- Memory was refused before the label was made, or with its line
Turned k (Some status.NoMemory) s t old new = (new ≡ old) ⊎ IsCut k s old new
Turned k (Some status.Usage) s t old new = ⊥
Turned k (Some (status.ReadFault n)) s t old new = ⊥
Turned k (Some (status.TooLong n)) s t old new = ⊥
Turned k (Some (status.DesignRefused f p)) s t old new = ⊥
Turned k (Some (status.AppRefused n f p)) s t old new = ⊥
Turned k (Some status.BudgetSpent) s t old new = ⊥

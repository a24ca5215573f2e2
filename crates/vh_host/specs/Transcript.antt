-- What is written of a run, by the status that the call answers.
use Rattle.std.specs.Prelude.{◌≡◌, ℕ, ◌≤◌, ◌++◌, List, [], ◌∷◌, length, take, Bool, true, not}
use Rattle.std.specs.List.{list_all}
use Rattle.vh_app.specs.Script.{ScriptData}
use Rattle.vh_design.specs.Shape.{Shape}
use Rattle.vh_orders.specs.declared.phase.Ending.{Ending}
use Rattle.vh_orders.specs.declared.phase.Ending.TheVariants as ending
use Rattle.vh_kernel.specs.declared.label.Label.TheVariants as label
use Rattle.vh_kernel.specs.State.{State}
use Rattle.vh_kernel.specs.Outcome.{Move}
use Rattle.vh_kernel.specs.Step.{is_end}
use Rattle.vh_kernel_choice.specs.declared.chooser.Chooser.{Chooser}
use Rattle.vh_kernel.specs.Run.{IsRun, moves_of, text_of}
use Rattle.vh_kernel.specs.Settle.{Opens}
use Rattle.vh_kernel_laws.specs.Laws.{KeepsLaws}
use Rattle.vh_host.specs.declared.status.Status.{Status}
use Rattle.vh_host.specs.declared.status.Status.TheVariants as status

-- No label of a list is an end.
abbrev pub none_ends : List Move → Bool
none_ends moves = list_all (λ m. not (is_end m.0)) moves

-- All labels of a list but the last.
abbrev pub but_last : List Move → List Move
but_last [] = []
but_last (m ∷ []) = []
but_last (m ∷ n ∷ moves) = m ∷ but_last (n ∷ moves)

-- The last label is that end, and the whole text of the labels was written.
pub record WroteEnded (moves : List Move) (e : Ending) (written : List ℕ) : Type 0 where
  pub before : List Move
  pub last : State
  pub ends : moves ≡ before ++ (label.End e, last) ∷ []
  pub whole : written ≡ text_of moves

-- There are as many labels as the budget, no end among them, and their whole text was written.
pub record WroteBudget (budget : ℕ) (moves : List Move) (written : List ℕ) : Type 0 where
  pub spent : length moves ≡ budget
  pub no_end : none_ends moves ≡ true
  pub whole : written ≡ text_of moves

-- A front of the text of the labels was written, with the whole text of all of them but the last.
pub record WroteFront (moves : List Move) (written : List ℕ) : Type 0 where
  pub part : ℕ
  pub front : written ≡ take part (text_of moves)
  pub but_last_line : length (text_of (but_last moves)) ≤ length written

-- What was written of the text of these labels, by the status: a row for each.
abbrev pub WroteOf : ℕ → List Move → Status → List ℕ → Type 0
WroteOf budget moves (status.Done cause) written = WroteEnded moves (ending.Cause cause) written
WroteOf budget moves (status.RunFault fault) written = WroteEnded moves (ending.Fault fault) written
WroteOf budget moves status.BudgetSpent written = WroteBudget budget moves written
WroteOf budget moves status.WriteFault written = WroteFront moves written
WroteOf budget moves status.NoMemory written = WroteFront moves written
-- The source failed before the run began
WroteOf budget moves (status.ReadFault n) written = (moves ≡ []) × (written ≡ [])
-- An accepted input isn't refused
WroteOf budget moves status.Usage written = ⊥
WroteOf budget moves (status.TooLong n) written = ⊥
WroteOf budget moves (status.DesignRefused f p) written = ⊥
WroteOf budget moves (status.AppRefused n f p) written = ⊥

-- Labels of one run from a state under an order, no more than the budget, which keep the laws; and
-- what was written is of their text.
pub record Wrote (chooser : Chooser) (budget : ℕ) (s : State) (st : Status) (written : List ℕ) : Type 0 where
  pub moves : List Move
  pub run : IsRun chooser s moves
  pub laws : KeepsLaws s moves
  pub in_budget : length moves ≤ budget
  pub text : WroteOf budget moves st written

-- The same of a run of a design with its scripts, which begins at the opening: at time 0, with every digit of every
-- variable x, the processes to be evaluated and the startups of the scripts before them. (11.4)
pub record WroteFromOpening (chooser : Chooser) (budget : ℕ) (d : Shape) (scripts : List ScriptData)
    (st : Status) (written : List ℕ) : Type 0 where
  pub opening : State
  pub opens : Opens d scripts opening
  pub wrote : Wrote chooser budget opening st written

-- The text is that of the labels of such a run, of so many at most.
pub record IsTextFromOpening (chooser : Chooser) (budget : ℕ) (d : Shape) (scripts : List ScriptData)
    (text : List ℕ) : Type 0 where
  pub opening : State
  pub opens : Opens d scripts opening
  pub is : text ≡ text_of (moves_of chooser budget opening)

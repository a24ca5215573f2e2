-- Runs of the machine under a chosen order, and their text.
use Rattle.std.specs.Prelude.{◌≡◌, ℕ, zero, suc, List, [], ◌∷◌, map, true, if◌then◌else◌, unwrap_or}
use Rattle.std.specs.List.{flat_map}
use Rattle.vh_kernel_choice.specs.declared.chooser.Chooser.{Chooser}
use Rattle.vh_kernel_choice.specs.Choices.{chosen, chooser_after}
use Rattle.vh_kernel.specs.declared.label.Label.{Label}
use Rattle.vh_kernel.specs.declared.label.Label.TheVariants as label
use Rattle.vh_base.specs.declared.orders.Answer.{Answer}
use Rattle.vh_base.specs.declared.orders.Answer.TheVariants as answer
use Rattle.vh_kernel.specs.Line.{line_at}
use Rattle.vh_kernel.specs.State.{State}
use Rattle.vh_orders.specs.Orders.{Given}
use Rattle.vh_kernel.specs.Outcome.{Move}
use Rattle.vh_kernel.specs.Step.{IsStep, next_given, step_of, choices_of, is_end}

-- A step that the order of choice takes; a new handle gets any number that was never given.
abbrev pub IsMove : Chooser → State → Move → Type 0
IsMove order s m = IsStep s (chosen order (choices_of s)) m

-- From the state the machine makes these labels, each with the state after it, under the order of
-- choice, and nothing follows an end.
abbrev pub IsRun : Chooser → State → List Move → Type 0
IsRun order s [] = Unit {0}
IsRun order s (m ∷ moves) =
    IsMove order s m × (is_end m.0 ≡ true → moves ≡ []) × IsRun (chooser_after order (choices_of s)) m.1 moves

-- The step that the order of choice takes, with what is given.
abbrev pub move_from : Chooser → State → Given → Move
move_from order s g = step_of s (chosen order (choices_of s)) g

-- The labels that the machine makes from the state up to its end, with what is given to each in the list.
abbrev pub moves_with : Chooser → List Given → State → List Move
moves_with order [] s = []
moves_with order (g ∷ gs) s = move_from order s g
    ∷ (if is_end (move_from order s g).0 then [] else moves_with (chooser_after order (choices_of s)) gs (move_from order s g).1)

-- The labels that the machine makes from the state, so many at most, up to its end, where each new handle
-- gets the count of those given before it.
abbrev pub next_move : Chooser → State → Move
next_move order s = move_from order s (next_given s)

abbrev pub moves_of : Chooser → ℕ → State → List Move
moves_of order zero s = []
moves_of order (suc n) s =
    next_move order s
    ∷ (if is_end (next_move order s).0 then [] else moves_of (chooser_after order (choices_of s)) n (next_move order s).1)

-- The line of a label, at the time after it, or nothing for a silent one.
abbrev pub line_of_move : Move → List ℕ
line_of_move m = unwrap_or (line_at m.1 m.0) []

-- The text of a run: the lines of its labels in order.
abbrev pub text_of : List Move → List ℕ
text_of moves = flat_map line_of_move moves

-- What was given to a label: the number of the handle that it gives, if it gives one, else 0.
abbrev pub handle_in : Answer → ℕ
handle_in answer.Done = 0
handle_in answer.Null = 0
handle_in (answer.Handle h) = h
handle_in (answer.Number n) = 0
handle_in (answer.Text text) = 0
handle_in (answer.Refused code) = 0

abbrev pub given_in : Label → Given
given_in (label.Startup k) = record { handle = 0 }
given_in (label.Do who order answer) = record { handle = handle_in answer }
given_in (label.Pass who) = record { handle = 0 }
given_in (label.Ret who) = record { handle = 0 }
given_in (label.Occ n reason object) = record { handle = 0 }
given_in (label.Fire n c) = record { handle = 0 }
given_in (label.Done n) = record { handle = 0 }
given_in (label.Activate region) = record { handle = 0 }
given_in (label.Advance time) = record { handle = 0 }
given_in (label.Pick serial shown) = record { handle = 0 }
given_in (label.Stmt process shown) = record { handle = 0 }
given_in (label.Finish cause) = record { handle = 0 }
given_in (label.End ending) = record { handle = 0 }

abbrev pub all_given : List Move → List Given
all_given moves = map (λ m. given_in m.0) moves

-- No run can be picked afterwards to fit other bytes: but for the numbers of handles, which are printed
-- where they are given, a run is the one list of labels.
abbrev pub OneRun : Type 0
OneRun =
    (order : Chooser) (s : State) (moves : List Move)
    → IsRun order s moves → moves ≡ moves_with order (all_given moves) s

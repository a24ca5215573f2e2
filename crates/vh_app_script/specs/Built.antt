-- What the program performs today. A routine and a reason that aren't among these are as unknown ones.
-- What is built later gets a row here, and stands in no other place.
use Rattle.std.specs.Prelude.{Bool, false, List, [], ◌∷◌}
use Rattle.vh_base.specs.declared.words.Reason.{Reason}
use Rattle.vh_base.specs.declared.words.Reason.TheVariants as reason
use Rattle.vh_app_lines.specs.declared.routine.Routine.{Routine}
use Rattle.vh_app_lines.specs.declared.routine.Routine.TheVariants as routine

-- The routines (own).
abbrev pub built_routines : List Routine
built_routines =
    routine.ByName ∷ routine.ByIndex ∷ routine.Handle ∷ routine.Free ∷ routine.Compare ∷ routine.Get ∷ routine.GetStr ∷
    routine.GetTime ∷ routine.Register ∷ routine.Remove ∷ routine.CbInfo ∷ routine.ChkError ∷ routine.Print ∷ []

-- The reasons (own).
abbrev pub built_reasons : List Reason
built_reasons =
    reason.CbValueChange ∷ reason.CbEndOfCompile ∷ reason.CbStartOfSimulation ∷
    reason.CbEndOfSimulation ∷ []

-- Whether a callback may call a native (own).
abbrev pub natives_are_built : Bool
natives_are_built = false

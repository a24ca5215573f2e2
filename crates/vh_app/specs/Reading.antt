-- What the bytes of a script are.
use Rattle.std.specs.Prelude.{◌≡◌, ℕ, List, Result, Ok, Err}
use Rattle.vh_base.specs.declared.faults.AppFault.{AppFault}
use Rattle.vh_base.specs.declared.place.Place.{Place}
use Rattle.vh_app_script.specs.Answers.{script_of}
use Rattle.vh_app_script.specs.Tree.{App}
use Rattle.vh_app.specs.Layout.{script_laid}
use Rattle.vh_app.specs.Script.{ScriptData}

abbrev pub laid_or : Result App (AppFault × Place) → Result ScriptData (AppFault × Place)
laid_or (Ok a) = Ok (script_laid a)
laid_or (Err why) = Err why

-- The script that the bytes are, the scripts of these names standing before it; or its first fault, `A1` to
-- `A5`, and where that stands (own).
abbrev pub app_of : List ℕ → List (List ℕ) → Result ScriptData (AppFault × Place)
app_of bytes earlier = laid_or (script_of bytes earlier)

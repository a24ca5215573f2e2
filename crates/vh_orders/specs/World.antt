-- The world of applications: what their orders read and change. (IEEE 1364-2005, clause 26)
use Rattle.std.specs.Prelude.{ℕ, List, Option}
use Rattle.vh_app.specs.Script.{ScriptData}
use Rattle.vh_base.specs.declared.orders.Answer.{Answer}
use Rattle.vh_base.specs.declared.words.Code.{Code}
use Rattle.vh_callbacks.specs.Callbacks.{Callbacks}
use Rattle.vh_handles.specs.Handles.{Handles}
use Rattle.vh_orders.specs.declared.names.Named.{Named}
use Rattle.vh_orders.specs.declared.phase.Phase.{Phase}
use Rattle.vh_orders.specs.declared.who.Body.{Body}
use Rattle.vh_proc_simulation.specs.Activity.{Activity}

-- The design as it is simulated, with the event queue and the present time; its objects by number, with their full names
-- and kinds, and the scripts, which no order changes; the variables of each script; the callbacks; for each frame that
-- stands, the top first, the callbacks that are still to fire for it; the handles; the error of the last order; and whether
-- the run goes on.
pub record World : Type 0 where
  pub activity : Activity
  pub names : List Named
  pub scripts : List ScriptData
  pub variables : List (List Answer)
  pub callbacks : Callbacks Body
  pub frames : List (List ℕ)
  pub handles : Handles
  pub error : Option Code
  pub phase : Phase

-- The machine's state. (IEEE 1364-2005, clause 11)
use Rattle.std.specs.Prelude.{◌≡◌, ℕ, zero, suc, ◌+◌, ◌++◌, List, [], ◌∷◌, map, length, drop, None}
use Rattle.vh_base.specs.declared.orders.Answer.{Answer}
use Rattle.vh_base.specs.declared.words.Reason.TheVariants as reason
use Rattle.vh_app.specs.Next.{no_answers}
use Rattle.vh_app.specs.Script.{ScriptData}
use Rattle.vh_callbacks.specs.Callbacks.{opening as no_callbacks}
use Rattle.vh_kernel.specs.declared.occurrence.Agendum.{Agendum}
use Rattle.vh_kernel.specs.declared.occurrence.Agendum.TheVariants as agendum
use Rattle.vh_orders.specs.declared.phase.Phase.{Phase}
use Rattle.vh_orders.specs.declared.phase.Phase.TheVariants as phase
use Rattle.vh_kernel.specs.declared.control.Control.{Control}
use Rattle.vh_design.specs.Shape.{Shape}
use Rattle.vh_queue.specs.Events.{Events}
use Rattle.vh_proc_simulation.specs.Activity.{Activity, IsOpening as IsOpeningActivity}
use Rattle.vh_handles.specs.Handles.{no_handles}
use Rattle.vh_orders.specs.Names.{full_names}
use Rattle.vh_orders.specs.World.{World}

-- The world; control, a stack with its top first; the agenda; and the number of the next occurrence.
pub record State : Type 0 where
  pub world : World
  pub control : List Control
  pub agenda : List Agendum
  pub occurrence : ℕ

-- The startups of so many scripts, by number from this one on.
abbrev pub startups : ℕ → ℕ → List Agendum
startups k zero = []
startups k (suc n) = agendum.Startup k ∷ startups (k + 1) n

-- The agenda at the opening: the startup of each script in word order, the end of compilation and the
-- start of simulation. (27.33)
abbrev pub opening_agenda : List ScriptData → List Agendum
opening_agenda scripts =
    startups 1 (length scripts)
    ++ agendum.Occurrence reason.CbEndOfCompile ∷ agendum.Occurrence reason.CbStartOfSimulation ∷ []

-- The world before all, with the design as it opens: every variable is null, no callback is live, no frame stands, no handle
-- was given.
abbrev pub world_before : Shape → List ScriptData → Activity → World
world_before d scripts a = record {
  activity = a;
  names = full_names d;
  scripts = scripts;
  variables = map no_answers scripts;
  callbacks = no_callbacks;
  frames = [];
  handles = no_handles;
  error = None;
  phase = phase.Running;
}

-- The state before all: the design is before all, and nothing is on control.
pub record IsBeforeAll (d : Shape) (scripts : List ScriptData) (s : State) : Type 0 where
  pub world : s.world ≡ world_before d scripts s.world.activity
  pub activity : IsOpeningActivity d s.world.activity
  pub control : s.control ≡ []
  pub agenda : s.agenda ≡ opening_agenda scripts
  pub occurrence : s.occurrence ≡ 1

-- The design as it is simulated is another, and the phase.
abbrev pub with_activity : Activity → State → State
with_activity a s = record s { world = record s.world { activity = a } }

abbrev pub with_phase : Phase → State → State
with_phase p s = record s { world = record s.world { phase = p } }

-- The frames that stand have other sets.
abbrev pub with_frames : List (List ℕ) → State → State
with_frames frames s = record s { world = record s.world { frames = frames } }

-- The variables of the scripts are others.
abbrev pub with_variables : List (List Answer) → State → State
with_variables variables s = record s { world = record s.world { variables = variables } }

-- Something is put on top of control, and the top is taken off.
abbrev pub with_top : Control → State → State
with_top c s = record s { control = c ∷ s.control }

abbrev pub without_top : State → State
without_top s = record s { control = drop 1 s.control }

-- The agenda goes on.
abbrev pub without_item : State → State
without_item s = record s { agenda = drop 1 s.agenda }

-- The event queue is another.
abbrev pub with_queue : Events → State → State
with_queue q s = with_activity (record s.world.activity { queue = q }) s

-- What is dropped before the next label: an occurrence that no callback watches takes none.
-- (IEEE 1364-2005, 27.33; that it takes no label is own)
use Rattle.std.specs.Prelude.{◌≡◌, List, [], ◌∷◌, Bool, false, if◌then◌else◌, is_some, slice_get}
use Rattle.vh_design.specs.Shape.{Shape}
use Rattle.vh_app.specs.Script.{ScriptData}
use Rattle.vh_callbacks.specs.Callbacks.{Callbacks}
use Rattle.vh_orders.specs.declared.who.Body.{Body}
use Rattle.vh_kernel.specs.declared.occurrence.Agendum.{Agendum}
use Rattle.vh_kernel.specs.declared.occurrence.Agendum.TheVariants as agendum
use Rattle.vh_kernel.specs.declared.control.Control.{Control}
use Rattle.vh_kernel.specs.declared.control.Control.TheVariants as top
use Rattle.vh_kernel.specs.Occurrences.{occurrence_of, set_of, is_empty}
use Rattle.vh_kernel.specs.State.{State, IsBeforeAll}

-- Does no callback watch what is on control? Only a pending occurrence can be void.
abbrev pub is_void : Callbacks Body → Control → Bool
is_void c (top.Process p) = false
is_void c (top.Pending o) = is_empty (set_of o c)
is_void c (top.Frame f) = false
is_void c (top.Activation a) = false
is_void c (top.Leave cause) = false

-- The same of the agenda.
abbrev pub is_void_item : Callbacks Body → Agendum → Bool
is_void_item c (agendum.Startup k) = false
is_void_item c (agendum.Occurrence r) = is_empty (set_of (occurrence_of r) c)

-- Is the first of a list so?
abbrev pub first_is : {X : Type 0} → (X → Bool) → List X → Bool
first_is so [] = false
first_is so (x ∷ xs) = so x

-- A list without those at its front that are so.
abbrev pub without_front : {X : Type 0} → (X → Bool) → List X → List X
without_front so [] = []
without_front so (x ∷ xs) = if so x then without_front so xs else x ∷ xs

-- The state before the next label: control without void occurrences on top, and where nothing is left
-- on it, the agenda without those at its front.
abbrev pub settled_control : State → List Control
settled_control s = without_front (is_void s.world.callbacks) s.control

abbrev pub settled : State → State
settled s = record s {
  control = settled_control s;
  agenda = if is_some (slice_get (settled_control s) 0) then s.agenda else without_front (is_void_item s.world.callbacks) s.agenda;
}

-- The state at the opening of a design with its scripts: that before all, settled.
pub record Opens (d : Shape) (scripts : List ScriptData) (s : State) : Type 0 where
  pub before : State
  pub is : IsBeforeAll d scripts before
  pub settles : s ≡ settled before

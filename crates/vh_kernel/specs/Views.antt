-- The state that a kernel shows, and what its functions do to it.
use Rattle.std.specs.Prelude.{◌≡◌, ⊤, Result, Ok, Err}
use Rattle.vh_base.specs.declared.faults.NoMemory.{NoMemory}
use Rattle.vh_kernel.specs.declared.kernel.Kernel.{Kernel}
use Rattle.vh_kernel.specs.declared.label.Label.{Label}
use Rattle.vh_kernel.specs.Outcome.{Move}
use Rattle.vh_orders.specs.Orders.{Given}
use Rattle.vh_orders.specs.Views.{world_of, given_by as world_gives}
use Rattle.vh_kernel.specs.State.{State}

abbrev pub state_of : Kernel → State
state_of k = record {
  world = world_of k.world;
  control = k.control;
  agenda = k.agenda.items;
  occurrence = k.occurrence;
}

-- What a kernel gives a step: the next number for a handle.
abbrev pub given_by : Kernel → Given
given_by k = world_gives k.world

-- The answer is the label of a move, and the kernel shows the state after it.
abbrev pub Moves : Move → Result Label NoMemory → Kernel → Type 0
Moves m (Ok l) k = m ≡ (l, state_of k)
Moves m (Err e) k = ⊤

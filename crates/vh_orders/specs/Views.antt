-- How contracts see a world, and what its functions do to it.
use Rattle.std.specs.Prelude.{◌≡◌, ⊤, Result, Ok, Err}
use Rattle.vh_base.specs.declared.orders.Answer.{Answer}
use Rattle.vh_dispatch.specs.Frames.{stack_of}
use Rattle.vh_handles.specs.Handles.{handles_of}
use Rattle.vh_orders.specs.declared.halt.Halt.{Halt}
use Rattle.vh_orders.specs.declared.halt.Halt.TheVariants as halt
use Rattle.vh_orders.specs.declared.world.World.{World as TheWorld}
use Rattle.vh_orders.specs.Orders.{Given, Effect, answered}
use Rattle.vh_orders.specs.World.{World}

abbrev pub world_of : TheWorld → World
world_of w = record {
  activity = w.simulation;
  names = w.names;
  scripts = w.scripts.items;
  variables = w.vars.items;
  callbacks = w.registry.callbacks;
  frames = stack_of w.dispatch w.registry;
  handles = handles_of w.handles;
  error = w.last_error;
  phase = w.phase;
}

-- What a world gives an order: the next number for a handle.
abbrev pub given_by : TheWorld → Given
given_by w = record { handle = w.handles.next }

-- What an order does to a world: it is answered as its row says, or refused with nothing changed.
abbrev pub HasEffect : Effect → TheWorld → Result Answer Halt → TheWorld → Type 0
HasEffect e old (Ok a) new = answered e (world_of old) (given_by old) ≡ (a, world_of new)
HasEffect e old (Err (halt.Refused c)) new = (e ≡ Err c) × (world_of new ≡ world_of old)
HasEffect e old (Err halt.NoMemory) new = ⊤

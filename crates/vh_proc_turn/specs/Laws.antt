-- What the definitions mean for a driver of a continuous assignment. (own)
use Rattle.std.specs.Prelude.{◌≡◌, ◌⊎◌, ℕ, Option, Some, None, Ok}
use Rattle.vh_logic.specs.Vector.{Vector}
use Rattle.vh_store.specs.Contents.{Contents, driven}
use Rattle.vh_queue.specs.Events.{Rises}
use Rattle.vh_proc_turn.specs.Drives.{Driving, scheduled_value, one_driven}

-- A driver comes to a value: its scheduled update has it, or none stands and the driver has it already.
abbrev pub ComesTo : ℕ → Vector → Contents → Driving → Type 0
ComesTo x v s b = (scheduled_value x b ≡ Some v) ⊎ ((scheduled_value x b ≡ None) × (driven s x ≡ v))

-- Behind an evaluation each driver comes to its new value, whatever was scheduled before.
abbrev pub ComesToItsValue : Type 0
ComesToItsValue = (s : Contents) (time : Option ℕ) (x : ℕ) (v : Vector) (b c : Driving)
    → Rises 1 b.queue.next b.queue.entries → one_driven s time x v b ≡ Ok c → ComesTo x v s c

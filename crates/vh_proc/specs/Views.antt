-- How contracts see what the code holds.
use Rattle.std.specs.Prelude.{◌≡◌, ℕ, [], ◌||◌, Option, Some, None}
use Rattle.std.specs.BTreeSet.{contains}
use Rattle.std.specs.Ordering.{nat_cmp}
use Rattle.vh_proc.specs.declared.disable.Stopped.{Stopped as Found}
use Rattle.vh_proc.specs.Disabled.{Stopped, is_among, with_stopped}
use Rattle.vh_design.specs.Shape.{Shape}
use Rattle.vh_proc_turn.specs.declared.process.Process.{Process}

-- The processes that a disable stops.
abbrev pub found_seen : Found → Stopped
found_seen f = record { ends = f.ends.items; leaves = f.leaves.items }

-- Nobody; and these with the process of a number, where it is there and stopped.
abbrev pub nobody : Stopped
nobody = record { ends = []; leaves = [] }

abbrev pub with_noted : Shape → ℕ → Stopped → ℕ → Option Process → Stopped
with_noted d target found p None = found
with_noted d target found p (Some t) = with_stopped d target found p t

-- All of them are in the set of them all, and no others. (own)
abbrev pub HoldsAll : Found → Type 0
HoldsAll f = (p : ℕ) → contains nat_cmp f.all p ≡ (is_among f.ends.items p || is_among f.leaves.items p)

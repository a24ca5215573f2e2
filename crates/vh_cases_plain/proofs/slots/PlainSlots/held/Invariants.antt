use Rattle.std.proofs.Common.{◌≡◌, ◌≤◌, take}
use Rattle.std.specs.Prelude.{count_by, is_some}
use Rattle.vh_cases_plain.proofs.slots.PlainSlots.held.Given as goal

abbrev pub invariant-loop-slot : goal.invariant-loop-slot
invariant-loop-slot g l = (l.held ≤ l.slot) × (l.held ≡ count_by (λ c. is_some c.value) (take l.slot l.self.cells))

use Rattle.std.proofs.Common.{ℕ, ◌≡◌, ◌<◌, false}
use Rattle.std.specs.List.{slice_get}
use Rattle.vh_cases_plain.specs.Views.{is_free_one}
use Rattle.vh_cases_plain.proofs.slots.PlainSlots.free_slot.Given as goal

abbrev pub invariant-loop-slot : goal.invariant-loop-slot
invariant-loop-slot g l = (k : ℕ) → k < l.slot → is_free_one (slice_get l.self.cells k) ≡ false

use Rattle.std.proofs.Common.{◌≡◌, length}
use Rattle.vh_kernel.specs.Settle.{is_void_item, without_front}
use Rattle.vh_kernel.proofs.kernel.settling.settle_agenda.Given as goal

-- What is left settles as the whole does
abbrev pub invariant-voids : goal.invariant-voids
invariant-voids l = without_front (is_void_item l.callbacks.callbacks) l.agenda.items ≡ without_front (is_void_item l.callbacks.callbacks) l.initial.agenda.items

abbrev pub decreases-voids : goal.decreases-voids
decreases-voids l = length l.agenda.items

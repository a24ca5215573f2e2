use Rattle.std.proofs.Common.{◌≡◌, length}
use Rattle.vh_kernel.specs.Settle.{is_void, without_front}
use Rattle.vh_kernel.proofs.kernel.settling.settle_control.Given as goal

-- What is left settles as the whole does
abbrev pub invariant-voids : goal.invariant-voids
invariant-voids l = without_front (is_void l.callbacks.callbacks) l.control ≡ without_front (is_void l.callbacks.callbacks) l.initial.control

abbrev pub decreases-voids : goal.decreases-voids
decreases-voids l = length l.control

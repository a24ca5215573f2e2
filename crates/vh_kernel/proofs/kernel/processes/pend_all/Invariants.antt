use Rattle.std.proofs.Common.{◌≡◌, ◌++◌, ◌-◌, map, drop, length}
use Rattle.vh_kernel.specs.declared.control.Control.TheVariants as top
use Rattle.vh_kernel.specs.Occurrences.{all_by}
use Rattle.vh_kernel.proofs.kernel.processes.pend_all.Given as goal

-- Those of the last changes, as many as were taken.
abbrev pub invariant-loop-i : goal.invariant-loop-i
invariant-loop-i l = l.control ≡ map top.Pending (all_by l.d.objects (drop (length l.made - l.i) l.made)) ++ l.initial.control

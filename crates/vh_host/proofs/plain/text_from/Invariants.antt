use Rattle.std.proofs.Common.{◌≡◌, ◌<◌, ◌-◌, ◌++◌}
use Rattle.vh_kernel.specs.Views.{state_of}
use Rattle.vh_kernel.specs.Step.{choices_of}
use Rattle.vh_kernel.specs.Run.{moves_of, text_of}
use Rattle.vh_host.proofs.plain.text_from.Given as goal

-- The text so far, with that of the labels that are left
abbrev pub invariant-loop-made : goal.invariant-loop-made
invariant-loop-made l =
    (l.text.items ++ text_of (moves_of l.next (l.budget - l.made) (state_of l.kernel)) ≡ text_of (moves_of l.fn.chooser l.budget (state_of l.fn.kernel)))
    × (0 < choices_of (state_of l.kernel))

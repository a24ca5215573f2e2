use Rattle.std.proofs.Common.{◌≡◌, ◌-◌}
use Rattle.vh_elab_unroll.specs.Constructs.{free_text}
use Rattle.vh_elab_unroll.proofs.scope.counted_name.Given as goal

-- What is found among those that are left is what is found among all.
abbrev pub invariant-loop-zeros : goal.invariant-loop-zeros
invariant-loop-zeros l =
    free_text (1025 - l.zeros) l.names l.scope l.zeros l.count ≡ free_text 1025 l.names l.scope 0 l.count

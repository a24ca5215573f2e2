use Rattle.std.proofs.Common.{◌≡◌, map, take}
use Rattle.vh_elab_drives.proofs.gates.repeated.Given as goal

abbrev pub invariant-loop-part : goal.invariant-loop-part
invariant-loop-part l = l.all.items ≡ map (λ e. l.operator) (take l.part-index l.rest)

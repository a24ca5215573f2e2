use Rattle.std.proofs.Common.{◌≡◌, ◌++◌, length, drop, true}
use Rattle.std.specs.List.{list_all}
use Rattle.vh_design_code.specs.Targets.{fits_input}
use Rattle.vh_proc_assign.specs.Pieces as pieces
use Rattle.vh_proc_assign.proofs.targets.pieces_in.Given as goal

-- The pieces so far, with those of the inputs that are left, are all.
abbrev pub invariant-loop-input : goal.invariant-loop-input
invariant-loop-input l =
    (l.out.items ++ pieces.pieces_in l.d l.s (drop l.input-index l.inputs) ≡ l.initial.out.items ++ pieces.pieces_in l.d l.s l.inputs)
    × (list_all (fits_input l.d.objects (length l.d.exprs)) (drop l.input-index l.inputs) ≡ true)

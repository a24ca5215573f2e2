use Rattle.std.proofs.Common.{◌≡◌, ◌++◌, length, drop, true}
use Rattle.std.specs.List.{list_all}
use Rattle.vh_design_code.specs.Targets.{fits_output}
use Rattle.vh_proc_assign.specs.Pieces as pieces
use Rattle.vh_proc_assign.proofs.targets.pieces_out.Given as goal

-- The pieces so far, with those of the outputs that are left, are all.
abbrev pub invariant-loop-output : goal.invariant-loop-output
invariant-loop-output l =
    (l.out.items ++ pieces.pieces_out l.d l.s (drop l.output-index l.outputs) ≡ l.initial.out.items ++ pieces.pieces_out l.d l.s l.outputs)
    × (list_all (fits_output l.d.objects (length l.d.exprs)) (drop l.output-index l.outputs) ≡ true)

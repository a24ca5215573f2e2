use Rattle.std.proofs.Common.{◌≡◌, map, drop}
use Rattle.vh_app.specs.Layout.{with_procedures}
use Rattle.vh_app.specs.Views.{laid_seen}
use Rattle.vh_app_script.specs.Views.{procedure_seen}
use Rattle.vh_app.proofs.laying.add_procedures.Given as goal

-- The procedures so far, with those that are left, are all of them.
abbrev pub invariant-loop-procedure : goal.invariant-loop-procedure
invariant-loop-procedure l =
    with_procedures (laid_seen l.so) (map procedure_seen (drop l.procedure-index l.procedures))
    ≡ with_procedures (laid_seen l.fn.so) (map procedure_seen l.procedures)

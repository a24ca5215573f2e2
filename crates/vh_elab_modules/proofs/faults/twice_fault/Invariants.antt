use Rattle.std.proofs.Common.{◌≡◌, drop, None}
use Rattle.std.specs.Prelude.{map}
use Rattle.vh_ast.specs.Views.{module_tree}
use Rattle.vh_elab_modules.specs.Modules.{twice_from}
use Rattle.vh_elab_modules.proofs.faults.twice_fault.Given as goal

-- The least so far, and of the modules that are left, is that of all.
abbrev pub invariant-loop-number : goal.invariant-loop-number
invariant-loop-number l =
    twice_from l.index l.number (map module_tree (drop l.number l.modules)) l.fault
    ≡ twice_from l.index 0 (map module_tree l.modules) None

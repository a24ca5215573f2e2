use Rattle.std.proofs.Common.{◌≡◌, ◌++◌, drop}
use Rattle.std.specs.Prelude.{map}
use Rattle.vh_ast.specs.Views.{module_tree}
use Rattle.vh_elab_modules.specs.Modules.{names}
use Rattle.vh_elab_modules.proofs.graph.named.Given as goal

-- The names so far, with those of the modules that are left, are those of all.
abbrev pub invariant-loop-module : goal.invariant-loop-module
invariant-loop-module l = l.index ++ names (map module_tree (drop l.module-index l.modules)) ≡ names (map module_tree l.modules)

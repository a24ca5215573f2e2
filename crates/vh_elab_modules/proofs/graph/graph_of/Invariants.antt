use Rattle.std.proofs.Common.{◌≡◌, ◌++◌, drop}
use Rattle.std.specs.Prelude.{map}
use Rattle.vh_ast.specs.Views.{module_tree}
use Rattle.vh_elab_modules.specs.Modules.{holdings}
use Rattle.vh_elab_modules.specs.Numbers.{numbered}
use Rattle.vh_elab_modules.specs.Views.{holdings_seen}
use Rattle.vh_elab_modules.proofs.graph.graph_of.Given as goal

-- The items so far, with those of the modules that are left, are those of all.
abbrev pub invariant-loop-module : goal.invariant-loop-module
invariant-loop-module l =
    holdings_seen l.graph.items ++ map (numbered l.index) (holdings (map module_tree (drop l.module-index l.modules)))
    ≡ map (numbered l.index) (holdings (map module_tree l.modules))

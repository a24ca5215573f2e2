use Rattle.std.proofs.Common.{◌≡◌, ◌++◌, drop, not, false, slice_index_or}
use Rattle.std.specs.Prelude.{map}
use Rattle.vh_ast.specs.Views.{module_tree}
use Rattle.vh_elab_modules.specs.Numbers.{number_of}
use Rattle.vh_elab_modules.proofs.top.tops_of.Given as goal

-- The flags so far, with those of the modules that are left, are those of all.
abbrev pub invariant-loop-module : goal.invariant-loop-module
invariant-loop-module l =
    l.tops.items ++ map (λ m. not (slice_index_or l.held (number_of l.index m.id.name) false)) (map module_tree (drop l.module-index l.modules))
    ≡ map (λ m. not (slice_index_or l.held (number_of l.index m.id.name) false)) (map module_tree l.modules)

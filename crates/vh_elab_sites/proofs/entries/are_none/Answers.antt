use Rattle.std.proofs.Common.{◌≡◌, ◌≤◌, false, List, [], ◌∷◌, length, refl, arith}
use Rattle.std.specs.Prelude.{map}
use Rattle.vh_ast.specs.declared.item.Item.{Item}
use Rattle.vh_ast.specs.Items.{items}
use Rattle.vh_ast.specs.Views.{item_tree}
use Rattle.vh_elab_sites.specs.Blocks.{are_none}
use Rattle.vh_elab_sites.proofs.entries.are_none.Goals as goal

-- Where there is one, there are some.
some_are : (all : List Item) → 1 ≤ length all → false ≡ are_none (items (map item_tree all))
some_are [] least = absurd (omega arith)
some_are (i ∷ more) least = refl

pub returns-in-len1-up : goal.returns-in-len1-up
returns-in-len1-up c = some_are _ (omega arith)

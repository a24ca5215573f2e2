-- How contracts see what the code holds.
use Rattle.std.specs.Prelude.{ℕ, List, map}
use Rattle.vh_ast.specs.declared.item.Item.{Item}
use Rattle.vh_ast.specs.declared.module.Module.{Module}
use Rattle.vh_ast.specs.Items.{ItemTree, ModuleTree}
use Rattle.vh_ast.specs.Views.{expr_tree, assigned_tree, targ_tree, local_tree, stmt_tree, item_tree, module_tree}
use Rattle.vh_parse_syntax.specs.Items as parts
use Rattle.vh_parse_items.specs.declared.routine.RoutineParts.{RoutineParts}
use Rattle.vh_parse_items.specs.declared.generate.GenerateHead.{GenerateHead}
use Rattle.vh_parse_items.specs.declared.region.Region.{Region}

-- A task or function, but for the words around it (own).
abbrev pub routine_tree : RoutineParts → parts.Routine
routine_tree r =
    (r.id, (map targ_tree r.targs, (map local_tree r.locals, stmt_tree r.body)))

-- What stands in the brackets of a loop of items (own).
abbrev pub generate_tree : GenerateHead → parts.GenerateHead
generate_tree h = (assigned_tree h.start, (expr_tree h.test, assigned_tree h.step))

-- Items and modules in a row (own).
abbrev pub items_seen : List Item → List ItemTree
items_seen = map item_tree

abbrev pub modules_seen : List Module → List ModuleTree
modules_seen = map module_tree

-- How far a row of items has come (own).
abbrev pub region_tree : Region → parts.Region
region_tree r = record { depth = r.open; items = items_seen r.items }

-- A first item, with how many regions are open behind it (own).
abbrev pub word_pair : ℕ × Item → ℕ × ItemTree
word_pair w = (w.0, item_tree w.1)

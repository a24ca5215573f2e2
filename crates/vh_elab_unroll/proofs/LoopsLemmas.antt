-- A `for` is the loop whose blocks are called as its block is.
use Rattle.std.proofs.Common.{◌≡◌, ◌∙◌, ℕ, Result, Ok, Err, OnOk, ap}
use Rattle.vh_base.specs.declared.place.Place.{Place}
use Rattle.vh_ast.specs.Declarations.{AssignedTree}
use Rattle.vh_ast.specs.Expressions.{ExprTree}
use Rattle.vh_ast.specs.Items.{GblockTree, ModuleTree, for_item}
use Rattle.vh_elab_sites.specs.Blocks.{BlockText, block_place}
use Rattle.vh_elab_declare.specs.Constants.{Home}
use Rattle.vh_elab_unroll.specs.Constructs.{Unrolling, block_text, form_unrolled, loop_unrolled, turn_unrolled}

pub for-loop : {A E : Type 0} (r : Result A E) (h : Home) (m : ModuleTree) (scope : ℕ) (place : Place)
    (t word : BlockText) (start step : AssignedTree) (test : ExprTree) (body : GblockTree) (u x : Unrolling)
    → word ≡ block_text body t
    → OnOk r (x ≡ loop_unrolled (turn_unrolled h m scope word body) h scope place start test step (block_place body)
    word u)
    → OnOk r (x ≡ form_unrolled h m scope place t (for_item start test step body) u)
for-loop (Ok a) h m scope place t word start step test body u x same made =
    made ∙ ap (λ w. loop_unrolled (turn_unrolled h m scope w body) h scope place start test step (block_place body) w u)
    same
for-loop (Err e) h m scope place t word start step test body u x same made = made

-- What the definition means: each expression has the value that its row gives it of the values of its parts.
use Rattle.std.specs.Prelude.{◌≡◌, ℕ, Bool, Some, slice_get}
use Rattle.vh_design_nodes.specs.declared.expr.ExprNode.{ExprNode}
use Rattle.vh_design.specs.Shape.{Shape}
use Rattle.vh_design.specs.Validity.{IsValid}
use Rattle.vh_store.specs.Contents.{Contents}
use Rattle.vh_eval.specs.Value.{value_of, kind_value}

-- In a valid design, whatever the store holds and whatever the context asks for. (IEEE 1364-2005, 5.4 and 5.5)
abbrev pub HasValueOfParts : Type 0
HasValueOfParts = (d : Shape) (s : Contents) (e : ℕ) (n : ExprNode) (w : ℕ) (g : Bool) → IsValid d
    → slice_get d.exprs e ≡ Some n → value_of d s e w g ≡ kind_value (value_of d s) d s e n.kind w g

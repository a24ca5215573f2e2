-- The conditions of what stands in lists: each turn of a repetition in it takes a token.
use Rattle.std.specs.Prelude.{Bool}
use Rattle.vh_parse_grammar.specs.Conditions.{Advances}
use Rattle.vh_parse_syntax.specs.Statements.{slot}
use Rattle.vh_parse_syntax.specs.ExpressionConditions.{expression_advances}

-- An argument of a system task (own).
pub slot_advances : (calls : Bool) → Advances (slot calls)
unfolding slot
slot_advances calls = (expression_advances calls, tt)

-- The conditions of what stands in lists: each turn of a repetition in it takes a token.
use Rattle.std.specs.Prelude.{Bool, true}
use Rattle.vh_parse_grammar.specs.Conditions.{Advances}
use Rattle.vh_parse_syntax.specs.Declarations.{an_init, var_part, a_var}
use Rattle.vh_parse_syntax.specs.ExpressionConditions.{expression_advances}
use Rattle.vh_parse_syntax.specs.DeclarationConditions.{range_advances, value_advances}

-- An integer or time variable, and a register (own).
pub init_advances : Advances an_init
unfolding an_init
init_advances = ((tt, tt), value_advances)

pub var_advances : Advances a_var
unfolding a_var var_part
var_advances = (tt, ((range_advances, tt), ((tt, (expression_advances true)), tt)))

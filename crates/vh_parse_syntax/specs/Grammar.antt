-- The grammar: a part for each production that is nested, and a whole source.
use Rattle.std.specs.Prelude.{Bool}
use Rattle.vh_parse_grammar.specs.Firsts.{first_at}
use Rattle.vh_parse_syntax.specs.Tokens.{Token}
use Rattle.vh_parse_syntax.specs.Parts.{Name, expr, operand, stmt, gblock, tree_of, G}
use Rattle.vh_parse_syntax.specs.Expressions.{expression, any_operand}
use Rattle.vh_parse_syntax.specs.Statements.{statement}
use Rattle.vh_parse_syntax.specs.Items.{a_gblock}

-- The productions (IEEE 1364-2005, Annex A).
abbrev pub grammar : (p : Name) → G (tree_of p)
grammar (expr calls) = expression calls
grammar (operand calls) = any_operand calls
grammar (stmt inside) = statement inside
grammar gblock = a_gblock

-- The tokens with which each begins: no production begins with a nested one (own).
abbrev pub begins : Name → Token → Bool
begins = first_at grammar 1

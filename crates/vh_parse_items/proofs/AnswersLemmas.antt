-- What is answered for the tokens of a source.
use Rattle.std.proofs.Common.{◌≡◌, List, [], subst}
use Rattle.vh_parse_grammar.specs.Reading.{got}
use Rattle.vh_parse_grammar.specs.Table.{IsSource}
use Rattle.vh_parse_grammar.specs.Laws.{LawsOfSources}
use Rattle.vh_ast.specs.Items.{SourceTree}
use Rattle.vh_parse_syntax.specs.Tokens.{Token}
use Rattle.vh_parse_syntax.specs.Table.{syntax_table}
use Rattle.vh_parse_expr.specs.declared.parse.TheConstants.{MOST_LEVELS}
use Rattle.vh_parse_items.specs.Answers.{source_answer}

-- The tokens of a source are spelled so
pub spelled : (seen ts : List Token) (a : SourceTree) → LawsOfSources syntax_table → seen ≡ ts → source_answer seen ≡ got a [] → IsSource syntax_table MOST_LEVELS a ts
spelled seen ts a laws same e = subst (λ l. IsSource syntax_table MOST_LEVELS a l) same ((laws.answers.tree MOST_LEVELS a seen []).0 e).0.0

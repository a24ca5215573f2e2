-- What is answered for the tokens of a whole source.
use Rattle.std.specs.Prelude.{◌≡◌, List, [], Result, Ok, Err}
use Rattle.vh_base.specs.declared.place.Place.{Place}
use Rattle.vh_parse_grammar.specs.Reading.{Out}
use Rattle.vh_parse_grammar.specs.Table.{source}
use Rattle.vh_ast.specs.declared.module.Source.{Source}
use Rattle.vh_ast.specs.Items.{SourceTree}
use Rattle.vh_ast.specs.Views.{source_tree}
use Rattle.vh_lex.specs.declared.token.Token as lexed
use Rattle.vh_parse_syntax.specs.Tokens.{Token}
use Rattle.vh_parse_syntax.specs.Table.{syntax_table}
use Rattle.vh_parse_expr.specs.declared.parse.TheConstants.{MOST_LEVELS}
use Rattle.vh_parse_expr.specs.declared.fault.ParseFault.{ParseFault}
use Rattle.vh_parse_expr.specs.declared.fault.ParseFault.TheVariants as faults
use Rattle.vh_parse_expr.specs.Answers.{placed}

-- What the table answers for the tokens of a whole source: the laws of reading are about this (IEEE
-- 1364-2005, A.1.2).
abbrev pub source_answer : List Token → Out Token SourceTree
source_answer ts = source syntax_table MOST_LEVELS ts

-- It is what a parser of the tokens answers: the tree; a fault and its place; or that no memory was
-- left, which says nothing of the tokens (own).
abbrev pub IsParsed : List lexed.Token → Place → Out Token SourceTree → Result Source ParseFault → Type 0
IsParsed ts after answer (Ok s) = placed ts after answer ≡ Ok (source_tree s, [])
IsParsed ts after answer (Err (faults.Refused fault place)) =
    placed ts after answer ≡ Err (fault, place)
IsParsed ts after answer (Err faults.NoMemory) = Unit {0}

-- What is answered for the tokens of a statement.
use Rattle.std.specs.Prelude.{◌≡◌, ℕ, Bool, List, length, map, Result, Ok, Err}
use Rattle.vh_base.specs.declared.place.Place.{Place}
use Rattle.vh_parse_grammar.specs.declared.stop.Stop.{Stop}
use Rattle.vh_parse_grammar.specs.Reading.{Out, got}
use Rattle.vh_parse_grammar.specs.Omissions.{noted, answered}
use Rattle.vh_parse_grammar.specs.Says.{Stops}
use Rattle.vh_ast.specs.declared.stmt.Stmt.{Stmt}
use Rattle.vh_ast.specs.Statements.{StmtTree}
use Rattle.vh_ast.specs.Views.{stmt_tree}
use Rattle.vh_lex.specs.declared.token.Token as lexed
use Rattle.vh_parse_syntax.specs.Tokens.{Token, token_seen, is_unused}
use Rattle.vh_parse_syntax.specs.Grammar.{grammar}
use Rattle.vh_parse_syntax.specs.Statements.{inner_stmt}
use Rattle.vh_parse_expr.specs.declared.fault.ParseFault.{ParseFault}
use Rattle.vh_parse_expr.specs.declared.fault.ParseFault.TheVariants as faults
use Rattle.vh_parse_expr.specs.Answers.{placed}

-- What the table answers for the tokens of a statement in an item, with so many levels left for it
-- and what stands in it (IEEE 1364-2005, A.6.4).
abbrev pub statement_answer : ℕ → Bool → List Token → Out Token StmtTree
statement_answer levels inside ts = answered (noted is_unused grammar levels (inner_stmt inside) ts 0)

-- It is what a reading answers: a tree, seen without pointers, with so many tokens left; or why and
-- where it stops (own).
abbrev pub Answered : Out Token StmtTree → Result (Stmt × ℕ) Stop → Type 0
Answered answer (Ok s) = (rest : List Token) × (answer ≡ got (stmt_tree s.0) rest) × (length rest ≡ s.1)
Answered answer (Err why) = Stops answer why

-- It is what a parser of the tokens answers: the tree and how many tokens are left; a fault and its
-- place; or that no memory was left, which says nothing of the tokens (own).
abbrev pub IsParsed : List lexed.Token → Place → Out Token StmtTree → Result (Stmt × ℕ) ParseFault → Type 0
IsParsed ts after answer (Ok s) = Answered answer (Ok s)
IsParsed ts after answer (Err (faults.Refused fault place)) =
    placed ts after answer ≡ Err (fault, place)
IsParsed ts after answer (Err faults.NoMemory) = Unit {0}

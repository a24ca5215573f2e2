-- Parts of the table that have no name there, for the functions that read them.
use Rattle.std.specs.Prelude.{Bool, true, not, ◌&&◌, List, [], ◌∷◌, Option}
use Rattle.vh_base.specs.declared.place.Place.{Place}
use Rattle.vh_parse_grammar.specs.Part.{seq, act, alt, rep, unless, barred, only, opt, two, after, before, listed}
use Rattle.vh_ast.specs.declared.token.Id.{Id}
use Rattle.vh_ast.specs.declared.stmt.AssignWord.{AssignWord}
use Rattle.vh_ast.specs.declared.stmt.CaseWord.{CaseWord}
use Rattle.vh_ast.specs.declared.stmt.BlockWord.{BlockWord}
use Rattle.vh_ast.specs.Expressions.{ExprTree, place_of}
use Rattle.vh_ast.specs.Declarations.{DeclTree}
use Rattle.vh_ast.specs.Statements.{DelayTree, StmtTree, CitemTree, values}
use Rattle.vh_ast.specs.Statements as S
use Rattle.vh_parse_syntax.specs.declared.lexeme.Lexeme.{Lexeme}
use Rattle.vh_parse_syntax.specs.declared.lexeme.Lexeme.TheVariants as lexeme
use Rattle.vh_parse_syntax.specs.Tokens.{is, is_any, in_rows}
use Rattle.vh_parse_syntax.specs.Parts.{G, the, at_the, an_id, row_in, placed_row, comma_list, comma_more, in_parens, ended}
use Rattle.vh_parse_syntax.specs.Names.{Path, is_closed, path}
use Rattle.vh_parse_syntax.specs.Expressions.{expression}
use Rattle.vh_parse_syntax.specs.Declarations.{decl, decl_lexemes}
use Rattle.vh_parse_syntax.specs.Statements.{assign_rows, case_rows, loop_rows, force_rows, release_rows, inner_stmt, shows_delay, shows_task, citem, begins_citem, citems, for_stmt, loop_stmt, forever_stmt, naming, stmts, block_of, begin_stmt, fork_stmt, trigger_stmt, disable_stmt, force_stmt, release_stmt, all_of, slot, begins_slots, system_stmt}
use Rattle.vh_parse_decl.specs.Pieces.{delay_behind}

-- The sign of an assignment, and what stands behind it (IEEE 1364-2005, A.6.2).
abbrev pub lexeme_of_assignment : Bool → G AssignWord
lexeme_of_assignment inside = unless (λ t. inside && is lexeme.LessEqual t) (row_in assign_rows)

abbrev pub assigned_part : Bool → G (Option DelayTree × ExprTree)
assigned_part inside = unless (shows_delay inside) (seq delay_behind (ended (expression true)))

-- A name with which a statement begins, and the arguments behind one (IEEE 1364-2005, A.6.9).
abbrev pub barred_name : Bool → G Path
barred_name inside = barred (shows_task inside) (path (expression true) true)

abbrev pub written_arguments : G (Option (List ExprTree))
written_arguments = opt (is lexeme.LeftParen) (in_parens (comma_list (expression true)))

-- The arguments of a system task, and these in their brackets (IEEE 1364-2005, A.6.9).
abbrev pub any_slots : Bool → G (List (Option ExprTree))
any_slots calls = act all_of (opt begins_slots (comma_list (slot calls)))

abbrev pub bracketed_slots : Bool → G (List (Option ExprTree))
bracketed_slots calls = in_parens (any_slots calls)

-- What is declared in a block, and its name in front of that (IEEE 1364-2005, A.6.3).
abbrev pub decls : G (List DeclTree)
decls = rep (is_any decl_lexemes) decl

abbrev pub named_decls : G (Id × List DeclTree)
named_decls = after (the lexeme.Colon) (seq an_id decls)

-- A colon, if it is written (IEEE 1364-2005, A.6.7).
abbrev pub colon_part : G (Option (Unit {0}))
colon_part = opt (is lexeme.Colon) (the lexeme.Colon)

-- The values of a statement of a case, where the first one stands (IEEE 1364-2005, A.6.7).
abbrev pub values_of : ExprTree × List ExprTree → Place × List ExprTree
values_of es = (place_of es.0, es.0 ∷ es.1)

abbrev pub values_part : G (Place × List ExprTree)
values_part = act values_of (seq (expression true) (comma_more (expression true)))

-- A statement of a case for its values (IEEE 1364-2005, A.6.7).
abbrev pub item_by : Place × List ExprTree → StmtTree → CitemTree
item_by v s = record { place = v.0; matched = values v.1; body = s }

abbrev pub values_item_part : Bool → G CitemTree
values_item_part inside = two item_by values_part (after (the lexeme.Colon) (inner_stmt inside))

-- The statements of a case, and further ones alone (IEEE 1364-2005, A.6.7).
abbrev pub more_citems : Bool → G (List CitemTree)
more_citems inside = rep begins_citem (citem inside)

abbrev pub all_citems : Bool → G (List CitemTree)
all_citems inside = two (λ c more. c ∷ more) (citem inside) (more_citems inside)

-- A case of its statements (IEEE 1364-2005, A.6.7).
abbrev pub case_by : Place × CaseWord → ExprTree × List CitemTree → StmtTree
case_by w r = S.stmt w.0 (S.case_stmt w.1 r.0 (S.citems r.1))

abbrev pub case_part : Bool → G StmtTree
case_part inside =
    two case_by (placed_row case_rows)
    (seq (in_parens (expression true)) (before (all_citems inside) (the lexeme.Endcase)))

-- A block, by the words around it (IEEE 1364-2005, A.6.3).
abbrev pub block_part : BlockWord → Lexeme × Lexeme → Bool → G StmtTree
block_part word words inside =
    two (block_of word) (at_the words.0) (before (seq naming (stmts inside)) (the words.1))

-- The last branches of a statement, in none of which one stands (IEEE 1364-2005, A.6.4).
abbrev pub last_branches : G StmtTree
last_branches =
    alt (is lexeme.Arrow) trigger_stmt
    (alt (is lexeme.Disable) disable_stmt
    (alt (in_rows force_rows) force_stmt
    (alt (in_rows release_rows) release_stmt
    system_stmt)))

-- The branches of a statement from `for` on (IEEE 1364-2005, A.6.4).
abbrev pub control : Bool → G StmtTree
control inside =
    alt (is lexeme.For) (for_stmt inside)
    (alt (in_rows loop_rows) (loop_stmt inside)
    (alt (is lexeme.Forever) (forever_stmt inside)
    (alt (is lexeme.Begin) (begin_stmt inside)
    (alt (is lexeme.Fork) (fork_stmt inside)
    last_branches))))

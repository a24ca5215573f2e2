-- Statements. `inside` says that a statement stands in a function: there a delay, an event control,
-- a `wait`, a `fork`, a task call and a nonblocking assignment are left out.
use Rattle.std.specs.Prelude.{Bool, true, false, not, ◌&&◌, ◌||◌, List, [], ◌∷◌, Option, Some, None}
use Rattle.vh_base.specs.declared.place.Place.{Place}
use Rattle.vh_parse_grammar.specs.Part.{done, only, seq, bind, act, alt, rep, nested, unless, barred, opt, two, after, before, listed}
use Rattle.vh_ast.specs.declared.token.Id.{Id}
use Rattle.vh_ast.specs.declared.timing.Edge.{Edge}
use Rattle.vh_ast.specs.declared.timing.Edge.TheVariants as edge
use Rattle.vh_ast.specs.declared.stmt.AssignWord.{AssignWord}
use Rattle.vh_ast.specs.declared.stmt.AssignWord.TheVariants as assigns
use Rattle.vh_ast.specs.declared.stmt.ForceWord.{ForceWord}
use Rattle.vh_ast.specs.declared.stmt.ForceWord.TheVariants as forces
use Rattle.vh_ast.specs.declared.stmt.ReleaseWord.{ReleaseWord}
use Rattle.vh_ast.specs.declared.stmt.ReleaseWord.TheVariants as releases
use Rattle.vh_ast.specs.declared.stmt.CaseWord.{CaseWord}
use Rattle.vh_ast.specs.declared.stmt.CaseWord.TheVariants as cases
use Rattle.vh_ast.specs.declared.stmt.LoopWord.{LoopWord}
use Rattle.vh_ast.specs.declared.stmt.LoopWord.TheVariants as loops
use Rattle.vh_ast.specs.declared.stmt.BlockWord.{BlockWord}
use Rattle.vh_ast.specs.declared.stmt.BlockWord.TheVariants as blocks
use Rattle.vh_ast.specs.Expressions.{ExprTree, start_of, place_of}
use Rattle.vh_ast.specs.Declarations.{DeclTree}
use Rattle.vh_ast.specs.Statements.{DelayValueTree, delay_number, delay_id, delay_expr, DelayTree, EvTree, EventTree, any_event, named_event, listed_events, LvTree, SetTree, SimpleTree, MatchedTree, values, default, StmtTree, StmtFormTree, CitemTree, ElseTree}
use Rattle.vh_ast.specs.Statements as S
use Rattle.vh_parse_syntax.specs.declared.lexeme.Lexeme.{Lexeme}
use Rattle.vh_parse_syntax.specs.declared.lexeme.Lexeme.TheVariants as lexeme
use Rattle.vh_parse_syntax.specs.Tokens.{Token, is, is_any, is_name, is_system, is_number, in_rows, begins_expression, calls_in}
use Rattle.vh_parse_syntax.specs.Parts.{G, stmt, the, at_the, row_in, placed_row, an_id, a_system, a_number, comma_list, in_parens, ended}
use Rattle.vh_parse_syntax.specs.Names.{Path, whole_name, is_closed, path, single, braced, lv}
use Rattle.vh_parse_syntax.specs.Expressions.{expression}
use Rattle.vh_parse_syntax.specs.Declarations.{decl, decl_lexemes}

-- The words of choices (IEEE 1364-2005, A.6).
abbrev pub assign_rows : List (Lexeme × AssignWord)
assign_rows = (lexeme.Equal, assigns.Blocking) ∷ (lexeme.LessEqual, assigns.Nonblocking) ∷ []

abbrev pub edge_rows : List (Lexeme × Edge)
edge_rows = (lexeme.Posedge, edge.Positive) ∷ (lexeme.Negedge, edge.Negative) ∷ []

abbrev pub case_rows : List (Lexeme × CaseWord)
case_rows = (lexeme.Case, cases.Case) ∷ (lexeme.Casez, cases.Casez) ∷ (lexeme.Casex, cases.Casex) ∷ []

abbrev pub loop_rows : List (Lexeme × LoopWord)
loop_rows = (lexeme.While, loops.While) ∷ (lexeme.Repeat, loops.Repeat) ∷ []

abbrev pub force_rows : List (Lexeme × ForceWord)
force_rows = (lexeme.Force, forces.Force) ∷ (lexeme.Assign, forces.Assign) ∷ []

abbrev pub release_rows : List (Lexeme × ReleaseWord)
release_rows = (lexeme.Release, releases.Release) ∷ (lexeme.Deassign, releases.Deassign) ∷ []

-- The signs with which a statement begins, beside ID and SYS (IEEE 1364-2005, A.6.4).
abbrev pub statement_lexemes : List Lexeme
statement_lexemes =
    lexeme.Semicolon ∷ lexeme.LeftBrace ∷ lexeme.Hash ∷ lexeme.At ∷ lexeme.Wait ∷ lexeme.If ∷ lexeme.Case ∷
    lexeme.Casez ∷
    lexeme.Casex ∷ lexeme.For ∷ lexeme.While ∷ lexeme.Repeat ∷ lexeme.Forever ∷ lexeme.Begin ∷ lexeme.Fork ∷
    lexeme.Arrow ∷
    lexeme.Disable ∷ lexeme.Force ∷ lexeme.Assign ∷ lexeme.Release ∷ lexeme.Deassign ∷ []

-- The token begins a statement (IEEE 1364-2005, A.6.4).
abbrev pub begins_statement : Token → Bool
begins_statement t = is_name t || is_system t || is_any statement_lexemes t

-- The token shows a statement that is left out in a function (own).
abbrev pub timing_lexemes : List Lexeme
timing_lexemes = lexeme.Hash ∷ lexeme.At ∷ lexeme.Wait ∷ lexeme.Fork ∷ []

abbrev pub shows_timing : Bool → Token → Bool
shows_timing inside t = inside && is_any timing_lexemes t

-- A statement inside another one, or in an item (own).
abbrev pub inner_stmt : Bool → G StmtTree
inner_stmt inside = unless (shows_timing inside) (nested (stmt inside))

-- Trees of statements (IEEE 1364-2005, A.6).
abbrev pub simple_at : Place → SimpleTree → StmtTree
simple_at place form = S.stmt place (S.simple_stmt form)

abbrev pub delay_of : Place → DelayValueTree → DelayTree
delay_of place value = record { place = place; value = value }

abbrev pub is_expr : DelayValueTree → Bool
is_expr (delay_number n) = false
is_expr (delay_id id) = false
is_expr (delay_expr e) = true

-- What follows the sign of a delay, up to the bracket that ends it (IEEE 1364-2005, A.2.2.3)
unfoldable pub delay_value : G DelayValueTree
delay_value =
    alt is_number (act (λ n. delay_number n.1) a_number)
    (alt is_name (act delay_id an_id)
    (act delay_expr (after (the lexeme.LeftParen) (expression true))))

-- The bracket, where it was opened (IEEE 1364-2005, A.2.2.3)
unfoldable pub delay_end : Bool → DelayTree → G DelayTree
delay_end true d = act (λ _. d) (the lexeme.RightParen)
delay_end false d = done d

-- delay = "#" ( NUMBER | ID | "(" expr ")" ): one with more than one expression is left out, which
-- its first "," shows (IEEE 1364-2005, A.2.2.3)
unfoldable pub delay : G DelayTree
delay =
    bind (barred (λ d t. is_expr d.value && is lexeme.Comma t)
    (two delay_of (at_the lexeme.Hash) delay_value))
    (λ d. delay_end (is_expr d.value) d)

-- ev = [ "posedge" | "negedge" ] expr (IEEE 1364-2005, A.6.5)
abbrev pub edged : Place × Edge → ExprTree → EvTree
edged e x = record { place = e.0; edge = Some e.1; expr = x }

abbrev pub unedged : ExprTree → EvTree
unedged x = record { place = place_of x; edge = None; expr = x }

unfoldable pub ev : G EvTree
ev =
    alt (in_rows edge_rows) (two edged (placed_row edge_rows) (expression false))
    (act unedged (expression false))

-- ( "or" | "," ) (IEEE 1364-2005, A.6.5)
abbrev pub or_lexemes : List Lexeme
or_lexemes = lexeme.Or ∷ lexeme.Comma ∷ []

abbrev pub is_or : Token → Bool
is_or = is_any or_lexemes

-- "*" ")" | ev { ( "or" | "," ) ev } ")" (IEEE 1364-2005, A.6.5)
unfoldable pub event_list : G EventTree
event_list =
    alt (is lexeme.Star) (act (λ _. any_event) (seq (the lexeme.Star) (the lexeme.RightParen)))
    (act listed_events (before (listed is_or (only is_or) ev) (the lexeme.RightParen)))

-- "*" | "(" "*" ")" | name | "(" ev { ( "or" | "," ) ev } ")" (IEEE 1364-2005, A.6.5)
unfoldable pub event : G EventTree
event =
    alt (is lexeme.Star) (act (λ _. any_event) (the lexeme.Star))
    (alt is_name (act (λ p. named_event (whole_name p)) (path (expression false) false))
    (after (the lexeme.LeftParen) event_list))

-- lv "=" expr (IEEE 1364-2005, A.6.1)
abbrev pub set_of : LvTree → ExprTree → SetTree
set_of l e = record { target = l; value = e }

unfoldable pub set : Bool → G SetTree
set calls = two set_of (lv (expression calls)) (after (the lexeme.Equal) (expression calls))

-- ( "=" | "<=" ) [ delay ] expr ";", behind a target: an `@` behind the sign is left out (IEEE
-- 1364-2005, A.6.2)
abbrev pub assign_stmt : LvTree → AssignWord → Option DelayTree × ExprTree → StmtTree
assign_stmt l word r = simple_at l.place (S.assign l word r.0 r.1)

abbrev pub shows_delay : Bool → Token → Bool
shows_delay inside t = is lexeme.At t || (inside && is lexeme.Hash t)

unfoldable pub assignment : Bool → LvTree → G StmtTree
assignment inside l =
    two (assign_stmt l) (unless (λ t. inside && is lexeme.LessEqual t) (row_in assign_rows))
    (unless (shows_delay inside)
    (seq (opt (is lexeme.Hash) delay) (ended (expression true))))

-- [ "(" expr { "," expr } ")" ] ";", behind a name (IEEE 1364-2005, A.6.9)
abbrev pub task_of : Path → Option (List ExprTree) → StmtTree
task_of p None = simple_at (start_of (whole_name p)) (S.task_call (whole_name p) [])
task_of p (Some es) = simple_at (start_of (whole_name p)) (S.task_call (whole_name p) es)

unfoldable pub task_call : Path → G StmtTree
task_call p =
    act (task_of p) (ended (opt (is lexeme.LeftParen) (in_parens (comma_list (expression true)))))

-- What follows a name with which a statement begins: an assignment, or where it has no select a
-- task call (own)
unfoldable pub name_stmt : Bool → Bool → Path → G StmtTree
name_stmt inside true p = assignment inside (single p)
name_stmt inside false p = alt (in_rows assign_rows) (assignment inside (single p)) (task_call p)

-- The token shows a task call where it is left out (own).
abbrev pub task_lexemes : List Lexeme
task_lexemes = lexeme.LeftParen ∷ lexeme.Semicolon ∷ []

abbrev pub shows_task : Bool → Path → Token → Bool
shows_task inside p t = inside && (not (is_closed p.last) && is_any task_lexemes t)

-- lv ( "=" | "<=" ) .. | name [ "(" .. ")" ] ";", where a name is first (IEEE 1364-2005, A.6.2 and
-- A.6.9)
unfoldable pub by_name_stmt : Bool → G StmtTree
by_name_stmt inside =
    bind (barred (shows_task inside) (path (expression true) true))
    (λ p. name_stmt inside (is_closed p.last) p)

-- lv ( "=" | "<=" ) .., where a brace is first (IEEE 1364-2005, A.6.2)
unfoldable pub by_brace_stmt : Bool → G StmtTree
by_brace_stmt inside = bind (braced (expression true)) (assignment inside)

-- ";" (IEEE 1364-2005, A.6.4)
unfoldable pub empty_stmt : G StmtTree
empty_stmt = act (λ place. simple_at place S.empty) (at_the lexeme.Semicolon)

-- delay stmt (IEEE 1364-2005, A.6.5)
abbrev pub delayed : DelayTree → StmtTree → StmtTree
delayed d s = S.stmt d.place (S.delay_stmt d s)

unfoldable pub delay_stmt : Bool → G StmtTree
delay_stmt inside = two delayed delay (inner_stmt inside)

-- "@" .. stmt (IEEE 1364-2005, A.6.5)
abbrev pub awaited : Place → EventTree × StmtTree → StmtTree
awaited place r = S.stmt place (S.event_stmt r.0 r.1)

unfoldable pub event_stmt : Bool → G StmtTree
event_stmt inside = two awaited (at_the lexeme.At) (seq event (inner_stmt inside))

-- "wait" "(" expr ")" stmt (IEEE 1364-2005, A.6.5)
abbrev pub waited : Place → ExprTree × StmtTree → StmtTree
waited place r = S.stmt place (S.wait_stmt r.0 r.1)

unfoldable pub wait_stmt : Bool → G StmtTree
wait_stmt inside =
    two waited (at_the lexeme.Wait) (seq (in_parens (expression false)) (inner_stmt inside))

-- "if" "(" expr ")" stmt [ "else" stmt ]: an `else` belongs to the nearest `if` (IEEE 1364-2005,
-- A.6.6)
abbrev pub else_of : Option StmtTree → ElseTree
else_of None = S.no_else
else_of (Some s) = S.else_stmt s

abbrev pub if_of : Place → ExprTree × (StmtTree × Option StmtTree) → StmtTree
if_of place r = S.stmt place (S.if_stmt r.0 r.1.0 (else_of r.1.1))

unfoldable pub otherwise : Bool → G (Option StmtTree)
otherwise inside = opt (is lexeme.Else) (after (the lexeme.Else) (inner_stmt inside))

unfoldable pub if_stmt : Bool → G StmtTree
if_stmt inside =
    two if_of (at_the lexeme.If) (seq (in_parens (expression true))
    (seq (inner_stmt inside) (otherwise inside)))

-- citem = ( expr { "," expr } | "default" ) [ ":" ] stmt, the colon being required behind
-- expressions (IEEE 1364-2005, A.6.7)
abbrev pub default_of : Place → StmtTree → CitemTree
default_of place s = record { place = place; matched = default; body = s }

abbrev pub values_of : ExprTree × List ExprTree → StmtTree → CitemTree
values_of es s = record { place = place_of es.0; matched = values (es.0 ∷ es.1); body = s }

unfoldable pub default_item : Bool → G CitemTree
default_item inside =
    two default_of (at_the lexeme.Default) (after (opt (is lexeme.Colon) (the lexeme.Colon))
    (inner_stmt inside))

unfoldable pub values_item : Bool → G CitemTree
values_item inside =
    two values_of (seq (expression true) (rep (is lexeme.Comma)
    (after (the lexeme.Comma) (expression true))))
    (after (the lexeme.Colon) (inner_stmt inside))

unfoldable pub citem : Bool → G CitemTree
citem inside = alt (is lexeme.Default) (default_item inside) (values_item inside)

abbrev pub begins_citem : Token → Bool
begins_citem t = is lexeme.Default t || begins_expression t

-- ( "case" | "casez" | "casex" ) "(" expr ")" citem { citem } "endcase" (IEEE 1364-2005, A.6.7)
abbrev pub case_of : Place × CaseWord → ExprTree × (CitemTree × List CitemTree) → StmtTree
case_of w r = S.stmt w.0 (S.case_stmt w.1 r.0 (S.citems (r.1.0 ∷ r.1.1)))

unfoldable pub citems : Bool → G (CitemTree × List CitemTree)
citems inside = seq (citem inside) (rep begins_citem (citem inside))

unfoldable pub case_stmt : Bool → G StmtTree
case_stmt inside =
    two case_of (placed_row case_rows)
    (seq (in_parens (expression true)) (before (citems inside) (the lexeme.Endcase)))

-- "for" "(" lv "=" expr ";" expr ";" lv "=" expr ")" stmt (IEEE 1364-2005, A.6.8)
abbrev pub for_of : Place → (SetTree × (ExprTree × SetTree)) × StmtTree → StmtTree
for_of place r = S.stmt place (S.for_stmt r.0.0 r.0.1.0 r.0.1.1 r.1)

unfoldable pub for_head : G (SetTree × (ExprTree × SetTree))
for_head =
    seq (set true) (after (the lexeme.Semicolon)
    (seq (expression true) (after (the lexeme.Semicolon) (set true))))

unfoldable pub for_stmt : Bool → G StmtTree
for_stmt inside = two for_of (at_the lexeme.For) (seq (in_parens for_head) (inner_stmt inside))

-- ( "while" | "repeat" ) "(" expr ")" stmt, "forever" stmt (IEEE 1364-2005, A.6.8)
abbrev pub loop_of : Place × LoopWord → ExprTree × StmtTree → StmtTree
loop_of w r = S.stmt w.0 (S.loop_stmt w.1 r.0 r.1)

unfoldable pub loop_stmt : Bool → G StmtTree
loop_stmt inside =
    two loop_of (placed_row loop_rows) (seq (in_parens (expression true)) (inner_stmt inside))

abbrev pub forever_of : Place → StmtTree → StmtTree
forever_of place s = S.stmt place (S.forever_stmt s)

unfoldable pub forever_stmt : Bool → G StmtTree
forever_stmt inside = two forever_of (at_the lexeme.Forever) (inner_stmt inside)

-- [ ":" ID { decl } ] { stmt } (IEEE 1364-2005, A.6.3)
unfoldable pub naming : G (Option (Id × List DeclTree))
naming = opt (is lexeme.Colon) (after (the lexeme.Colon) (seq an_id (rep (is_any decl_lexemes) decl)))

unfoldable pub stmts : Bool → G (List StmtTree)
stmts inside = rep begins_statement (inner_stmt inside)

-- "begin" .. "end", "fork" .. "join" (IEEE 1364-2005, A.6.3)
abbrev pub block_of : BlockWord → Place → Option (Id × List DeclTree) × List StmtTree → StmtTree
block_of word place r = with_naming word place r.0 (S.stmts r.1)
  where
    with_naming : BlockWord → Place → Option (Id × List DeclTree) → S.Stmts → StmtTree
    with_naming word place None all = S.stmt place (S.block_stmt word None [] all)
    with_naming word place (Some l) all = S.stmt place (S.block_stmt word (Some l.0) l.1 all)

unfoldable pub begin_stmt : Bool → G StmtTree
begin_stmt inside =
    two (block_of blocks.Begin) (at_the lexeme.Begin)
    (before (seq naming (stmts inside)) (the lexeme.End))

unfoldable pub fork_stmt : Bool → G StmtTree
fork_stmt inside =
    two (block_of blocks.Fork) (at_the lexeme.Fork)
    (before (seq naming (stmts inside)) (the lexeme.Join))

-- "->" name ";", "disable" name ";" (IEEE 1364-2005, A.6.5)
abbrev pub trigger_of : Place → Path → StmtTree
trigger_of place p = simple_at place (S.trigger (whole_name p))

abbrev pub disable_of : Place → Path → StmtTree
disable_of place p = simple_at place (S.disable (whole_name p))

unfoldable pub trigger_stmt : G StmtTree
trigger_stmt = two trigger_of (at_the lexeme.Arrow) (ended (path (expression true) false))

unfoldable pub disable_stmt : G StmtTree
disable_stmt = two disable_of (at_the lexeme.Disable) (ended (path (expression true) false))

-- ( "force" | "assign" ) lv "=" expr ";": a call in it is left out (IEEE 1364-2005, A.6.2)
abbrev pub force_of : Place × ForceWord → SetTree → StmtTree
force_of w s = simple_at w.0 (S.force w.1 s)

unfoldable pub force_stmt : G StmtTree
force_stmt = two force_of (placed_row force_rows) (ended (set false))

-- ( "release" | "deassign" ) lv ";" (IEEE 1364-2005, A.6.2)
abbrev pub release_of : Place × ReleaseWord → LvTree → StmtTree
release_of w l = simple_at w.0 (S.release w.1 l)

unfoldable pub release_stmt : G StmtTree
release_stmt = two release_of (placed_row release_rows) (ended (lv (expression true)))

-- [ expr ] { "," [ expr ] } (IEEE 1364-2005, A.6.9)
abbrev pub all_of : {A : Type 0} → Option (List A) → List A
all_of None = []
all_of (Some all) = all

unfoldable pub slot : Bool → G (Option ExprTree)
slot calls = opt begins_expression (expression calls)

abbrev pub begins_slots : Token → Bool
begins_slots t = begins_expression t || is lexeme.Comma t

-- [ "(" [ expr ] { "," [ expr ] } ")" ]: nothing between the brackets is no argument (IEEE
-- 1364-2005, A.6.9)
unfoldable pub slots : Bool → G (List (Option ExprTree))
slots calls =
    act all_of (opt (is lexeme.LeftParen) (in_parens
    (act all_of (opt begins_slots (comma_list (slot calls))))))

-- SYS [ "(" [ expr ] { "," [ expr ] } ")" ] ";" (IEEE 1364-2005, A.6.9)
abbrev pub system_of_stmt : Id → List (Option ExprTree) → StmtTree
system_of_stmt id es = simple_at id.place (S.system_call id es)

unfoldable pub system_task : Id → G StmtTree
system_task id = act (system_of_stmt id) (ended (slots (calls_in true id)))

unfoldable pub system_stmt : G StmtTree
system_stmt = bind a_system system_task

-- stmt (IEEE 1364-2005, A.6.4)
unfoldable pub statement : Bool → G StmtTree
statement inside =
    alt (is lexeme.Semicolon) empty_stmt
    (alt is_name (by_name_stmt inside)
    (alt (is lexeme.LeftBrace) (by_brace_stmt inside)
    (alt (is lexeme.Hash) (delay_stmt inside)
    (alt (is lexeme.At) (event_stmt inside)
    (alt (is lexeme.Wait) (wait_stmt inside)
    (alt (is lexeme.If) (if_stmt inside)
    (alt (in_rows case_rows) (case_stmt inside)
    (alt (is lexeme.For) (for_stmt inside)
    (alt (in_rows loop_rows) (loop_stmt inside)
    (alt (is lexeme.Forever) (forever_stmt inside)
    (alt (is lexeme.Begin) (begin_stmt inside)
    (alt (is lexeme.Fork) (fork_stmt inside)
    (alt (is lexeme.Arrow) trigger_stmt
    (alt (is lexeme.Disable) disable_stmt
    (alt (in_rows force_rows) force_stmt
    (alt (in_rows release_rows) release_stmt
    system_stmt))))))))))))))))

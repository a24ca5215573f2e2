-- The whole grammar of scripts, as a table of productions, which stand in the table's order. The rows:
--
--     app     = "app" NAME ";" { "var" NAME { "," NAME } ";" } [ "startup" "{" { order ";" } "}" ]
--               { "proc" NAME block }
--     block   = "{" { cmd } "}"
--     cmd     = [ NAME "=" ] order ";" | "set" NAME "=" atom [ "+" atom ] ";" | "return" ";"
--             | "if" "(" test ")" block [ "else" block ] | "while" "(" test ")" block
--     test    = atom ( "==" | "!=" ) atom
--     atom    = NUMBER | TEXT | "null" | NAME | "obj" | "me" | "value" | "index" | "data" | "time" | "last"
--     order   = the word of a routine, and its arguments: a row each, below
use Rattle.std.specs.Prelude.{ℕ, ◌-◌, Bool, true, false, is_some, List, [], ◌∷◌, ◌++◌, Option, Some, None}
use Rattle.vh_base.specs.declared.faults.AppFault.{AppFault}
use Rattle.vh_base.specs.declared.format.Format.{Format}
use Rattle.vh_base.specs.declared.words.Mode.{Mode}
use Rattle.vh_base.specs.declared.words.Reason.{Reason}
use Rattle.vh_base.specs.declared.words.SystfKind.{SystfKind}
use Rattle.vh_app_lines.specs.declared.routine.Routine.{Routine}
use Rattle.vh_app_lines.specs.declared.routine.Routine.TheVariants as routine
use Rattle.vh_parse_grammar.specs.Part.{Part, done, tok, seq, bind, act, alt, rep, iter, nested, only, two, after, before, opt}
use Rattle.vh_app_script.specs.declared.env.TheConstants.{MOST_COMMANDS}
use Rattle.vh_app_script.specs.declared.token.Keyword.{Keyword}
use Rattle.vh_app_script.specs.declared.token.Keyword.TheVariants as keyword
use Rattle.vh_app_script.specs.declared.token.Symbol.{Symbol}
use Rattle.vh_app_script.specs.declared.token.Symbol.TheVariants as symbol
use Rattle.vh_app_script.specs.declared.words.BodyWord.{BodyWord}
use Rattle.vh_app_script.specs.declared.words.BodyWord.TheVariants as bodies
use Rattle.vh_app_script.specs.declared.words.Opening.{Opening}
use Rattle.vh_app_script.specs.declared.words.Opening.TheVariants as opens
use Rattle.vh_app_script.specs.Token.{Terminal, keyword_text, is_symbol, is_spelled}
use Rattle.vh_app_script.specs.Tree as tree
use Rattle.vh_app_script.specs.Tree.{Atom, Body, Order, Test, Command, Procedure, App, commands}
use Rattle.vh_app_script.specs.Env.{Env, startup_env, procedure_env, with_name}
use Rattle.vh_app_script.specs.Words.{atom_in, name_in, new_name_in, names_in, variable_in, order_in, opening_in, relation_in, property_in, format_in, mode_in, reason_in, kind_in, control_in, body_word_in}

-- Commands as far as they are read, and how many more there may be (own).
pub record Run : Type 0 where
  pub commands : List Command
  pub room : ℕ

-- The production that nests: a block, in which these names are in sight, with room for so many
-- commands (own).
pub data Name : Type 0 where
  block : Env → ℕ → Name

-- Its trees (own).
abbrev pub tree_of : Name → Type 0
tree_of (block env room) = Run

-- A part of the grammar (own).
abbrev pub G : Type 0 → Type 1
G A = Part Terminal tree_of A

-- A symbol, and a word of the rows (own).
abbrev pub the : Symbol → G (Unit {0})
the m = only (is_symbol m)

abbrev pub is_word : Keyword → Terminal → Bool
is_word k = is_spelled (keyword_text k)

abbrev pub the_word : Keyword → G (Unit {0})
the_word k = only (is_word k)

-- No token at all can stand there (own).
abbrev pub nothing : {A : Type 0} → G A
nothing = tok (λ t. None)

-- The part and a ";" (own).
abbrev pub ended : {A : Type 0} → G A → G A
ended part = before part (the symbol.Semicolon)

-- The part in braces, and in parentheses (own).
abbrev pub in_braces : {A : Type 0} → G A → G A
in_braces part = after (the symbol.OpenBrace) (before part (the symbol.CloseBrace))

abbrev pub in_parens : {A : Type 0} → G A → G A
in_parens part = after (the symbol.OpenParen) (before part (the symbol.CloseParen))

-- atom, and NAME (own).
abbrev pub atom : Env → G Atom
atom env = tok (atom_in env)

abbrev pub name : AppFault → G (List ℕ)
name rules = tok (name_in rules)

-- Two atoms (own).
abbrev pub atoms : Env → G (Atom × Atom)
atoms env = seq (atom env) (atom env)

-- The arguments of the routines that take a word with an atom, or more (own).
abbrev pub by_name_of : Atom × Atom → Order
by_name_of a = tree.by_name a.0 a.1

abbrev pub by_index_of : Atom × Atom → Order
by_index_of a = tree.by_index a.0 a.1

abbrev pub compare_of : Atom × Atom → Order
compare_of a = tree.compare a.0 a.1

unfoldable pub get_value_row : Env → G Order
get_value_row env = two tree.get_value (atom env) (tok (format_in env.rules))

abbrev pub put_of : Atom × (Format × (Atom × (Mode × (Atom × Option (Unit {0}))))) → Order
put_of p = tree.put_value p.0 p.1.0 p.1.1.0 p.1.1.1.0 p.1.1.1.1.0 (is_some p.1.1.1.1.1)

unfoldable pub put_value_row : Env → G Order
put_value_row env =
    act put_of
    (seq (atom env) (seq (tok (format_in env.rules)) (seq (atom env) (seq (tok (mode_in env.rules))
    (seq (atom env) (opt (is_word keyword.Event) (the_word keyword.Event)))))))

-- BODY (own).
abbrev pub body_of : BodyWord → List ℕ → Body
body_of bodies.Proc bytes = tree.proc bytes
body_of bodies.Native bytes = tree.native bytes

unfoldable pub body : AppFault → G Body
body rules = two body_of (tok body_word_in) (name rules)

abbrev pub register_of : Reason × (Atom × (Atom × (Body × Atom))) → Order
register_of p = tree.register p.0 p.1.0 p.1.1.0 p.1.1.1.0 p.1.1.1.1

unfoldable pub register_row : Env → G Order
register_row env =
    act register_of
    (seq (tok (reason_in env.rules)) (seq (atom env) (seq (atom env) (seq (body env.rules) (atom env)))))

abbrev pub systf_of : SystfKind × (Atom × (Atom × (List ℕ × Option (List ℕ)))) → Order
systf_of p = tree.register_systf p.0 p.1.0 p.1.1.0 p.1.1.1.0 p.1.1.1.1

unfoldable pub register_systf_row : Env → G Order
register_systf_row env =
    act systf_of
    (seq (tok kind_in) (seq (atom env) (seq (atom env) (seq (after (the_word keyword.Calltf) (name env.rules))
    (opt (is_word keyword.Compiletf) (after (the_word keyword.Compiletf) (name env.rules)))))))

-- The arguments of each routine, behind its word (own; IEEE 1364-2005, clause 27).
abbrev pub arguments : Env → Routine → G Order
arguments env routine.ByName = act by_name_of (atoms env)
arguments env routine.ByIndex = act by_index_of (atoms env)
arguments env routine.Handle = two tree.handle (tok (relation_in env.rules)) (atom env)
arguments env routine.Iterate = two tree.iterate (tok (relation_in env.rules)) (atom env)
arguments env routine.Scan = act tree.scan (atom env)
arguments env routine.Free = act tree.free (atom env)
arguments env routine.Compare = act compare_of (atoms env)
arguments env routine.Get = two tree.get (tok (property_in env.rules)) (atom env)
arguments env routine.GetStr = two tree.get_str (tok (property_in env.rules)) (atom env)
arguments env routine.GetValue = get_value_row env
arguments env routine.PutValue = put_value_row env
arguments env routine.Cancel = act tree.cancel (atom env)
arguments env routine.GetTime = done tree.get_time
arguments env routine.Register = register_row env
arguments env routine.Remove = act tree.remove (atom env)
arguments env routine.CbInfo = act tree.cb_info (atom env)
arguments env routine.RegisterSystf = register_systf_row env
arguments env routine.ChkError = done tree.chk_error
arguments env routine.Control = act tree.control (tok control_in)
arguments env routine.Print = act tree.print (atom env)
arguments env routine.SetData = act tree.set_data (atom env)
-- These two aren't written (own).
arguments env routine.Pass = nothing
arguments env routine.Return = nothing

-- What stands behind the word of an order (own).
abbrev pub order_end : Env → Opening → G Order
order_end env (opens.Ask routine) = arguments env routine
order_end env (opens.Target n) = nothing
order_end env opens.Set = nothing
order_end env opens.Return = nothing
order_end env opens.If = nothing
order_end env opens.While = nothing
order_end env opens.Nothing = nothing

-- order (own)
unfoldable pub order : Env → G Order
order env = bind (tok (order_in env.rules)) (order_end env)

-- test (own)
abbrev pub test_of : Atom × (Bool × Atom) → Test
test_of p = record { left = p.0; same = p.1.0; right = p.1.1 }

unfoldable pub sign : G Bool
sign = alt (is_symbol symbol.Equals) (act (λ u. true) (the symbol.Equals)) (act (λ u. false) (the symbol.Differs))

unfoldable pub test_row : Env → G Test
test_row env = act test_of (seq (atom env) (seq sign (atom env)))

-- "set" NAME "=" atom [ "+" atom ] ";", behind its word (own)
abbrev pub set_of : ℕ × (Atom × Option Atom) → Command
set_of p = tree.set p.0 p.1.0 p.1.1

unfoldable pub set_end : Env → G Command
set_end env =
    ended (act set_of (seq (tok (variable_in env.variables)) (after (the symbol.Becomes)
    (seq (atom env) (opt (is_symbol symbol.Plus) (after (the symbol.Plus) (atom env)))))))

-- block, a level deeper: no level is wanting where none begins (own)
abbrev pub inner_block : Env → ℕ → G Run
inner_block env room = nested (block env room)

unfoldable pub nested_block : Env → ℕ → G Run
nested_block env room = alt (is_symbol symbol.OpenBrace) (inner_block env room) nothing

-- A command, and how many more there may be (own).
abbrev pub counted : ℕ → Command → Command × ℕ
counted room c = (c, room - 1)

-- "else" block, if it is written (own)
abbrev pub no_commands : ℕ → Run
no_commands room = record { commands = []; room = room }

unfoldable pub otherwise : Env → ℕ → G Run
otherwise env room =
    alt (is_word keyword.Else) (after (the_word keyword.Else) (nested_block env room)) (done (no_commands room))

-- "if" "(" test ")" block [ "else" block ], behind its word (own)
abbrev pub choice_of : Test → List Command → Run → Command × ℕ
choice_of t holds fails = (tree.choose t (commands holds) (commands fails.commands), fails.room)

unfoldable pub branches : Env → Test → ℕ → G (Command × ℕ)
branches env t room = bind (nested_block env room) (λ holds. act (choice_of t holds.commands) (otherwise env holds.room))

unfoldable pub if_end : Env → ℕ → G (Command × ℕ)
if_end env room = bind (in_parens (test_row env)) (λ t. branches env t (room - 1))

-- "while" "(" test ")" block, behind its word (own)
abbrev pub loop_of : Test → Run → Command × ℕ
loop_of t body = (tree.loop t (commands body.commands), body.room)

unfoldable pub while_end : Env → ℕ → G (Command × ℕ)
while_end env room = two loop_of (in_parens (test_row env)) (nested_block env (room - 1))

-- NAME "=" order ";", behind its name, and order ";", behind its word (own)
unfoldable pub target_end : Env → ℕ → G Command
target_end env n = ended (act (tree.ask (Some n)) (after (the symbol.Becomes) (order env)))

unfoldable pub ask_end : Env → Routine → G Command
ask_end env routine = ended (act (tree.ask None) (arguments env routine))

-- "return" ";", behind its word (own)
unfoldable pub return_end : G Command
return_end = ended (done tree.finish)

-- A command behind its first word, a row for each (own).
abbrev pub command_end : Env → ℕ → Opening → G (Command × ℕ)
command_end env room (opens.Target n) = act (counted room) (target_end env n)
command_end env room opens.Set = act (counted room) (set_end env)
command_end env room opens.Return = act (counted room) return_end
command_end env room opens.If = if_end env room
command_end env room opens.While = while_end env room
command_end env room (opens.Ask routine) = act (counted room) (ask_end env routine)
command_end env room opens.Nothing = nothing

-- cmd (own)
unfoldable pub command : Env → ℕ → G (Command × ℕ)
command env room = bind (tok (opening_in env room)) (command_end env room)

-- The token begins a command (own).
abbrev pub begins_command : Env → Run → Terminal → Bool
begins_command env run t = is_some (opening_in env run.room t)

-- One command more (own).
abbrev pub with_command : Run → Command × ℕ → Run
with_command run c = record { commands = run.commands ++ c.0 ∷ []; room = c.1 }

unfoldable pub one_more : Env → Run → G Run
one_more env run = act (with_command run) (command env run.room)

-- { cmd } (own)
abbrev pub more_commands : Env → Run → G Run
more_commands env run = iter (begins_command env) (one_more env) run

-- block (own)
unfoldable pub any_block : Env → ℕ → G Run
any_block env room = in_braces (more_commands env (no_commands room))

-- The table of the productions that nest (own).
abbrev pub grammar : (p : Name) → G (tree_of p)
grammar (block env room) = any_block env room

-- "app" NAME ";", the name being none of an earlier script (own)
unfoldable pub heading : AppFault → List (List ℕ) → G (List ℕ)
heading rules earlier = after (the_word keyword.App) (ended (tok (new_name_in rules earlier)))

-- NAME { "," NAME }, each another one than those before (own)
abbrev pub further_names : AppFault → List (List ℕ) → G (List (List ℕ))
further_names rules names = iter (λ u. is_symbol symbol.Comma) (λ u. after (the symbol.Comma) (tok (names_in rules u))) names

-- "var" NAME { "," NAME } ";" (own)
unfoldable pub declaration : AppFault → List (List ℕ) → G (List (List ℕ))
declaration rules names = after (the_word keyword.Var) (ended (bind (tok (names_in rules names)) (further_names rules)))

-- { "var" NAME { "," NAME } ";" } (own)
abbrev pub declarations : AppFault → List (List ℕ) → G (List (List ℕ))
declarations rules names = iter (λ u. is_word keyword.Var) (declaration rules) names

-- { order ";" } (own)
abbrev pub begins_order : AppFault → Terminal → Bool
begins_order rules t = is_some (order_in rules t)

unfoldable pub startup_order : AppFault → G Order
startup_order rules = ended (order (startup_env rules))

abbrev pub startup_orders : AppFault → G (List Order)
startup_orders rules = rep (begins_order rules) (startup_order rules)

-- [ "startup" "{" { order ";" } "}" ] (own)
unfoldable pub startup : AppFault → G (List Order)
startup rules =
    alt (is_word keyword.Startup) (after (the_word keyword.Startup) (in_braces (startup_orders rules))) (done [])

-- Procedures as far as they are read, their names, and how many more commands there may be (own).
pub record Procs : Type 0 where
  pub names : List (List ℕ)
  pub procedures : List Procedure
  pub room : ℕ

abbrev pub no_procedure : Procs
no_procedure = record { names = []; procedures = []; room = MOST_COMMANDS }

-- One procedure more (own).
abbrev pub procedure_of : List ℕ → Run → Procedure
procedure_of bytes run = record { name = bytes; commands = run.commands }

abbrev pub with_procedure : Procs → List ℕ → Run → Procs
with_procedure procs bytes run =
    record { names = with_name procs.names bytes; procedures = procs.procedures ++ procedure_of bytes run ∷ []; room = run.room }

-- "proc" NAME block, the name being none of an earlier procedure (own)
unfoldable pub procedure : Env → Procs → G Procs
procedure env procs =
    after (the_word keyword.Proc)
    (two (with_procedure procs) (tok (new_name_in env.rules procs.names)) (nested_block env procs.room))

-- { "proc" NAME block } (own)
abbrev pub more_procedures : Env → Procs → G Procs
more_procedures env procs = iter (λ u. is_word keyword.Proc) (procedure env) procs

-- A script behind its declarations (own).
abbrev pub app_of : List ℕ → List (List ℕ) → List Order → Procs → App
app_of bytes variables orders procs =
    record { name = bytes; variables = variables; startup = orders; procedures = procs.procedures }

unfoldable pub rest_of : AppFault → List ℕ → List (List ℕ) → G App
rest_of rules bytes variables =
    two (app_of bytes variables) (startup rules) (more_procedures (procedure_env rules variables) no_procedure)

unfoldable pub declared : AppFault → List ℕ → G App
declared rules bytes = bind (declarations rules []) (rest_of rules bytes)

-- app (own)
unfoldable pub app : AppFault → List (List ℕ) → G App
app rules earlier = bind (heading rules earlier) (declared rules)

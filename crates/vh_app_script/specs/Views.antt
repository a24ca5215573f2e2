-- How contracts see what the code holds, and what they say of it.
use Rattle.std.specs.Prelude.{◌≡◌, ℕ, List, map, Bool, false, Option, Some, None, option_map, Result, Ok, Err}
use Rattle.std.specs.Borrow.{Bor}
use Rattle.vh_base.specs.Lists.{names_seen}
use Rattle.vh_base.specs.declared.faults.AppFault.{AppFault}
use Rattle.vh_base.specs.declared.place.Place.{Place}
use Rattle.vh_parse_grammar.specs.declared.stop.Stop.{Stop}
use Rattle.vh_parse_grammar.specs.Part.{only}
use Rattle.vh_parse_grammar.specs.Reading.{Out, got, next_is, token_of, read}
use Rattle.vh_parse_grammar.specs.Says.{Stops}
use Rattle.vh_app_script.specs.declared.app.Procs as held_procs
use Rattle.vh_app_script.specs.declared.block.Counted as held_counted
use Rattle.vh_app_script.specs.declared.block.Run as held_run
use Rattle.vh_app_script.specs.declared.env.Env as held_env
use Rattle.vh_app_script.specs.declared.fault.ScriptFault.{ScriptFault}
use Rattle.vh_app_script.specs.declared.fault.ScriptFault.TheVariants as faults
use Rattle.vh_app_script.specs.declared.lexer.Piece as held_piece
use Rattle.vh_app_script.specs.declared.lexer.Piece.TheVariants as pieces
use Rattle.vh_app_script.specs.declared.token.Kind as held_kind
use Rattle.vh_app_script.specs.declared.token.Kind.TheVariants as kinds
use Rattle.vh_app_script.specs.declared.token.Token as held_token
use Rattle.vh_app_script.specs.declared.tree.Atom as held_atom
use Rattle.vh_app_script.specs.declared.tree.Atom.TheVariants as atoms
use Rattle.vh_app_script.specs.declared.tree.Body as held_body
use Rattle.vh_app_script.specs.declared.tree.Body.TheVariants as bodies
use Rattle.vh_app_script.specs.declared.tree.Order as held_order
use Rattle.vh_app_script.specs.declared.tree.Order.TheVariants as orders
use Rattle.vh_app_script.specs.declared.tree.Test as held_test
use Rattle.vh_app_script.specs.declared.tree.Command as held_command
use Rattle.vh_app_script.specs.declared.tree.Command.TheOpen as open_
use Rattle.vh_app_script.specs.declared.tree.Procedure as held_procedure
use Rattle.vh_app_script.specs.declared.tree.App as held_app
use Rattle.vh_app_script.specs.Token.{Terminal, word, number, text, symbol, wrong, Token}
use Rattle.vh_app_script.specs.Spelling.{Piece, blank, token, no_token, unescaped}
use Rattle.vh_app_script.specs.Tree as tree
use Rattle.vh_app_script.specs.Tree.{Atom, Body, Order, Test, Command, Procedure, App}
use Rattle.vh_app_script.specs.Env.{Env}
use Rattle.vh_app_script.specs.Grammar.{G, grammar, Run, Procs}

-- A token of the code, which holds a text with its escapes (own).
abbrev pub kind_seen : held_kind.Kind → Terminal
kind_seen (kinds.Word aimed bytes) = word aimed bytes.now
kind_seen (kinds.Number n) = number n
kind_seen (kinds.Text bytes) = text (unescaped false bytes.now)
kind_seen (kinds.Symbol m) = symbol m
kind_seen kinds.Wrong = wrong

abbrev pub token_seen : held_token.Token → Token
token_seen t = record { kind = kind_seen t.kind; left = t.left }

-- A piece of the code (own).
abbrev pub piece_seen : held_piece.Piece → Piece
piece_seen (pieces.Blank len) = blank len
piece_seen (pieces.Token kind len) = token (kind_seen kind) len
piece_seen pieces.NoToken = no_token

-- What the grammar reads of a token (own).
abbrev pub terminal : held_token.Token → Terminal
terminal t = kind_seen t.kind

abbrev pub terminals : List held_token.Token → List Terminal
terminals = map terminal

-- What decides on tokens (own).
abbrev pub env_seen : held_env.Env → Env
env_seen e = record { rules = e.rules; block = e.block; variables = names_seen e.names.keys }

-- Values, orders and tests of the code (own).
abbrev pub atom_seen : held_atom.Atom → Atom
atom_seen (atoms.Number n) = tree.number n
atom_seen (atoms.Text bytes) = tree.text (unescaped false bytes.now)
atom_seen atoms.Null = tree.null
atom_seen (atoms.Variable n) = tree.variable n
atom_seen atoms.Obj = tree.obj
atom_seen atoms.Me = tree.me
atom_seen atoms.Value = tree.value
atom_seen atoms.Index = tree.index
atom_seen atoms.Data = tree.data_
atom_seen atoms.Time = tree.time
atom_seen atoms.Last = tree.last

abbrev pub atoms_seen : held_atom.Atom × held_atom.Atom → Atom × Atom
atoms_seen a = (atom_seen a.0, atom_seen a.1)

abbrev pub body_seen : held_body.Body → Body
body_seen (bodies.Proc bytes) = tree.proc bytes.now
body_seen (bodies.Native bytes) = tree.native bytes.now

abbrev pub name_seen : Option (Bor (List ℕ)) → Option (List ℕ)
name_seen None = None
name_seen (Some bytes) = Some bytes.now

abbrev pub order_seen : held_order.Order → Order
order_seen (orders.ByName a b) = tree.by_name (atom_seen a) (atom_seen b)
order_seen (orders.ByIndex a b) = tree.by_index (atom_seen a) (atom_seen b)
order_seen (orders.Handle relation a) = tree.handle relation (atom_seen a)
order_seen (orders.Iterate relation a) = tree.iterate relation (atom_seen a)
order_seen (orders.Scan a) = tree.scan (atom_seen a)
order_seen (orders.Free a) = tree.free (atom_seen a)
order_seen (orders.Compare a b) = tree.compare (atom_seen a) (atom_seen b)
order_seen (orders.Get property a) = tree.get property (atom_seen a)
order_seen (orders.GetStr property a) = tree.get_str property (atom_seen a)
order_seen (orders.GetValue a format) = tree.get_value (atom_seen a) format
order_seen (orders.PutValue a format b mode time event) =
    tree.put_value (atom_seen a) format (atom_seen b) mode (atom_seen time) event
order_seen (orders.Cancel a) = tree.cancel (atom_seen a)
order_seen orders.GetTime = tree.get_time
order_seen (orders.Register reason a time body data_) =
    tree.register reason (atom_seen a) (atom_seen time) (body_seen body) (atom_seen data_)
order_seen (orders.Remove a) = tree.remove (atom_seen a)
order_seen (orders.CbInfo a) = tree.cb_info (atom_seen a)
order_seen (orders.RegisterSystf kind a b calltf compiletf) =
    tree.register_systf kind (atom_seen a) (atom_seen b) calltf.now (name_seen compiletf)
order_seen orders.ChkError = tree.chk_error
order_seen (orders.Control stop) = tree.control stop
order_seen (orders.Print a) = tree.print (atom_seen a)
order_seen (orders.SetData a) = tree.set_data (atom_seen a)

abbrev pub test_seen : held_test.Test → Test
test_seen t = record { left = atom_seen t.left; same = t.same; right = atom_seen t.right }

-- One layer of a command of the code, and a command (own).
abbrev pub command_layer : open_.Command-F Command → Command
command_layer (open_.Ask target order) = tree.ask target (order_seen order)
command_layer (open_.Set n a b) = tree.set n (atom_seen a) (option_map atom_seen b)
command_layer open_.Return = tree.finish
command_layer (open_.If test holds fails) = tree.choose (test_seen test) (tree.commands holds) (tree.commands fails)
command_layer (open_.While test body) = tree.loop (test_seen test) (tree.commands body)

abbrev pub command_tree : held_command.Command → Command
command_tree = held_command.fold-Command Command command_layer

abbrev pub commands_seen : List held_command.Command → List Command
commands_seen = map command_tree

-- Commands as far as they are read, and one more (own).
abbrev pub run_seen : held_run.Run → Run
run_seen r = record { commands = commands_seen r.commands; room = r.room }

abbrev pub counted_seen : held_counted.Counted → Command × ℕ
counted_seen c = (command_tree c.command, c.room)

-- Procedures, and a whole script of the code (own).
abbrev pub procedure_seen : held_procedure.Procedure → Procedure
procedure_seen p = record { name = p.name.now; commands = commands_seen p.commands }

abbrev pub procs_seen : held_procs.Procs → Procs
procs_seen p =
    record { names = names_seen p.names.keys; procedures = map procedure_seen p.procedures; room = p.room }

abbrev pub app_seen : held_app.App → App
app_seen a =
    record {
      name = a.name.now;
      variables = names_seen a.variables;
      startup = map order_seen a.startup;
      procedures = map procedure_seen a.procedures;
    }

-- An answer of the code is what reading gives (own).
abbrev pub Says : {A X : Type 0} → (X → A) → Out Terminal A → Result (X × Bor (List held_token.Token)) Stop → Type 0
Says view o (Ok found) = o ≡ got (view found.0) (terminals found.1.now)
Says view o (Err why) = Stops o why

-- The same where a token has to stand there, and means no more (own).
abbrev pub Passes : Out Terminal (Unit {0}) → Result (Bor (List held_token.Token)) Stop → Type 0
Passes o (Ok rest) = o ≡ got tt (terminals rest.now)
Passes o (Err why) = Stops o why

-- The same where a value of the code is changed to what is read (own).
abbrev pub Gives : {A : Type 0} → A → Out Terminal A → Result (Bor (List held_token.Token)) Stop → Type 0
Gives a o (Ok rest) = o ≡ got a (terminals rest.now)
Gives a o (Err why) = Stops o why

-- Reading the part, with so many levels left below it, gives what the code returns (own).
abbrev pub Reads : {A X : Type 0} → (X → A) → ℕ → G A → List held_token.Token → Result (X × Bor (List held_token.Token)) Stop → Type 0
Reads view levels part tokens result = Says view (read grammar levels part (terminals tokens)) result

-- A token of the class, and one with a meaning, is what the code takes (own).
abbrev pub TakesToken : (Terminal → Bool) → List held_token.Token → Result (Bor (List held_token.Token)) Stop → Type 0
TakesToken class tokens result = Passes (read grammar 0 (only class) (terminals tokens)) result

abbrev pub TakesMeaning : {A X : Type 0} → (X → A) → (Terminal → Option A) → List held_token.Token → Result (X × Bor (List held_token.Token)) Stop → Type 0
TakesMeaning view meaning tokens result = Says view (token_of meaning (terminals tokens)) result

-- A token of the class is next (own).
abbrev pub token_is_next : (Terminal → Bool) → List held_token.Token → Bool
token_is_next class tokens = next_is class (terminals tokens)

-- It is what is answered: a script, or a fault at its place; want of memory says nothing (own).
abbrev pub IsAnswer : Result App (AppFault × Place) → Result held_app.App ScriptFault → Type 0
IsAnswer answer (Ok app) = answer ≡ Ok (app_seen app)
IsAnswer answer (Err (faults.Refused fault place)) = answer ≡ Err (fault, place)
IsAnswer answer (Err faults.NoMemory) = Unit {0}

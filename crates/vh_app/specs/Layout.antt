-- The steps that a script's tree is laid out in. Startup and procedures stand one behind the other, each
-- with a return behind its last command (own).
use Rattle.std.specs.Prelude.{ℕ, ◌+◌, List, [], ◌∷◌, ◌++◌, map, length, None, option_map}
use Rattle.vh_app_script.specs.Tree as tree
use Rattle.vh_app.specs.declared.form.Atom.{Atom}
use Rattle.vh_app.specs.declared.form.Atom.TheVariants as atom
use Rattle.vh_app.specs.declared.form.Body.{Body}
use Rattle.vh_app.specs.declared.form.Body.TheVariants as body
use Rattle.vh_app.specs.declared.form.Form.{Form}
use Rattle.vh_app.specs.declared.form.Form.TheVariants as form
use Rattle.vh_app.specs.declared.form.Node.{Node}
use Rattle.vh_app.specs.declared.form.Node.TheVariants.{Ask, Set, Choose, Turn, Go, Return}
use Rattle.vh_app.specs.declared.form.Procedure.{Procedure}
use Rattle.vh_app.specs.declared.form.Test.{Test}
use Rattle.vh_app.specs.Script.{ScriptData}

-- Values, bodies, orders and tests, a row for each.
abbrev pub atom_laid : tree.Atom → Atom
atom_laid (tree.number n) = atom.Number n
atom_laid (tree.text bytes) = atom.Text bytes
atom_laid tree.null = atom.Null
atom_laid (tree.variable n) = atom.Variable n
atom_laid tree.obj = atom.Obj
atom_laid tree.me = atom.Me
atom_laid tree.value = atom.Value
atom_laid tree.index = atom.Index
atom_laid tree.data_ = atom.Data
atom_laid tree.time = atom.Time
atom_laid tree.last = atom.Last

abbrev pub body_laid : tree.Body → Body
body_laid (tree.proc name) = body.Proc name
body_laid (tree.native name) = body.Native name

abbrev pub form_laid : tree.Order → Form
form_laid (tree.by_name path scope) = form.ByName (atom_laid path) (atom_laid scope)
form_laid (tree.by_index memory address) = form.ByIndex (atom_laid memory) (atom_laid address)
form_laid (tree.handle relation object) = form.Handle relation (atom_laid object)
form_laid (tree.iterate relation object) = form.Iterate relation (atom_laid object)
form_laid (tree.scan a) = form.Scan (atom_laid a)
form_laid (tree.free a) = form.Free (atom_laid a)
form_laid (tree.compare a b) = form.Compare (atom_laid a) (atom_laid b)
form_laid (tree.get property object) = form.Get property (atom_laid object)
form_laid (tree.get_str property object) = form.GetStr property (atom_laid object)
form_laid (tree.get_value object format) = form.GetValue (atom_laid object) format
form_laid (tree.put_value object format digits mode at event) =
    form.PutValue (atom_laid object) format (atom_laid digits) mode (atom_laid at) event
form_laid (tree.cancel a) = form.Cancel (atom_laid a)
form_laid tree.get_time = form.GetTime
form_laid (tree.register reason object at body n) =
    form.Register reason (atom_laid object) (atom_laid at) (body_laid body) (atom_laid n)
form_laid (tree.remove a) = form.Remove (atom_laid a)
form_laid (tree.cb_info a) = form.CbInfo (atom_laid a)
form_laid (tree.register_systf kind name size calltf compiletf) =
    form.RegisterSystf kind (atom_laid name) (atom_laid size) calltf compiletf
form_laid tree.chk_error = form.ChkError
form_laid (tree.control stop) = form.Control stop
form_laid (tree.print a) = form.Print (atom_laid a)
form_laid (tree.set_data a) = form.SetData (atom_laid a)

abbrev pub test_laid : tree.Test → Test
test_laid t = record { left = atom_laid t.left; same = t.same; right = atom_laid t.right }

abbrev mutual
  -- How many steps a command has.
  pub size_of : tree.Command → ℕ
  size_of (tree.ask target order) = 1
  size_of (tree.set target a added) = 1
  size_of tree.finish = 1
  size_of (tree.choose test holds fails) = sizes_of holds + sizes_of fails + 2
  size_of (tree.loop test body) = sizes_of body + 2

  pub sizes_of : tree.Commands → ℕ
  sizes_of tree.no_command = 0
  sizes_of (tree.one_command c more) = size_of c + sizes_of more

-- The test of an `if` leads over the commands where it holds and the step behind them.
abbrev pub choice_laid : tree.Test → ℕ → ℕ → Node
choice_laid test at holds = Choose (test_laid test) (at + holds + 2)

-- The test of a `while`, which stands before its commands and once more behind them.
abbrev pub turn_laid : tree.Test → ℕ → ℕ → Node
turn_laid test at size = Turn (test_laid test) (at + 1) (at + size + 2)

abbrev mutual
  -- A command behind the steps that are there.
  pub with_command : tree.Command → List Node → List Node
  with_command (tree.ask target order) ns = ns ++ Ask target (form_laid order) ∷ []
  with_command (tree.set target a added) ns =
      ns ++ Set target (atom_laid a) (option_map atom_laid added) ∷ []
  with_command tree.finish ns = ns ++ Return ∷ []
  with_command (tree.choose test holds fails) ns =
      with_commands fails
      (with_commands holds (ns ++ choice_laid test (length ns) (sizes_of holds) ∷ [])
      ++ Go (length ns + sizes_of holds + sizes_of fails + 2) ∷ [])
  with_command (tree.loop test body) ns =
      with_commands body (ns ++ turn_laid test (length ns) (sizes_of body) ∷ [])
      ++ turn_laid test (length ns) (sizes_of body) ∷ []

  pub with_commands : tree.Commands → List Node → List Node
  with_commands tree.no_command ns = ns
  with_commands (tree.one_command c more) ns = with_commands more (with_command c ns)

-- The orders of a startup.
abbrev pub asked : tree.Order → Node
asked order = Ask None (form_laid order)

-- Procedures behind the steps that are there.
pub record Laid : Type 0 where
  pub procedures : List Procedure
  pub nodes : List Node

abbrev pub with_procedure : Laid → tree.Procedure → Laid
with_procedure so p = record {
  procedures = so.procedures ++ record { name = p.name; start = length so.nodes } ∷ [];
  nodes = with_commands (tree.commands p.commands) so.nodes ++ Return ∷ [];
}

abbrev pub with_procedures : Laid → List tree.Procedure → Laid
with_procedures so [] = so
with_procedures so (p ∷ ps) = with_procedures (with_procedure so p) ps

-- The script of a tree.
abbrev pub startup_laid : List tree.Order → Laid
startup_laid orders = record { procedures = []; nodes = map asked orders ++ Return ∷ [] }

abbrev pub script_from : tree.App → Laid → ScriptData
script_from a so = record {
  name = a.name;
  variables = length a.variables;
  procedures = so.procedures;
  nodes = so.nodes;
}

abbrev pub script_laid : tree.App → ScriptData
script_laid a = script_from a (with_procedures (startup_laid a.startup) a.procedures)

-- What a script orders next.
use Rattle.std.specs.Prelude.{◌≡◌, ℕ, zero, suc, ◌+◌, if◌then◌else◌, List, length, replicate, Option, Some, None, option_map, slice_get, set, bytes_eq, position}
use Rattle.vh_base.specs.declared.orders.Answer.{Answer}
use Rattle.vh_base.specs.declared.orders.Answer.TheVariants as answer
use Rattle.vh_base.specs.declared.orders.Order.{Order}
use Rattle.vh_base.specs.declared.orders.Order.TheVariants as order
use Rattle.vh_base.specs.declared.orders.BodyName.{BodyName}
use Rattle.vh_base.specs.declared.orders.BodyName.TheVariants as body_name
use Rattle.vh_base.specs.declared.orders.ProcName.{ProcName}
use Rattle.vh_base.specs.declared.orders.Seen.{Seen}
use Rattle.vh_app.specs.declared.form.Atom.{Atom}
use Rattle.vh_app.specs.declared.form.Body.{Body}
use Rattle.vh_app.specs.declared.form.Body.TheVariants as body
use Rattle.vh_app.specs.declared.form.Form.{Form}
use Rattle.vh_app.specs.declared.form.Form.TheVariants as form
use Rattle.vh_app.specs.declared.form.Node.{Node}
use Rattle.vh_app.specs.declared.form.Node.TheVariants.{Ask, Set, Choose, Turn, Go, Return}
use Rattle.vh_app.specs.declared.form.Procedure.{Procedure}
use Rattle.vh_app.specs.declared.point.Point.{Point}
use Rattle.vh_app.specs.Script.{ScriptData}
use Rattle.vh_app.specs.Values.{value_of, handle_in, number_in, text_in, holds, set_to}

-- Where an activation begins: at a step, and no variable waits for an answer.
abbrev pub beginning : ℕ → Point
beginning at = record { at = at; waiting = None }

-- Where the startup begins.
abbrev pub startup : Point
startup = beginning 0

-- The number of the procedure of a name, and where it begins.
abbrev pub number_of : ScriptData → List ℕ → Option ℕ
number_of s name = position (λ (p : Procedure). bytes_eq p.name name) s.procedures

abbrev pub start_of : ScriptData → ℕ → Option Point
start_of s n = option_map (λ (p : Procedure). beginning p.start) (slice_get s.procedures n)

abbrev pub procedure_in : ScriptData → Option ℕ → Option Point
procedure_in s None = None
procedure_in s (Some n) = start_of s n

abbrev pub procedure_named : ScriptData → List ℕ → Option Point
procedure_named s name = procedure_in s (number_of s name)

-- All variables are null (own).
abbrev pub no_answers : ScriptData → List Answer
no_answers s = replicate s.variables answer.Null

-- The values where a handle, a number or a text is needed.
abbrev pub handle_at : List Answer → Seen → Atom → Option ℕ
handle_at vars seen a = handle_in (value_of vars seen a)

abbrev pub number_at : List Answer → Seen → Atom → ℕ
number_at vars seen a = number_in (value_of vars seen a)

abbrev pub text_at : List Answer → Seen → Atom → List ℕ
text_at vars seen a = text_in (value_of vars seen a)

-- A procedure of the script itself.
abbrev pub own : ScriptData → List ℕ → ProcName
own s name = record { app = s.name; name = name }

abbrev pub body_from : ScriptData → Body → BodyName
body_from s (body.Proc name) = body_name.Proc (own s name)
body_from s (body.Native name) = body_name.Native name

-- The order of a form, a row for each (own; IEEE 1364-2005, clause 27).
abbrev pub order_from : ScriptData → List Answer → Seen → Form → Order
order_from s vars seen (form.ByName text scope) =
    order.ByName (text_at vars seen text) (handle_at vars seen scope)
order_from s vars seen (form.ByIndex memory index) =
    order.ByIndex (handle_at vars seen memory) (number_at vars seen index)
order_from s vars seen (form.Handle relation object) =
    order.Handle relation (handle_at vars seen object)
order_from s vars seen (form.Iterate relation object) =
    order.Iterate relation (handle_at vars seen object)
order_from s vars seen (form.Scan a) = order.Scan (handle_at vars seen a)
order_from s vars seen (form.Free a) = order.Free (handle_at vars seen a)
order_from s vars seen (form.Compare a b) =
    order.Compare (handle_at vars seen a) (handle_at vars seen b)
order_from s vars seen (form.Get property object) =
    order.Get property (handle_at vars seen object)
order_from s vars seen (form.GetStr property object) =
    order.GetStr property (handle_at vars seen object)
order_from s vars seen (form.GetValue object format) =
    order.GetValue (handle_at vars seen object) format
order_from s vars seen (form.PutValue object format text mode time event) =
    order.PutValue (handle_at vars seen object) format (text_at vars seen text) mode (number_at vars seen time) event
order_from s vars seen (form.Cancel a) = order.Cancel (handle_at vars seen a)
order_from s vars seen form.GetTime = order.GetTime
order_from s vars seen (form.Register reason object time body n) =
    order.Register reason (handle_at vars seen object) (number_at vars seen time) (body_from s body) (number_at vars seen n)
order_from s vars seen (form.Remove a) = order.Remove (handle_at vars seen a)
order_from s vars seen (form.CbInfo a) = order.CbInfo (handle_at vars seen a)
order_from s vars seen (form.RegisterSystf kind name size calltf compiletf) =
    order.RegisterSystf kind (text_at vars seen name) (number_at vars seen size) (own s calltf) (option_map (own s) compiletf)
order_from s vars seen form.ChkError = order.ChkError
order_from s vars seen (form.Control stop) = order.Control stop
order_from s vars seen (form.Print a) = order.Print (text_at vars seen a)
order_from s vars seen (form.SetData a) = order.SetData (number_at vars seen a)

-- The variables once the one that waits has the answer.
abbrev pub stored : Option ℕ → Answer → List Answer → List Answer
stored None a vars = vars
stored (Some n) a vars = set vars n a

-- What a step comes to: an order, if it is one; the point behind it; and the variables.
pub record Came : Type 0 where
  pub order : Option Order
  pub at : Point
  pub vars : List Answer

-- A step that orders nothing goes on there; one that does leaves a point there.
abbrev pub goes : ℕ → List Answer → Came
goes at vars = record { order = None; at = beginning at; vars = vars }

abbrev pub orders : Order → Point → List Answer → Came
orders o at vars = record { order = Some o; at = at; vars = vars }

-- Each step, a row for each. Behind the last one an activation returns (own).
abbrev pub came_of : ScriptData → Seen → List Answer → ℕ → Option Node → Came
came_of s seen vars at None = orders order.Return (beginning at) vars
came_of s seen vars at (Some (Ask target form)) =
    orders (order_from s vars seen form) (record { at = at + 1; waiting = target }) vars
came_of s seen vars at (Some (Set target value added)) =
    goes (at + 1) (set vars target (set_to vars seen value added))
came_of s seen vars at (Some (Choose test fails)) =
    goes (if holds vars seen test then at + 1 else fails) vars
came_of s seen vars at (Some (Turn test first fails)) =
    orders order.Pass (beginning (if holds vars seen test then first else fails)) vars
came_of s seen vars at (Some (Go to)) = goes to vars
came_of s seen vars at (Some Return) = orders order.Return (beginning at) vars

abbrev pub came : ScriptData → Seen → List Answer → ℕ → Came
came s seen vars at = came_of s seen vars at (slice_get s.nodes at)

-- An order is the answer; else it goes on.
abbrev pub ordered_or : Option Order → Point → List Answer → (Order × Point × List Answer) → Order × Point × List Answer
ordered_or (Some o) at vars further = (o, at, vars)
ordered_or None at vars further = further

-- The next order, the point behind it, and the variables: the first step on the way that orders something,
-- of so many steps at most; then it is a return.
abbrev pub next_in : ℕ → ScriptData → Seen → List Answer → Point → Order × Point × List Answer
next_in zero s seen vars p = (order.Return, p, vars)
next_in (suc n) s seen vars p =
    let c = came s seen vars p.at in ordered_or c.order c.at c.vars (next_in n s seen c.vars c.at)

-- What a script orders next from a point on, with these variables and with what is seen: the order, and the
-- point and the variables after it. A variable is set when the activation goes on to its next order, so
-- after all callbacks that the order caused (own). No way to an order has more steps than the script.
abbrev pub next_of : ScriptData → Point → List Answer → Seen → Order × Point × List Answer
next_of s p vars seen = next_in (length s.nodes) s seen (stored p.waiting seen.last vars) (beginning p.at)

-- From this point on nothing is ordered but a return, whatever the variables are and is seen.
abbrev pub ReturnsAt : ScriptData → Point → Type 0
ReturnsAt s p = (vars : List Answer) (seen : Seen) → next_of s p vars seen ≡ (order.Return, p, vars)

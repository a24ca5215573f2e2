-- What is still to do at a point of a script, and the law of the next order: it is that of what is still to do
-- there, by recursion over the script's commands.
use Rattle.std.specs.Prelude.{◌≡◌, ℕ, ◌+◌, ◌<◌, List, [], ◌∷◌, map, slice_get, bytes_eq, Bool, if◌then◌else◌, Option, Some, None, set, ◌⊎◌}
use Rattle.vh_base.specs.declared.orders.Answer.{Answer}
use Rattle.vh_base.specs.declared.orders.Order.{Order}
use Rattle.vh_base.specs.declared.orders.Order.TheVariants as order
use Rattle.vh_base.specs.declared.orders.Seen.{Seen}
use Rattle.vh_app_script.specs.Tree.{App, Command, ask, finish, choose, loop, Commands, no_command, one_command, commands, Procedure}
use Rattle.vh_app_script.specs.Tree as tree
use Rattle.vh_app.specs.declared.point.Point.{Point}
use Rattle.vh_app.specs.declared.form.Node.{Node}
use Rattle.vh_app.specs.declared.form.Node.TheVariants.{Ask, Set, Go, Return}
use Rattle.vh_app.specs.Layout.{atom_laid, form_laid, test_laid, choice_laid, turn_laid, sizes_of, script_laid}
use Rattle.vh_app.specs.Next.{next_of, order_from, procedure_named, startup, stored}
use Rattle.vh_app.specs.Script.{ScriptData}
use Rattle.vh_app.specs.Values.{holds, set_to}
use Rattle.std.specs.Option.{option_map}

-- Commands one behind the other (own).
abbrev pub joined : Commands → Commands → Commands
joined no_command more = more
joined (one_command c cs) more = one_command c (joined cs more)

-- An order, the variable that waits for its answer, what is still to do behind it, and the variables (own).
pub record Ordered : Type 0 where
  pub order : Order
  pub waiting : Option ℕ
  pub rest : Commands
  pub vars : List Answer

-- An activation returns: nothing is still to do (own).
abbrev pub returned : List Answer → Ordered
returned vars = record { order = order.Return; waiting = None; rest = no_command; vars = vars }

-- A test of a `while` is an order; where it holds, the commands of the loop are to do, and then the loop (own).
abbrev pub tested : Bool → tree.Test → Commands → Commands → List Answer → Ordered
tested b test body more vars = record {
  order = order.Pass;
  waiting = None;
  rest = if b then joined body (one_command (loop test body) more) else more;
  vars = vars;
}

-- What a command orders first, where `more` is still to do behind it; where it orders nothing, what comes of
-- `further` once it is done. A row for each (own).
abbrev mutual
  pub first_of : ScriptData → Seen → Command → Commands → List Answer → (List Answer → Ordered) → Ordered
  first_of s seen (ask target o) more vars further =
      record { order = order_from s vars seen (form_laid o); waiting = target; rest = more; vars = vars }
  first_of s seen (tree.set n a added) more vars further =
      further (set vars n (set_to vars seen (atom_laid a) (option_map atom_laid added)))
  first_of s seen finish more vars further = returned vars
  first_of s seen (choose test here there) more vars further =
      if holds vars seen (test_laid test) then first_in s seen here more vars further
      else first_in s seen there more vars further
  first_of s seen (loop test body) more vars further =
      tested (holds vars seen (test_laid test)) test body more vars

  pub first_in : ScriptData → Seen → Commands → Commands → List Answer → (List Answer → Ordered) → Ordered
  first_in s seen no_command more vars further = further vars
  first_in s seen (one_command c cs) more vars further =
      first_of s seen c (joined cs more) vars (λ after. first_in s seen cs more after further)

-- What is ordered next where these commands are still to do: the end of a procedure is a return (own).
abbrev pub todo_next : ScriptData → Seen → Commands → List Answer → Ordered
todo_next s seen cs vars = first_in s seen cs no_command vars returned

-- Where the steps of commands lie: from one place on, and what is behind them begins at another.
abbrev mutual
  pub LiesAt : List Node → ℕ → Command → ℕ → Type 0
  LiesAt ns at (ask target o) to = (slice_get ns at ≡ Some (Ask target (form_laid o))) × (to ≡ at + 1)
  LiesAt ns at (tree.set n a added) to =
      (slice_get ns at ≡ Some (Set n (atom_laid a) (option_map atom_laid added))) × (to ≡ at + 1)
  LiesAt ns at finish to = (slice_get ns at ≡ Some Return) × (to ≡ at + 1)
  LiesAt ns at (choose test here there) to =
      (slice_get ns at ≡ Some (choice_laid test at (sizes_of here)))
      × LieAt ns (at + 1) here (at + 1 + sizes_of here)
      × (slice_get ns (at + 1 + sizes_of here) ≡ Some (Go to))
      × LieAt ns (at + sizes_of here + 2) there to
  LiesAt ns at (loop test body) to =
      (slice_get ns at ≡ Some (turn_laid test at (sizes_of body)))
      × LieAt ns (at + 1) body (at + 1 + sizes_of body)
      × (slice_get ns (at + 1 + sizes_of body) ≡ Some (turn_laid test at (sizes_of body)))
      × (to ≡ at + sizes_of body + 2)

  pub LieAt : List Node → ℕ → Commands → ℕ → Type 0
  LieAt ns at no_command to = at ≡ to
  LieAt ns at (one_command c cs) to = (mid : ℕ) × LiesAt ns at c mid × LieAt ns mid cs to

-- A part of what is still to do, and where what is behind it begins.
pub record Part : Type 0 where
  pub here : Commands
  pub to : ℕ

-- The second test of a loop, behind its commands: the loop is still to do.
pub record IsAgain (ns : List Node) (at : ℕ) (p : Part) : Type 0 where
  pub begin : ℕ
  pub test : tree.Test
  pub body : Commands
  pub is : p.here ≡ one_command (loop test body) no_command
  pub behind : at ≡ begin + 1 + sizes_of body
  pub lies : LiesAt ns begin (loop test body) p.to

-- A part is still to do at a place: its commands lie there, or a step leads over others, or it is a loop that
-- is done again.
abbrev pub Stands : List Node → ℕ → Part → Type 0
Stands ns at p =
    LieAt ns at p.here p.to
    ⊎ (((p.here ≡ no_command) × (slice_get ns at ≡ Some (Go p.to)) × (at < p.to))
    ⊎ IsAgain ns at p)

-- Parts one behind the other, and behind them a return.
abbrev pub Chain : List Node → ℕ → List Part → Type 0
Chain ns at [] = slice_get ns at ≡ Some Return
Chain ns at (p ∷ ps) = Stands ns at p × Chain ns p.to ps

abbrev pub all_of : List Part → Commands
all_of [] = no_command
all_of (p ∷ ps) = joined p.here (all_of ps)

-- What is still to do at a place of a script.
pub record Does (s : ScriptData) (at : ℕ) (cs : Commands) : Type 0 where
  pub parts : List Part
  pub chain : Chain s.nodes at parts
  pub all : cs ≡ all_of parts

-- The answer is that of what is still to do, and what is left is still to do behind it.
pub record Agrees (s : ScriptData) (o : Order) (p : Point) (after : List Answer) (w : Ordered) : Type 0 where
  pub order : o ≡ w.order
  pub waiting : p.waiting ≡ w.waiting
  pub vars : after ≡ w.vars
  pub rest : Does s p.at w.rest

-- The orders of a startup as commands, and the first procedure of a name.
abbrev pub startup_commands : List tree.Order → Commands
startup_commands os = commands (map (λ o. ask None o) os)

abbrev pub named_in : List ℕ → List Procedure → Option Procedure
named_in name [] = None
named_in name (p ∷ ps) = if bytes_eq p.name name then Some p else named_in name ps

-- Where the startup begins its orders are still to do, and where a procedure begins its commands.
abbrev pub StartupBegins : Type 0
StartupBegins = (a : App) → Does (script_laid a) startup.at (startup_commands a.startup)

abbrev pub ProcedureBegins : Type 0
ProcedureBegins =
    (a : App) (name : List ℕ) (p : Procedure) → named_in name a.procedures ≡ Some p
    → (at : Point) × (procedure_named (script_laid a) name ≡ Some at) × (at.waiting ≡ None)
    × Does (script_laid a) at.at (commands p.commands)

-- At a point where commands are still to do the next order is theirs.
abbrev pub OrdersInTurn : Type 0
OrdersInTurn =
    (a : App) (at : Point) (cs : Commands) (vars : List Answer) (seen : Seen) → Does (script_laid a) at.at cs
    → let n : Order × Point × List Answer = next_of (script_laid a) at vars seen in
    Agrees (script_laid a) n.0 n.1 n.2 (todo_next (script_laid a) seen cs (stored at.waiting seen.last vars))

-- What an activation does: it gives the orders that its script has next, passes and returns where the script says so.
-- (IEEE 1364-2005, 27.33; what a script orders is own)
use Rattle.std.specs.Prelude.{◌≡◌, ◌-◌, ℕ, List, [], ◌∷◌, ◌++◌, drop, true, Some, slice_get}
use Rattle.vh_app.specs.Next.{next_of, startup}
use Rattle.vh_app.specs.Script.{ScriptData}
use Rattle.vh_base.specs.declared.orders.Answer.{Answer}
use Rattle.vh_base.specs.declared.orders.Order.{Order}
use Rattle.vh_kernel.specs.Activations.{Activation, after_answer, after_pass}
use Rattle.vh_kernel.specs.declared.control.Control.TheVariants as top
use Rattle.vh_kernel.specs.declared.label.Label.TheVariants as label
use Rattle.vh_kernel.specs.declared.occurrence.Agendum.TheVariants as agendum
use Rattle.vh_kernel.specs.Outcome.{Move}
use Rattle.vh_kernel.specs.State.{State}
use Rattle.vh_kernel_laws.specs.Paths.{end_of}
use Rattle.vh_orders.specs.declared.who.Who.{Who}
use Rattle.vh_orders.specs.declared.who.Who.TheVariants as who_is
use Rattle.vh_orders.specs.Orders.{is_pass, is_return}

-- It is on top of control, with its script and the variables of that.
pub record Stands (s : State) (who : Who) : Type 0 where
  pub activation : Activation
  pub script : ScriptData
  pub variables : List Answer
  pub on_top : slice_get s.control 0 ≡ Some (top.Activation activation)
  pub who_is : activation.who ≡ who
  pub script_is : slice_get s.world.scripts activation.script ≡ Some script
  pub variables_are : slice_get s.world.variables activation.script ≡ Some variables

-- A startup begins when it is next on the agenda and nothing is on control, and then its script's is on top of control.
pub record Begins (s : State) (k : ℕ) (t : State) : Type 0 where
  pub alone : s.control ≡ []
  pub next : slice_get s.agenda 0 ≡ Some (agendum.Startup k)
  pub begins : (script : ScriptData) → slice_get s.world.scripts (k - 1) ≡ Some script
      → (a : Activation) × (t.control ≡ top.Activation a ∷ []) × (a.who ≡ who_is.Startup k) × (a.script ≡ k - 1) × (a.at ≡ startup)

abbrev pub BeginsStartups : State → List Move → Type 0
BeginsStartups s moves =
    (before behind : List Move) (k : ℕ) (t : State) → moves ≡ before ++ (label.Startup k, t) ∷ behind → Begins (end_of s before) k t

-- It gives the order that its script has next there, and stands behind that again, with the answer.
pub record Orders (s : State) (who : Who) (o : Order) (a : Answer) (t : State) : Type 0 where
  pub stands : Stands s who
  pub next : (next_of stands.script stands.activation.at stands.variables stands.activation.seen).0 ≡ o
  pub goes_on : t.control
      ≡ top.Activation (after_answer a (record stands.activation {
        at = (next_of stands.script stands.activation.at stands.variables stands.activation.seen).1;
      }))
      ∷ drop 1 s.control

abbrev pub OrdersNext : State → List Move → Type 0
OrdersNext s moves =
    (before behind : List Move) (who : Who) (o : Order) (a : Answer) (t : State) → moves ≡ before ++ (label.Do who o a, t) ∷ behind
    → Orders (end_of s before) who o a t

-- It passes where its script has a step next that asks for nothing.
pub record Passes (s : State) (who : Who) (t : State) : Type 0 where
  pub stands : Stands s who
  pub next : is_pass (next_of stands.script stands.activation.at stands.variables stands.activation.seen).0 ≡ true
  pub goes_on : t.control
      ≡ top.Activation (after_pass (record stands.activation {
        at = (next_of stands.script stands.activation.at stands.variables stands.activation.seen).1;
      }))
      ∷ drop 1 s.control

abbrev pub PassesNext : State → List Move → Type 0
PassesNext s moves =
    (before behind : List Move) (who : Who) (t : State) → moves ≡ before ++ (label.Pass who, t) ∷ behind → Passes (end_of s before) who t

-- It returns where its script has nothing more for it.
pub record Returns (s : State) (who : Who) : Type 0 where
  pub activation : Activation
  pub on_top : slice_get s.control 0 ≡ Some (top.Activation activation)
  pub who_is : activation.who ≡ who
  pub last : (script : ScriptData) (variables : List Answer) → slice_get s.world.scripts activation.script ≡ Some script
      → slice_get s.world.variables activation.script ≡ Some variables
      → is_return (next_of script activation.at variables activation.seen).0 ≡ true

abbrev pub ReturnsLast : State → List Move → Type 0
ReturnsLast s moves =
    (before behind : List Move) (who : Who) (t : State) → moves ≡ before ++ (label.Ret who, t) ∷ behind → Returns (end_of s before) who

-- The firing law: what an activation does is what its script has next.
use Rattle.std.proofs.Common.{◌≡◌, ◌-◌, ℕ, List, [], ◌∷◌, ◌++◌, drop, Bool, true, false, Option, Some, None, slice_get, slice_set, refl, sym, ap, subst, ◌∙◌}
use Rattle.vh_app.specs.declared.point.Point.{Point}
use Rattle.vh_app.specs.Next.{next_of, startup}
use Rattle.vh_app.specs.Script.{ScriptData}
use Rattle.vh_base.specs.declared.orders.Answer.{Answer}
use Rattle.vh_base.specs.declared.orders.Order.{Order}
use Rattle.vh_kernel.proofs.TableLemmas.{steps-by-table}
use Rattle.vh_kernel.specs.Activations.{Activation, after_answer, after_pass, startup_seen}
use Rattle.vh_kernel.specs.declared.control.Control.{Control}
use Rattle.vh_kernel.specs.declared.control.Control.TheVariants as top
use Rattle.vh_kernel.specs.declared.label.Label.{Label}
use Rattle.vh_kernel.specs.declared.label.Label.TheVariants as label
use Rattle.vh_kernel.specs.Outcome.{Move}
use Rattle.vh_kernel.specs.Settle.{is_void, without_front}
use Rattle.vh_kernel.specs.State.{State, with_top, without_top, without_item, with_variables}
use Rattle.vh_kernel.specs.Step.{activation_move, order_move, pass_move, started}
use Rattle.vh_kernel.specs.Table.{Acts, HasNext, Step}
use Rattle.vh_kernel.specs.declared.occurrence.Agendum.TheVariants as agendum
use Rattle.vh_orders.specs.declared.who.Who.{Who}
use Rattle.vh_orders.specs.declared.who.Who.TheVariants as who_is
use Rattle.vh_orders.specs.Orders.{Given, is_pass, is_return}
use Rattle.vh_kernel_laws.proofs.PendingLemmas.{none-on}
use Rattle.vh_kernel_laws.proofs.Splits.{path_at}
use Rattle.vh_kernel_laws.specs.Acting.{Stands, Begins, BeginsStartups, Orders, OrdersNext, Passes, PassesNext, Returns, ReturnsLast}
use Rattle.vh_kernel_laws.specs.Paths.{IsMade, IsPath, end_of}

-- What a label of an activation tells, whichever it is.
pub data Does (next : Order × Point × List Answer) (a : Activation) (s : State) (m : Move) : Type 0 where
  orders : (given : Answer) → m.0 ≡ label.Do a.who next.0 given
      → m.1.control ≡ top.Activation (after_answer given (record a { at = next.1 })) ∷ s.control → Does next a s m
  passes : m.0 ≡ label.Pass a.who → is_pass next.0 ≡ true
      → m.1.control ≡ top.Activation (after_pass (record a { at = next.1 })) ∷ s.control → Does next a s m
  returns : m.0 ≡ label.Ret a.who → is_return next.0 ≡ true → Does next a s m

passing : (b : Bool) (next : Order × Point × List Answer) (a : Activation) (before s : State) (vars : List (List Answer)) (g : Given)
    → is_pass next.0 ≡ b → Does next a s (pass_move b next.0 (record a { at = next.1 }) before (with_variables vars s) g)
passing true next a before s vars g is = passes refl is refl
passing false next a before s vars g is = orders _ refl refl

returning : (b : Bool) (next : Order × Point × List Answer) (a : Activation) (before s : State) (vars : List (List Answer)) (g : Given)
    → is_return next.0 ≡ b → Does next a s (order_move b next.0 (record a { at = next.1 }) before (with_variables vars s) g)
returning true next a before s vars g is = returns refl is
returning false next a before s vars g is = passing (is_pass next.0) next a before s vars g refl

does : (script : ScriptData) (vars : List Answer) (a : Activation) (s : State) (g : Given)
    → Does (next_of script a.at vars a.seen) a s (activation_move (Some script) (Some vars) a s g)
does script vars a s g =
    let next : Order × Point × List Answer = next_of script a.at vars a.seen in
    returning (is_return next.0) next a (with_top (top.Activation a) s) s (slice_set s.world.variables a.script next.2) g refl

-- It has its script and the variables of that, or it returns.
record Has (script : Option ScriptData) (vars : Option (List Answer)) (a : Activation) (s : State) (m : Move) : Type 0 where
  the_script : ScriptData
  the_vars : List Answer
  script_is : script ≡ Some the_script
  vars_are : vars ≡ Some the_vars
  does : Does (next_of the_script a.at the_vars a.seen) a s m

has : (script : Option ScriptData) (vars : Option (List Answer)) (a : Activation) (s : State) (g : Given) (m : Move)
    → activation_move script vars a s g ≡ m → (m.0 ≡ label.Ret a.who → ⊥) → Has script vars a s m
has None vars a s g m is stays = absurd (stays (ap (λ (x : Move). x.0) (sym is)))
has (Some script) None a s g m is stays = absurd (stays (ap (λ (x : Move). x.0) (sym is)))
has (Some script) (Some vars) a s g m is stays = record {
  the_script = script;
  the_vars = vars;
  script_is = refl;
  vars_are = refl;
  does = subst (λ (x : Move). Does (next_of script a.at vars a.seen) a s x) is (does script vars a s g);
}

-- An activation on top stays there when the state settles.
stays-top : (s t u : State) (a : Activation) (xs : List Control) → t.control ≡ without_front (is_void u.world.callbacks) u.control
    → u.control ≡ top.Activation a ∷ xs → t.control ≡ top.Activation a ∷ xs
stays-top s t u a xs settles on = settles ∙ ap (λ (cs : List Control). without_front (is_void u.world.callbacks) cs) on

-- Orders.
ordered : (s u t : State) (act : Activation) (who : Who) (o : Order) (a : Answer) (script : ScriptData) (vars : List Answer)
    → slice_get s.control 0 ≡ Some (top.Activation act) → slice_get s.world.scripts act.script ≡ Some script
    → slice_get s.world.variables act.script ≡ Some vars → t.control ≡ without_front (is_void u.world.callbacks) u.control
    → Does (next_of script act.at vars act.seen) act (without_top s) (label.Do who o a, u) → Orders s who o a t
ordered s u t act who o a script vars on script_is vars_are settles (orders given is control) =
    let who_is : act.who ≡ who = cc in
    let order_is : (next_of script act.at vars act.seen).0 ≡ o = cc in
    let answer_is : given ≡ a = cc in record {
      stands = record {
        activation = act;
        script = script;
        variables = vars;
        on_top = on;
        who_is = who_is;
        script_is = script_is;
        variables_are = vars_are;
      };
      next = order_is;
      goes_on = stays-top s t u _ _ settles control
          ∙ ap (λ (x : Answer). top.Activation (after_answer x (record act { at = (next_of script act.at vars act.seen).1 })) ∷ drop 1 s.control) answer_is;
    }
ordered s u t act who o a script vars on script_is vars_are settles (passes is pass control) = absurd (cc)
ordered s u t act who o a script vars on script_is vars_are settles (returns is last) = absurd (cc)

passed : (s u t : State) (act : Activation) (who : Who) (script : ScriptData) (vars : List Answer)
    → slice_get s.control 0 ≡ Some (top.Activation act) → slice_get s.world.scripts act.script ≡ Some script
    → slice_get s.world.variables act.script ≡ Some vars → t.control ≡ without_front (is_void u.world.callbacks) u.control
    → Does (next_of script act.at vars act.seen) act (without_top s) (label.Pass who, u) → Passes s who t
passed s u t act who script vars on script_is vars_are settles (orders given is control) = absurd (cc)
passed s u t act who script vars on script_is vars_are settles (passes is pass control) =
    let who_is : act.who ≡ who = cc in record {
      stands = record {
        activation = act;
        script = script;
        variables = vars;
        on_top = on;
        who_is = who_is;
        script_is = script_is;
        variables_are = vars_are;
      };
      next = pass;
      goes_on = stays-top s t u _ _ settles control;
    }
passed s u t act who script vars on script_is vars_are settles (returns is last) = absurd (cc)

-- A label of an order, a pass and a return is no other.
do-no-return : (who by : Who) (o : Order) (a : Answer) → label.Do who o a ≡ label.Ret by → ⊥
do-no-return who by o a is = absurd (cc)

pass-no-return : (who by : Who) → label.Pass who ≡ label.Ret by → ⊥
pass-no-return who by is = absurd (cc)

pub orders-next : (s : State) (moves : List Move) → IsPath s moves → OrdersNext s moves
orders-next s moves path before behind who o a t is =
    let m : Move = (label.Do who o a, t) in
    let u : State = end_of s before in
    let made : IsMade u m = (path_at s moves before (m ∷ behind) path is).1.0 in
    let table : Step u (label.Do who o a) t = steps-by-table u t made.choice (label.Do who o a) made.below made.step in
    let row : Acts u (label.Do who o a) table.before = table.row in
    let it : Has (slice_get u.world.scripts row.who.script) (slice_get u.world.variables row.who.script) row.who (without_top u) (label.Do who o a, table.before) =
    has _ _ row.who (without_top u) row.given _ row.makes (do-no-return who row.who.who o a) in
    ordered u table.before t row.who who o a it.the_script it.the_vars row.on.on it.script_is it.vars_are
    (ap (λ (x : State). x.control) table.settles) it.does

pub passes-next : (s : State) (moves : List Move) → IsPath s moves → PassesNext s moves
passes-next s moves path before behind who t is =
    let m : Move = (label.Pass who, t) in
    let u : State = end_of s before in
    let made : IsMade u m = (path_at s moves before (m ∷ behind) path is).1.0 in
    let table : Step u (label.Pass who) t = steps-by-table u t made.choice (label.Pass who) made.below made.step in
    let row : Acts u (label.Pass who) table.before = table.row in
    let it : Has (slice_get u.world.scripts row.who.script) (slice_get u.world.variables row.who.script) row.who (without_top u) (label.Pass who, table.before) =
    has _ _ row.who (without_top u) row.given _ row.makes (pass-no-return who row.who.who) in
    passed u table.before t row.who who it.the_script it.the_vars row.on.on it.script_is it.vars_are
    (ap (λ (x : State). x.control) table.settles) it.does

-- Returns.
returned : (next : Order × Point × List Answer) (act : Activation) (s u : State) (who : Who) → Does next act s (label.Ret who, u)
    → is_return next.0 ≡ true
returned next act s u who (orders given is control) = absurd (cc)
returned next act s u who (passes is pass control) = absurd (cc)
returned next act s u who (returns is last) = last

by-who : (next : Order × Point × List Answer) (act : Activation) (s u : State) (who : Who) → Does next act s (label.Ret who, u) → act.who ≡ who
by-who next act s u who (orders given is control) = absurd (cc)
by-who next act s u who (passes is pass control) = absurd (cc)
by-who next act s u who (returns is last) = cc

return-who : (script : Option ScriptData) (vars : Option (List Answer)) (a : Activation) (s u : State) (g : Given) (who : Who)
    → activation_move script vars a s g ≡ (label.Ret who, u) → a.who ≡ who
return-who None vars a s u g who is = let l : label.Ret a.who ≡ label.Ret who = ap (λ (x : Move). x.0) is in cc
return-who (Some script) None a s u g who is = let l : label.Ret a.who ≡ label.Ret who = ap (λ (x : Move). x.0) is in cc
return-who (Some script) (Some vars) a s u g who is =
    let next : Order × Point × List Answer = next_of script a.at vars a.seen in
    by-who next a s u who (subst (λ (x : Move). Does next a s x) is (does script vars a s g))

last-by : (script : Option ScriptData) (vars : Option (List Answer)) (a : Activation) (s u : State) (g : Given) (who : Who)
    → activation_move script vars a s g ≡ (label.Ret who, u) → (x : ScriptData) (y : List Answer) → script ≡ Some x → vars ≡ Some y
    → is_return (next_of x a.at y a.seen).0 ≡ true
last-by script vars a s u g who is x y script_is vars_are =
    let there : activation_move (Some x) (Some y) a s g ≡ (label.Ret who, u) =
    ap (λ (z : Option ScriptData). activation_move z (Some y) a s g) (sym script_is)
    ∙ ap (λ (z : Option (List Answer)). activation_move script z a s g) (sym vars_are) ∙ is in
    returned (next_of x a.at y a.seen) a s u who (subst (λ (m : Move). Does (next_of x a.at y a.seen) a s m) there (does x y a s g))

pub returns-last : (s : State) (moves : List Move) → IsPath s moves → ReturnsLast s moves
returns-last s moves path before behind who t is =
    let m : Move = (label.Ret who, t) in
    let u : State = end_of s before in
    let made : IsMade u m = (path_at s moves before (m ∷ behind) path is).1.0 in
    let table : Step u (label.Ret who) t = steps-by-table u t made.choice (label.Ret who) made.below made.step in
    let row : Acts u (label.Ret who) table.before = table.row in
    record {
      activation = row.who;
      on_top = row.on.on;
      who_is = return-who _ _ row.who (without_top u) table.before row.given who row.makes;
      last = last-by _ _ row.who (without_top u) table.before row.given who row.makes;
    }

-- Startups.
pub begins-startups : (s : State) (moves : List Move) → IsPath s moves → BeginsStartups s moves
begins-startups s moves path before behind k t is =
    let m : Move = (label.Startup k, t) in
    let u : State = end_of s before in
    let made : IsMade u m = (path_at s moves before (m ∷ behind) path is).1.0 in
    let table : Step u (label.Startup k) t = steps-by-table u t made.choice (label.Startup k) made.below made.step in
    let row : HasNext u (Some (agendum.Startup k)) × (table.before ≡ started (slice_get u.world.scripts (k - 1)) k (without_item u)) = table.row in
    let empty : u.control ≡ [] = none-on u.control row.0.idle in
    record {
      alone = empty;
      next = row.0.next;
      begins = λ script there. (let a : Activation = record {
        who = who_is.Startup k;
        script = k - 1;
        at = startup;
        seen = startup_seen u.world.activity.queue.time;
      } in
          let begun : table.before.control ≡ top.Activation a ∷ [] =
          ap (λ (x : State). x.control) row.1 ∙ ap (λ (o : Option ScriptData). (started o k (without_item u)).control) there
          ∙ ap (λ (cs : List Control). top.Activation a ∷ cs) empty in
          (a, ap (λ (x : State). x.control) table.settles ∙ ap (λ (cs : List Control). without_front (is_void table.before.world.callbacks) cs) begun, refl, refl, refl));
    }

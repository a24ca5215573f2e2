-- But for the numbers of handles a run is one list of labels.
use Rattle.std.proofs.Common.{◌≡◌, ℕ, List, [], ◌∷◌, Bool, true, false, cond, Option, Some, None, Ok, Err, slice_get, slice_set, refl, sym, ap, subst, ◌∙◌}
use Rattle.vh_base.specs.declared.orders.Answer.{Answer}
use Rattle.vh_base.specs.declared.orders.Answer.TheVariants as answer
use Rattle.vh_base.specs.declared.orders.Order.{Order}
use Rattle.vh_app.specs.declared.point.Point.{Point}
use Rattle.vh_app.specs.Next.{next_of as next_order}
use Rattle.vh_app.specs.Script.{ScriptData}
use Rattle.vh_kernel.specs.Activations.{Activation}
use Rattle.vh_kernel.specs.declared.control.Control.{Control}
use Rattle.vh_kernel.specs.declared.control.Control.TheVariants as top
use Rattle.vh_queue.specs.declared.entry.Entry.{Entry}
use Rattle.vh_queue.specs.declared.region.Region.{Region}
use Rattle.vh_kernel.specs.declared.occurrence.Agendum.{Agendum}
use Rattle.vh_kernel.specs.declared.occurrence.Agendum.TheVariants as agendum
use Rattle.vh_kernel.specs.declared.occurrence.Told.{Told}
use Rattle.vh_orders.specs.declared.phase.Phase.{Phase}
use Rattle.vh_orders.specs.declared.phase.Phase.TheVariants as phase
use Rattle.vh_queue.specs.Events.{eligible, next_region, least_time, without}
use Rattle.vh_handles.specs.Handles.{Handles}
use Rattle.vh_kernel.specs.Occurrences.{occurrence_of}
use Rattle.vh_kernel.specs.Settle.{settled}
use Rattle.vh_kernel.specs.Statements.{statement_outcome, work_outcome}
use Rattle.vh_kernel.specs.declared.label.Label.{Label}
use Rattle.vh_kernel.specs.declared.label.Label.TheVariants as label
use Rattle.vh_dispatch.specs.Frames.{top_set}
use Rattle.vh_orders.specs.Orders.{Given, Effect, answered, effect_of, with_error, is_pass, is_return}
use Rattle.vh_orders.specs.World.{World}
use Rattle.vh_kernel.specs.Outcome.{Outcome, Move, move_of}
use Rattle.vh_kernel_choice.specs.declared.chooser.Chooser.{Chooser}
use Rattle.vh_kernel_choice.specs.Choices.{chooser_after}
use Rattle.vh_kernel.specs.Run.{move_from, moves_with, handle_in, given_in, all_given, OneRun}
use Rattle.vh_kernel.specs.State.{State, with_queue, with_top, without_top, without_item, with_variables}
use Rattle.vh_kernel.specs.Step.{FitsAnswer, Fits, IsStep, fire_move, telling_outcome, time_move, region_move, pick_move, agenda_move, idle_move, answer_move, pass_move, order_move, activation_move, item_move, top_move, crowded_move, is_crowded, settled_move, step_of, choices_of, is_end}
use Rattle.vh_orders.proofs.OrdersLemmas.{TellsOnly, tells_done, tells_null, tells_number, tells_text, IsForm, refuses, answers_only, opens_object, registers, removes, frees, effect-form}

-- By the number that its answer shows, an order is answered again.
abbrev GivesAgain : World → Given → Effect → Type 0
GivesAgain s g e =
    (let given : Answer × World = answered e s (record { handle = handle_in (answered e s g).0 }) in given) ≡ answered e s g

again-by : (o : Order) (s : World) (g : Given) (e : Effect) → IsForm o s e → GivesAgain s g e
again-by o s g e (refuses c is) = subst (λ (x : Effect). GivesAgain s g x) (sym is) refl
again-by o s g e (answers_only a plain is) = subst (λ (x : Effect). GivesAgain s g x) (sym is) refl
again-by o s g e (opens_object x means room is) = subst (λ (x : Effect). GivesAgain s g x) (sym is) refl
again-by o s g e (registers r h time n body object b by watches calls room free is) =
    subst (λ (x : Effect). GivesAgain s g x) (sym is) refl
again-by o s g e (removes c h by names is) = subst (λ (x : Effect). GivesAgain s g x) (sym is) refl
again-by o s g e (frees h by live is) = subst (λ (x : Effect). GivesAgain s g x) (sym is) refl

-- By what its label shows a move is made again.
abbrev Shows : (Given → Move) → Given → Type 0
Shows moves g = moves (given_in (moves g).0) ≡ moves g

pass-shows : (b : Bool) (o : Order) (a : Activation) (before s : State) (g : Given)
    → Shows (λ x. pass_move b o a before s x) g
pass-shows true o a before s g = refl
pass-shows false o a before s g =
    ap (λ (given : Answer × World). answer_move o a (with_error o s.world.error given) before s)
    (again-by o s.world g (effect_of o a.who s.world) (effect-form o a.who s.world))

order-shows : (b : Bool) (o : Order) (a : Activation) (before s : State) (g : Given)
    → Shows (λ x. order_move b o a before s x) g
order-shows true o a before s g = refl
order-shows false o a before s g = pass-shows (is_pass o) o a before s g

pub activation-shows : (script : Option ScriptData) (vars : Option (List Answer)) (a : Activation) (s : State) (g : Given)
    → Shows (λ x. activation_move script vars a s x) g
activation-shows None vars a s g = refl
activation-shows (Some script) None a s g = refl
activation-shows (Some script) (Some vars) a s g =
    let next : Order × Point × List Answer = next_order script a.at vars a.seen in
    order-shows (is_return next.0) next.0 (record a { at = next.1 }) (with_top (top.Activation a) s)
    (with_variables (slice_set s.world.variables a.script next.2) s) g

item-shows : (c : Control) (s : State) (k : ℕ) (g : Given) → Shows (λ x. item_move c s k x) g
item-shows (top.Process p) s k g = refl
item-shows (top.Pending o) s k g = refl
item-shows (top.Frame f) s k g = refl
item-shows (top.Activation a) s k g =
    activation-shows (slice_get s.world.scripts a.script) (slice_get s.world.variables a.script) a s g
item-shows (top.Leave c) s k g = refl

top-shows : (o : Option Control) (s : State) (k : ℕ) (g : Given) → Shows (λ x. top_move o s k x) g
top-shows None s k g = refl
top-shows (Some c) s k g = item-shows c (without_top s) k g

crowded-shows : (b : Bool) (s : State) (k : ℕ) (g : Given) → Shows (λ x. crowded_move b s k x) g
crowded-shows true s k g = refl
crowded-shows false s k g = top-shows (slice_get s.control 0) s k g

step-shows : (s : State) (k : ℕ) (g : Given) → Shows (λ x. step_of s k x) g
step-shows s k g = ap (λ (m : Move). settled_move m) (crowded-shows (is_crowded s) s k g)

-- A handle that is given is the number that was given to the step.
plain-fits : (o : Order) (s : State) (a : Answer) → TellsOnly o a → FitsAnswer s a
plain-fits o s a (tells_done is) = subst (λ (x : Answer). FitsAnswer s x) (sym is) tt
plain-fits o s a (tells_null is) = subst (λ (x : Answer). FitsAnswer s x) (sym is) tt
plain-fits o s a (tells_number n none is) = subst (λ (x : Answer). FitsAnswer s x) (sym is) tt
plain-fits o s a (tells_text text is) = subst (λ (x : Answer). FitsAnswer s x) (sym is) tt

answer-fits : (o : Order) (s : State) (g : Given) (e : Effect) → IsForm o s.world e → s.world.handles.is_given g.handle ≡ false
    → FitsAnswer s (answered e s.world g).0
answer-fits o s g e (refuses c is) fresh = subst (λ (x : Effect). FitsAnswer s (answered x s.world g).0) (sym is) tt
answer-fits o s g e (answers_only a plain is) fresh =
    subst (λ (x : Effect). FitsAnswer s (answered x s.world g).0) (sym is) (plain-fits o s a plain)
answer-fits o s g e (opens_object x means room is) fresh =
    subst (λ (x : Effect). FitsAnswer s (answered x s.world g).0) (sym is) fresh
answer-fits o s g e (registers r h time n body object b by watches calls room free is) fresh =
    subst (λ (x : Effect). FitsAnswer s (answered x s.world g).0) (sym is) fresh
answer-fits o s g e (removes c h by names is) fresh = subst (λ (x : Effect). FitsAnswer s (answered x s.world g).0) (sym is) tt
answer-fits o s g e (frees h by live is) fresh = subst (λ (x : Effect). FitsAnswer s (answered x s.world g).0) (sym is) tt

pass-fits : (b : Bool) (o : Order) (a : Activation) (before s : State) (g : Given) → s.world.handles.is_given g.handle ≡ false
    → Fits s (pass_move b o a before s g).0
pass-fits true o a before s g fresh = tt
pass-fits false o a before s g fresh =
    answer-fits o s g (effect_of o a.who s.world) (effect-form o a.who s.world) fresh

order-fits : (b : Bool) (o : Order) (a : Activation) (before s : State) (g : Given) → s.world.handles.is_given g.handle ≡ false
    → Fits s (order_move b o a before s g).0
order-fits true o a before s g fresh = tt
order-fits false o a before s g fresh = pass-fits (is_pass o) o a before s g fresh

activation-fits : (script : Option ScriptData) (vars : Option (List Answer)) (a : Activation) (s : State) (g : Given)
    → s.world.handles.is_given g.handle ≡ false → Fits s (activation_move script vars a s g).0
activation-fits None vars a s g fresh = tt
activation-fits (Some script) None a s g fresh = tt
activation-fits (Some script) (Some vars) a s g fresh =
    let next : Order × Point × List Answer = next_order script a.at vars a.seen in
    order-fits (is_return next.0) next.0 (record a { at = next.1 }) (with_top (top.Activation a) s)
    (with_variables (slice_set s.world.variables a.script next.2) s) g fresh

outcome-fits : (s before : State) (l : Option (List ℕ) → Label) (out : Outcome) → ((shown : Option (List ℕ)) → Fits s (l shown))
    → Fits s (move_of l before out).0
outcome-fits s before l (Ok m) fits = fits m.shown
outcome-fits s before l (Err f) fits = tt

fire-fits : (s t : State) (o : Option ℕ) (f : Told) → Fits s (fire_move o f t).0
fire-fits s t None f = tt
fire-fits s t (Some c) f = tt

fits-label : (s t : State) (l : Label) → t.world.handles ≡ s.world.handles → Fits t l → Fits s l
fits-label s t (label.Startup k) same fits = tt
fits-label s t (label.Do who order answer.Done) same fits = tt
fits-label s t (label.Do who order answer.Null) same fits = tt
fits-label s t (label.Do who order (answer.Handle h)) same fits =
    subst (λ (hs : Handles). hs.is_given h ≡ false) same fits
fits-label s t (label.Do who order (answer.Number n)) same fits = tt
fits-label s t (label.Do who order (answer.Text text)) same fits = tt
fits-label s t (label.Do who order (answer.Refused c)) same fits = tt
fits-label s t (label.Pass who) same fits = tt
fits-label s t (label.Ret who) same fits = tt
fits-label s t (label.Occ n reason object) same fits = tt
fits-label s t (label.Fire n c) same fits = tt
fits-label s t (label.Done n) same fits = tt
fits-label s t (label.Activate r) same fits = tt
fits-label s t (label.Advance time) same fits = tt
fits-label s t (label.Pick n shown) same fits = tt
fits-label s t (label.Stmt p shown) same fits = tt
fits-label s t (label.Finish c) same fits = tt
fits-label s t (label.End e) same fits = tt

item-fits : (s t : State) (c : Control) (k : ℕ) (g : Given) → t.world.handles ≡ s.world.handles → s.world.handles.is_given g.handle ≡ false
    → Fits s (item_move c t k g).0
item-fits s t (top.Process p) k g same fresh = outcome-fits s (with_top (top.Process p) t) (λ shown. label.Stmt p shown)
    (statement_outcome p t) (λ shown. tt)
item-fits s t (top.Pending o) k g same fresh = outcome-fits s (with_top (top.Pending o) t)
    (λ shown. label.Occ t.occurrence o.reason o.object) (telling_outcome o t) (λ shown. tt)
item-fits s t (top.Frame f) k g same fresh = fire-fits s t (slice_get (top_set t.world.frames) k) f
item-fits s t (top.Activation a) k g same fresh =
    let there : t.world.handles.is_given g.handle ≡ false = subst (λ (hs : Handles). hs.is_given g.handle ≡ false) (sym same) fresh in
    fits-label s t (activation_move (slice_get t.world.scripts a.script) (slice_get t.world.variables a.script) a t g).0 same
    (activation-fits (slice_get t.world.scripts a.script) (slice_get t.world.variables a.script) a t g there)
item-fits s t (top.Leave c) k g same fresh = tt

time-fits : (s : State) (o : Option ℕ) → Fits s (time_move o s).0
time-fits s None = tt
time-fits s (Some time) = tt

region-fits : (s : State) (o : Option Region) → Fits s (region_move o s).0
region-fits s None = time-fits s (least_time s.world.activity.queue.entries)
region-fits s (Some r) = tt

pick-fits : (s : State) (o : Option Entry) → Fits s (pick_move o s).0
pick-fits s None = region-fits s (next_region s.world.activity.queue)
pick-fits s (Some e) = outcome-fits s s (λ shown. label.Pick e.serial shown)
    (work_outcome e.work (with_queue (without e.serial s.world.activity.queue) s)) (λ shown. tt)

agenda-fits : (s : State) (o : Option Agendum) (k : ℕ) → Fits s (agenda_move o s k).0
agenda-fits s None k = pick-fits s (slice_get (eligible s.world.activity.queue) k)
agenda-fits s (Some (agendum.Startup n)) k = tt
agenda-fits s (Some (agendum.Occurrence r)) k = outcome-fits s s
    (λ shown. label.Occ s.occurrence r None) (telling_outcome (occurrence_of r) (without_item s)) (λ shown. tt)

idle-fits : (s : State) (f : Phase) (k : ℕ) → Fits s (idle_move f s k).0
idle-fits s phase.Running k = agenda-fits s (slice_get s.agenda 0) k
idle-fits s (phase.Finished c) k = tt
idle-fits s (phase.Ended e) k = tt

top-fits : (s : State) (o : Option Control) (k : ℕ) (g : Given) → s.world.handles.is_given g.handle ≡ false → Fits s (top_move o s k g).0
top-fits s None k g fresh = idle-fits s s.world.phase k
top-fits s (Some c) k g fresh = item-fits s (without_top s) c k g refl fresh

crowded-fits : (s : State) (b : Bool) (k : ℕ) (g : Given) → s.world.handles.is_given g.handle ≡ false → Fits s (crowded_move b s k g).0
crowded-fits s true k g fresh = tt
crowded-fits s false k g fresh = top-fits s (slice_get s.control 0) k g fresh

settles-by : (b : Bool) (l : Label) (t u : State) → is_end l ≡ b → u ≡ cond b t (settled t)
    → (let m : Move = (l, cond (is_end l) t (settled t)) in m) ≡ (let n : Move = (l, u) in n)
settles-by b l t u is after =
    ap (λ (x : Bool). (let m : Move = (l, cond x t (settled t)) in m)) is
    ∙ ap (λ (x : State). (let m : Move = (l, x) in m)) (sym after)

-- The label that was made, and the state that settles after it, are that of the step.
pub makes-move : (s t u : State) (k : ℕ) (g : Given) (l : Label) (b : Bool)
    → crowded_move (is_crowded s) s k g ≡ (l, t) → is_end l ≡ b → u ≡ cond b t (settled t) → step_of s k g ≡ (l, u)
makes-move s t u k g l b is ends after = ap (λ (m : Move). settled_move m) is ∙ settles-by b l t u ends after

-- They are a step.
pub makes-step : (s t u : State) (k : ℕ) (g : Given) (l : Label) (b : Bool) → s.world.handles.is_given g.handle ≡ false
    → crowded_move (is_crowded s) s k g ≡ (l, t) → is_end l ≡ b → u ≡ cond b t (settled t) → IsStep s k (l, u)
makes-step s t u k g l b fresh is ends after = record {
  given = g;
  fits = subst (λ (m : Move). Fits s m.0) is (crowded-fits s (is_crowded s) k g fresh);
  makes = makes-move s t u k g l b is ends after;
}

-- A run is the one list of labels.
move-again : (order : Chooser) (s : State) (g : Given) (m : Move) → move_from order s g ≡ m → move_from order s (given_in m.0) ≡ m
move-again order s g m is =
    let P : Move → Type 0 = λ x. move_from order s (given_in x.0) ≡ x in subst P is (step-shows s _ g)

rest-of-run : (b : Bool) (m : Move) (moves rest : List Move) → is_end m.0 ≡ b → (is_end m.0 ≡ true → moves ≡ []) → moves ≡ rest
    → moves ≡ cond b [] rest
rest-of-run true m moves rest is stops same = stops is
rest-of-run false m moves rest is stops same = same

pub one-run : OneRun
one-run order s [] run = refl
one-run order s (m ∷ moves) run =
    let next : Chooser = chooser_after order (choices_of s) in
    let rest : moves ≡ moves_with next (all_given moves) m.1 = one-run next m.1 moves run.2 in
    let here : moves ≡ cond (is_end m.0) [] (moves_with next (all_given moves) m.1) =
    rest-of-run (is_end m.0) m moves (moves_with next (all_given moves) m.1) refl run.1 rest in
    let P : Move → Type 0 = λ z. m ∷ moves ≡ z ∷ cond (is_end z.0) [] (moves_with next (all_given moves) z.1) in
    subst P (sym (move-again order s run.0.given m run.0.makes)) (ap (λ (ms : List Move). m ∷ ms) here)

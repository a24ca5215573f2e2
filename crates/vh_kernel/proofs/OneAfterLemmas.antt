-- In a sound state the state after is a function of the state before and the label.
use Rattle.std.proofs.Common.{◌≡◌, cond, Option, Some, Ok, List, slice_get, sym, ap, subst, ◌∙◌, inl, inr}
use Rattle.vh_base.specs.declared.orders.Answer.{Answer}
use Rattle.vh_base.specs.declared.words.Reason.{Reason}
use Rattle.vh_app.specs.Script.{ScriptData}
use Rattle.vh_callbacks.specs.Callbacks.{info_of, body_of}
use Rattle.vh_kernel.specs.Activations.{Activation}
use Rattle.vh_kernel.specs.declared.control.Control.{Control}
use Rattle.vh_kernel.specs.declared.control.Control.TheVariants as top
use Rattle.vh_queue.specs.declared.entry.Entry.{Entry}
use Rattle.vh_orders.specs.declared.phase.Ending.TheVariants as ending
use Rattle.vh_kernel.specs.declared.label.Label.{Label}
use Rattle.vh_kernel.specs.declared.label.Label.TheVariants as label
use Rattle.vh_kernel.specs.declared.occurrence.Agendum.{Agendum}
use Rattle.vh_kernel.specs.declared.occurrence.Agendum.TheVariants as agendum
use Rattle.vh_kernel.specs.declared.occurrence.Told.{Told}
use Rattle.vh_queue.specs.Events.{without}
use Rattle.vh_dispatch.specs.Frames.{without_in_top}
use Rattle.vh_kernel.specs.Occurrences.{Occurrence, occurrence_of}
use Rattle.vh_orders.specs.Orders.{Given}
use Rattle.vh_kernel.specs.Outcome.{Made, Outcome, Move, after_made}
use Rattle.vh_kernel.specs.Run.{given_in}
use Rattle.vh_kernel.specs.Settle.{settled}
use Rattle.vh_kernel.specs.State.{State, with_queue, with_top, without_top, with_frames}
use Rattle.vh_kernel.specs.Statements.{work_outcome}
use Rattle.vh_kernel.specs.Step.{called, activation_move, telling_outcome, is_end}
use Rattle.vh_kernel.specs.Table.{HasTop, HasNext, TellsNext, Acts, Row, IsSound, OneStateAfter}
use Rattle.vh_kernel.proofs.RunLemmas.{activation-shows}
use Rattle.vh_kernel.proofs.SoundLemmas.{one_entry}

-- One thing is on top of control, or next on the agenda.
one-activation : (s : State) (a b : Activation) → HasTop s (top.Activation a) → HasTop s (top.Activation b) → a ≡ b
one-activation s a b one other = let x = one.on in let y = other.on in cc

one-frame : (s : State) (f g : Told) → HasTop s (top.Frame f) → HasTop s (top.Frame g) → f ≡ g
one-frame s f g one other = let x = one.on in let y = other.on in cc

one-pending : (s : State) (o p : Occurrence) → HasTop s (top.Pending o) → HasTop s (top.Pending p) → o ≡ p
one-pending s o p one other = let x = one.on in let y = other.on in cc

one-reason : (s : State) (q r : Reason) → HasNext s (Some (agendum.Occurrence q)) → HasNext s (Some (agendum.Occurrence r)) → q ≡ r
one-reason s q r one other = let x = one.next in let y = other.next in cc

top-or-next : (s : State) (c : Control) (o : Option Agendum) → HasTop s c → HasNext s o → ⊥
top-or-next s c o on next = let x = on.on in let y = next.idle in absurd (cc)

-- One occurrence is told next, and leaves one state.
one-told : (s : State) (o p : Occurrence) (r t : State) → TellsNext s o r → TellsNext s p t → (o ≡ p) × (r ≡ t)
one-told s o p r t (inl one) (inl other) = (one-pending s o p one.0 other.0, one.1 ∙ sym other.1)
one-told s o p r t (inl one) (inr other) = absurd (top-or-next s (top.Pending o) (Some (agendum.Occurrence other.0)) one.0 other.1)
one-told s o p r t (inr one) (inl other) = absurd (top-or-next s (top.Pending p) (Some (agendum.Occurrence one.0)) other.0 one.1)
one-told s o p r t (inr one) (inr other) = (
  one.2 ∙ ap (λ (x : Reason). occurrence_of x) (one-reason s one.0 other.0 one.1 other.1) ∙ sym other.2,
  one.3 ∙ sym other.3,
)

-- What is made is one.
one-made : (out : Outcome) (m n : Made) → out ≡ Ok m → out ≡ Ok n → m ≡ n
one-made out m n one other = cc

-- An activation on top makes one move with a label.
by-label : (script : Option ScriptData) (vars : Option (List Answer)) (a : Activation) (s u : State) (g : Given) (l : Label)
    → activation_move script vars a s g ≡ (l, u) → activation_move script vars a s (given_in l) ≡ (l, u)
by-label script vars a s u g l is =
    let P : Move → Type 0 = λ m. activation_move script vars a s (given_in m.0) ≡ m in subst P is (activation-shows script vars a s g)

one-acted : (s u v : State) (l : Label) → Acts s l u → Acts s l v → u ≡ v
one-acted s u v l one other =
    let first = by-label (slice_get s.world.scripts one.who.script) (slice_get s.world.variables one.who.script) one.who (without_top s) u one.given l one.makes in
    let second = by-label (slice_get s.world.scripts other.who.script) (slice_get s.world.variables other.who.script) other.who (without_top s) v other.given l other.makes in
    let alike = ap (λ (x : Activation). activation_move (slice_get s.world.scripts x.script) (slice_get s.world.variables x.script) x (without_top s) (given_in l))
    (one-activation s one.who other.who one.on other.on) in
    ap (λ (m : Move). m.1) (sym first ∙ alike ∙ second)

-- A row leads to one state.
one-row : (s u v : State) (l : Label) → IsSound s → Row s l u → Row s l v → u ≡ v
one-row s u v (label.Startup k) sound one other = one.1 ∙ sym other.1
one-row s u v (label.Do who order answer) sound one other = one-acted s u v (label.Do who order answer) one other
one-row s u v (label.Pass who) sound one other = one-acted s u v (label.Pass who) one other
one-row s u v (label.Ret who) sound one other = one-acted s u v (label.Ret who) one other
one-row s u v (label.Occ n reason object) sound one other =
    let alike = one-told s one.what other.what one.rest other.rest one.next other.next in
    let there : telling_outcome one.what one.rest ≡ Ok other.made =
    ap (λ (x : Occurrence). telling_outcome x one.rest) alike.0 ∙ ap (λ (x : State). telling_outcome other.what x) alike.1 ∙ other.makes in
    one.leaves ∙ ap (λ (m : Made). after_made m) (one-made (telling_outcome one.what one.rest) one.made other.made one.makes there) ∙ sym other.leaves
one-row s u v (label.Fire n c) sound one other =
    one.leaves
    ∙ ap (λ (x : Told). called (info_of c s.world.callbacks) (body_of c s.world.callbacks) c x.what
    (with_top (top.Frame x) (with_frames (without_in_top c s.world.frames) (without_top s)))) (one-frame s one.frame other.frame one.on other.on)
    ∙ sym other.leaves
one-row s u v (label.Done n) sound one other = one.leaves ∙ sym other.leaves
one-row s u v (label.Activate r) sound one other = one.1 ∙ sym other.1
one-row s u v (label.Advance time) sound one other = one.2 ∙ sym other.2
one-row s u v (label.Pick n shown) sound one other =
    let entry : one.entry ≡ other.entry =
    one_entry s one.choice other.choice one.entry other.entry sound one.chosen other.chosen (one.serial ∙ sym other.serial) in
    let there = ap (λ (x : Entry). work_outcome x.work (with_queue (without n s.world.activity.queue) s)) entry
    ∙ other.makes in
    one.leaves.1 ∙ ap (λ (m : Made). after_made m) (one-made _ one.made other.made one.makes there) ∙ sym other.leaves.1
one-row s u v (label.Stmt p shown) sound one other =
    one.leaves.1 ∙ ap (λ (m : Made). after_made m) (one-made _ one.made other.made one.makes other.makes) ∙ sym other.leaves.1
one-row s u v (label.Finish c) sound one other = one.1 ∙ sym other.1
one-row s u v (label.End (ending.Cause c)) sound one other = one.3 ∙ sym other.3
one-row s u v (label.End (ending.Fault f)) sound one other = one.1 ∙ sym other.1

pub one-state-after : OneStateAfter
one-state-after s t u l sound one other =
    one.settles ∙ ap (λ (x : State). cond (is_end l) x (settled x)) (one-row s one.before other.before l sound one.row other.row)
    ∙ sym other.settles

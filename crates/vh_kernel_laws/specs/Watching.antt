-- The law of callbacks: to whom an occurrence is told, what a fire calls, how long a frame stands, where callbacks come from,
-- and what stays of them. (IEEE 1364-2005, 27.33 and 27.34)
use Rattle.std.specs.Prelude.{◌≡◌, ℕ, List, [], ◌∷◌, ◌++◌, Bool, true, false, drop, Option, Some, slice_get, ◌⊎◌}
use Rattle.vh_base.specs.declared.faults.Cause.{Cause}
use Rattle.vh_base.specs.declared.orders.Answer.TheVariants as answer
use Rattle.vh_base.specs.declared.orders.BodyName.{BodyName}
use Rattle.vh_base.specs.declared.orders.Object.{Object}
use Rattle.vh_base.specs.declared.orders.Order.TheVariants as order
use Rattle.vh_base.specs.declared.words.Reason.{Reason}
use Rattle.vh_callbacks.specs.declared.registration.Registration.{Registration}
use Rattle.vh_callbacks.specs.Callbacks.{info_of, body_of, is_live}
use Rattle.vh_callbacks.specs.Marks.{is_among}
use Rattle.vh_callbacks.specs.Registration.{is_some_for}
use Rattle.vh_handles.specs.declared.handles.Thing.TheVariants as thing
use Rattle.vh_handles.specs.Handles.{thing_at}
use Rattle.vh_kernel.specs.Activations.{Activation, first_seen}
use Rattle.vh_kernel.specs.declared.control.Control.TheVariants as top
use Rattle.vh_kernel.specs.declared.label.Label.{Label}
use Rattle.vh_kernel.specs.declared.label.Label.TheVariants as label
use Rattle.vh_kernel.specs.declared.occurrence.Told.{Told}
use Rattle.vh_kernel.specs.Occurrences.{Occurrence, set_of}
use Rattle.vh_kernel.specs.Outcome.{Move}
use Rattle.vh_kernel.specs.State.{State}
use Rattle.vh_kernel_laws.specs.Firing.{Frame, frames_of, IsTelling}
use Rattle.vh_kernel_laws.specs.Paths.{end_of}
use Rattle.vh_orders.specs.declared.who.Body.{Body}
use Rattle.vh_orders.specs.declared.who.Who.{Who}
use Rattle.vh_orders.specs.declared.who.Who.TheVariants as who_is
use Rattle.vh_orders.specs.Orders.{needs_entry}

-- Is a callback live, and was it registered for this reason and this object?
abbrev pub watches : Reason → Option Object → ℕ → State → Bool
watches reason object c s = is_some_for reason object (info_of c s.world.callbacks)

-- To whom an occurrence is told:
pub data IsToldTo (what : Occurrence) (s : State) (set : List ℕ) : Type 0 where
  -- to each callback that watches its object for its reason, and to no other;
  all : needs_entry what.reason ≡ false → ((c : ℕ) → is_among c set ≡ watches what.reason what.object c s) → IsToldTo what s set
  -- where the reason stands for an entry of the event queue, to the callback of that entry alone.
  one : (c : ℕ) → needs_entry what.reason ≡ true → set ≡ c ∷ [] → watches what.reason what.object c s ≡ true → IsToldTo what s set

abbrev pub TellsThoseWhoWatch : List Move → Type 0
TellsThoseWhoWatch moves =
    (before behind : List Move) (m : Move) (n : ℕ) (what : Occurrence) → moves ≡ before ++ m ∷ behind → IsTelling m n what
    → IsToldTo what m.1 (set_of what m.1.world.callbacks)

-- A callback fires for the occurrence whose frame is on top of control, so that what it called before for others has ended; and what
-- it was registered with begins above that, and sees the occurrence.
pub record Calls (s : State) (n c : ℕ) (t : State) : Type 0 where
  pub told : Told
  pub registration : Registration
  pub body : Body
  pub activation : Activation
  pub on_top : slice_get s.control 0 ≡ Some (top.Frame told)
  pub number : told.number ≡ n
  pub registered : info_of c s.world.callbacks ≡ Some registration
  pub calls : body_of c s.world.callbacks ≡ Some body
  pub begins : t.control ≡ top.Activation activation ∷ s.control
  pub who : activation.who ≡ who_is.Callback c
  pub script : activation.script ≡ body.script
  pub at : activation.at ≡ body.start
  pub sees : activation.seen ≡ first_seen registration told.what s.world.activity.queue.time

abbrev pub FiresTop : State → List Move → Type 0
FiresTop s moves =
    (before behind : List Move) (n c : ℕ) (t : State) → moves ≡ before ++ (label.Fire n c, t) ∷ behind → Calls (end_of s before) n c t

-- An occurrence is done where its frame is on top of control, and then the frame is gone.
pub record Closes (s : State) (n : ℕ) (t : State) : Type 0 where
  pub told : Told
  pub on_top : slice_get s.control 0 ≡ Some (top.Frame told)
  pub number : told.number ≡ n
  pub gone : frames_of t ≡ drop 1 (frames_of s)

abbrev pub ClosesTop : State → List Move → Type 0
ClosesTop s moves =
    (before behind : List Move) (n : ℕ) (t : State) → moves ≡ before ++ (label.Done n, t) ∷ behind → Closes (end_of s before) n t

-- The frame of an occurrence stands until that is done, or a finish empties control.
abbrev pub HasFrameOf : ℕ → State → Type 0
HasFrameOf n s = (i : ℕ) × (f : Frame) × (slice_get (frames_of s) i ≡ Some f) × (f.number ≡ n)

abbrev pub FramesStand : State → List Move → Type 0
FramesStand s moves =
    (before behind : List Move) (m : Move) (n : ℕ) → moves ≡ before ++ m ∷ behind → HasFrameOf n (end_of s before)
    → HasFrameOf n m.1 ⊎ (m.0 ≡ label.Done n) ⊎ ((cause : Cause) × (m.0 ≡ label.Finish cause))

-- The label is an answered registration, and its handle names the callback.
pub record IsRegistration (c : ℕ) (l : Label) (t : State) : Type 0 where
  pub who : Who
  pub reason : Reason
  pub watched : Option ℕ
  pub time : ℕ
  pub calls : BodyName
  pub user_data : ℕ
  pub handle : ℕ
  pub is : l ≡ label.Do who (order.Register reason watched time calls user_data) (answer.Handle handle)
  pub names : thing_at handle t.world.handles ≡ Some (thing.Callback c)

-- A callback becomes live only where it is registered,
abbrev pub ComesByRegistration : State → List Move → Type 0
ComesByRegistration s moves =
    (before behind : List Move) (m : Move) (c : ℕ) → moves ≡ before ++ m ∷ behind
    → is_live c (end_of s before).world.callbacks ≡ false → is_live c m.1.world.callbacks ≡ true → IsRegistration c m.0 m.1

-- And as long as it is live it keeps what it was registered with.
pub record IsSameCallback (c : ℕ) (s t : State) : Type 0 where
  pub registration : info_of c t.world.callbacks ≡ info_of c s.world.callbacks
  pub body : body_of c t.world.callbacks ≡ body_of c s.world.callbacks

abbrev pub StaysAsRegistered : State → List Move → Type 0
StaysAsRegistered s moves =
    (before behind : List Move) (m : Move) (c : ℕ) → moves ≡ before ++ m ∷ behind
    → is_live c (end_of s before).world.callbacks ≡ true → is_live c m.1.world.callbacks ≡ true → IsSameCallback c (end_of s before) m.1

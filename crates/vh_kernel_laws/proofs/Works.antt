-- What a label changes of that of which the laws speak: the frames, the callbacks, the handles and the
-- number of the next occurrence. Each step of the machine is one of six kinds.
use Rattle.std.proofs.Common.{◌≡◌, ℕ, ◌+◌, List, [], ◌∷◌, map, true, false, Option, Some, None, Ok}
use Rattle.std.specs.Option.{is_some}
use Rattle.vh_base.specs.declared.faults.Cause.{Cause}
use Rattle.vh_base.specs.declared.orders.Answer.{Answer}
use Rattle.vh_base.specs.declared.orders.Answer.TheVariants as answer
use Rattle.vh_base.specs.declared.orders.BodyName.{BodyName}
use Rattle.vh_base.specs.declared.orders.Object.{Object}
use Rattle.vh_base.specs.declared.orders.Order.{Order}
use Rattle.vh_base.specs.declared.orders.Order.TheVariants as order
use Rattle.vh_base.specs.declared.words.Reason.{Reason}
use Rattle.vh_callbacks.specs.declared.registration.Registration.{Registration}
use Rattle.vh_callbacks.specs.Callbacks.{Callbacks, registered, removed, is_full}
use Rattle.vh_orders.specs.declared.who.Body.{Body}
use Rattle.vh_orders.specs.declared.who.Who.{Who}
use Rattle.vh_handles.specs.declared.handles.Thing.{Thing}
use Rattle.vh_handles.specs.declared.handles.Thing.TheVariants as thing
use Rattle.vh_kernel.specs.declared.label.Label.{Label}
use Rattle.vh_kernel.specs.declared.label.Label.TheVariants as label
use Rattle.vh_kernel_laws.specs.Firing.{Frame}
use Rattle.vh_handles.specs.Handles.{Handles, thing_at, opened, freed}
use Rattle.vh_callbacks.specs.Marks.{is_among, without_number}
use Rattle.vh_kernel.specs.Occurrences.{Occurrence, set_of}
use Rattle.vh_orders.specs.Orders.{needs_object, object_watched, body_named, registration_of}
use Rattle.vh_kernel.specs.State.{State}
use Rattle.vh_kernel_laws.specs.Deeds.{freed_by}
use Rattle.vh_kernel_laws.specs.Firing.{frames_of}
use Rattle.vh_kernel_laws.specs.HandleLaw.{FindsObject}
use Rattle.vh_kernel_laws.specs.Paths.{other, deed_of}

-- Of a state the frames on control, the callbacks, the handles, and the number of the next occurrence.
pub record View : Type 0 where
  pub frames : List Frame
  pub callbacks : Callbacks Body
  pub handles : Handles
  pub occurrence : ℕ

abbrev pub view_of : State → View
view_of s = record { frames = frames_of s; callbacks = s.world.callbacks; handles = s.world.handles; occurrence = s.occurrence }

-- A callback leaves the set of a frame.
abbrev pub taken_from : ℕ → Frame → Frame
taken_from c f = record f { left = without_number c f.left }

-- An answer that gives no handle, and that of no order that frees one.
abbrev pub GivesNone : Answer → Type 0
GivesNone answer.Done = Unit {0}
GivesNone answer.Null = Unit {0}
GivesNone (answer.Handle h) = ⊥
GivesNone (answer.Number n) = Unit {0}
GivesNone (answer.Text text) = Unit {0}
GivesNone (answer.Refused c) = Unit {0}

abbrev pub IsPlain : Order → Answer → Type 0
IsPlain o a = GivesNone a × (freed_by o a ≡ None)

-- What was asked to be registered.
pub record RegistersAs (s : State) (o : Order) (h : ℕ) (r : Registration) (b : Body) : Type 0 where
  pub reason : Reason
  pub watched : Option ℕ
  pub time : ℕ
  pub number : ℕ
  pub calls : BodyName
  pub object : Option Object
  pub asks : o ≡ order.Register reason watched time calls number
  pub watches : object_watched (needs_object reason) reason watched s.world ≡ Ok object
  pub found : body_named calls s.world.scripts ≡ Ok b
  pub is : r ≡ registration_of reason object watched time number h

-- What an order changes is told by its answer.
pub data Changes (s : State) (o : Order) (a : Answer) (w : View) : Type 0 where
  -- nothing;
  changes_none : IsPlain o a → w ≡ view_of s → Changes s o a w
  -- an object gets a handle;
  opens_one : (h : ℕ) (x : Thing) → a ≡ answer.Handle h → s.world.handles.is_given h ≡ false → FindsObject s o x
      → w ≡ record (view_of s) { handles = opened h x s.world.handles } → Changes s o a w
  -- a callback is registered, and gets a handle;
  registers_one : (h : ℕ) (r : Registration) (b : Body) → a ≡ answer.Handle h → s.world.handles.is_given h ≡ false
      → is_full s.world.callbacks ≡ false → RegistersAs s o h r b
      → w ≡ record (view_of s) {
        callbacks = registered r b s.world.callbacks;
        handles = opened h (thing.Callback s.world.callbacks.next) s.world.handles;
      } → Changes s o a w
  -- the callback that a handle names is removed, from every frame's set too, and the handle is freed;
  removes_one : (c h : ℕ) → o ≡ order.Remove (Some h) → a ≡ answer.Number 1 → thing_at h s.world.handles ≡ Some (thing.Callback c)
      → w ≡ record (view_of s) {
        frames = map (taken_from c) (frames_of s);
        callbacks = removed c s.world.callbacks;
        handles = freed h s.world.handles;
      } → Changes s o a w
  -- or a handle is freed.
  frees_one : (h : ℕ) → o ≡ order.Free (Some h) → a ≡ answer.Number 1 → is_some (thing_at h s.world.handles) ≡ true
      → w ≡ record (view_of s) { handles = freed h s.world.handles } → Changes s o a w

pub data Works (s : State) (l : Label) (w : View) : Type 0 where
  -- nothing;
  works_none : deed_of l ≡ other → w ≡ view_of s → Works s l w
  -- a finish empties control;
  empties : deed_of l ≡ other → w ≡ record (view_of s) { frames = [] } → (cause : Cause) × (l ≡ label.Finish cause) → Works s l w
  -- an order is answered;
  orders_one : (who : Who) (o : Order) (a : Answer) → l ≡ label.Do who o a → Changes s o a w → Works s l w
  -- an occurrence gets the next number, and a frame with its set;
  tells_one : (n : ℕ) (what : Occurrence) → l ≡ label.Occ n what.reason what.object → n ≡ s.occurrence
      → w ≡ record (view_of s) {
        frames = record { number = n; what = what; left = set_of what s.world.callbacks } ∷ frames_of s;
        occurrence = n + 1;
      } → Works s l w
  -- a callback of the set of the top frame leaves it;
  fires_one : (n c : ℕ) (f : Frame) (rest : List Frame) → l ≡ label.Fire n c → frames_of s ≡ f ∷ rest → n ≡ f.number
      → is_among c f.left ≡ true → w ≡ record (view_of s) { frames = taken_from c f ∷ rest } → Works s l w
  -- the top frame, whose set is empty, is gone.
  closes_one : (n : ℕ) (f : Frame) (rest : List Frame) → l ≡ label.Done n → frames_of s ≡ f ∷ rest → n ≡ f.number
      → f.left ≡ [] → w ≡ record (view_of s) { frames = rest } → Works s l w

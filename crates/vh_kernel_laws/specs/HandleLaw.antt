-- The handle law: what a handle names from its giving to its freeing, and what it answers after that.
-- (IEEE 1364-2005, clause 26; that a number isn't given again is own)
use Rattle.std.specs.Prelude.{◌≡◌, ℕ, List, ◌∷◌, ◌++◌, Bool, true, false, ◌==◌, ◌&&◌, Option, Some, None, is_some, Ok, ◌⊎◌}
use Rattle.std.specs.List.{list_any}
use Rattle.vh_base.specs.declared.orders.Answer.{Answer}
use Rattle.vh_base.specs.declared.orders.Answer.TheVariants as answer
use Rattle.vh_base.specs.declared.orders.BodyName.{BodyName}
use Rattle.vh_base.specs.declared.orders.Object.{Object}
use Rattle.vh_base.specs.declared.orders.Order.{Order}
use Rattle.vh_base.specs.declared.orders.Order.TheVariants as order
use Rattle.vh_base.specs.declared.words.Code.TheVariants as code
use Rattle.vh_base.specs.declared.words.Reason.{Reason}
use Rattle.vh_base.specs.declared.words.Relation.{Relation}
use Rattle.vh_callbacks.specs.Callbacks.{info_of, body_of, is_full}
use Rattle.vh_orders.specs.declared.who.Body.{Body}
use Rattle.vh_orders.specs.declared.who.Who.{Who}
use Rattle.vh_handles.specs.declared.handles.Thing.{Thing}
use Rattle.vh_handles.specs.declared.handles.Thing.TheVariants as thing
use Rattle.vh_kernel.specs.declared.label.Label.{Label}
use Rattle.vh_kernel.specs.declared.label.Label.TheVariants as label
use Rattle.vh_handles.specs.Handles.{thing_at, no_handle_more}
use Rattle.vh_orders.specs.Names.{object_named}
use Rattle.vh_orders.specs.Orders.{is_startup, name_meant, objects_of, Means, needs_object, needs_entry, object_watched, body_named, registration_of, handles_read, all_named}
use Rattle.vh_orders.specs.Things.{related, word_in}
use Rattle.vh_orders.specs.World.{World}
use Rattle.vh_kernel.specs.Outcome.{Move}
use Rattle.vh_kernel.specs.State.{State}
use Rattle.vh_kernel_laws.specs.Deeds.{frees}
use Rattle.vh_kernel_laws.specs.Paths.{Deed, tells, fires, closes, answers, other, deed_of, any, end_of}

-- Is this the handle?
abbrev pub is_handle : ℕ → Option ℕ → Bool
is_handle h None = false
is_handle h (Some n) = h == n

-- Does an answer give the handle?
abbrev pub gives : ℕ → Answer → Bool
gives h answer.Done = false
gives h answer.Null = false
gives h (answer.Handle n) = h == n
gives h (answer.Number n) = false
gives h (answer.Text text) = false
gives h (answer.Refused c) = false

-- Does a label?
abbrev pub gives_of : ℕ → Deed → Bool
gives_of h (tells number) = false
gives_of h (fires number callback) = false
gives_of h (closes number) = false
gives_of h (answers answer) = gives h answer
gives_of h other = false

abbrev pub is_giving : ℕ → Label → Bool
is_giving h l = gives_of h (deed_of l)

-- Does an order read the handle?
abbrev pub reads : ℕ → Order → Bool
reads h o = list_any (is_handle h) (handles_read o)

-- No number is given twice.
abbrev pub GivesOnce : List Move → Type 0
GivesOnce moves =
    (before behind : List Move) (who : Who) (o : Order) (h : ℕ) (t : State)
    → moves ≡ before ++ (label.Do who o (answer.Handle h), t) ∷ behind
    → (any (is_giving h) before ≡ false) × (any (is_giving h) behind ≡ false)

-- A handle is given for the object, or the word, that was asked for: by its name, by a relation, by an address,
pub record FindsObject (s : State) (o : Order) (x : Thing) : Type 0 where
  pub object : Object
  pub means : Means o s.world object
  pub names : x ≡ thing.Object object

-- Or for the callback that was registered, which is live from then on with what was asked for.
pub record Registers (s : State) (o : Order) (h : ℕ) (x : Thing) (t : State) : Type 0 where
  pub reason : Reason
  pub watched : Option ℕ
  pub time : ℕ
  pub user_data : ℕ
  pub calls : BodyName
  pub object : Option Object
  pub body : Body
  pub asks : o ≡ order.Register reason watched time calls user_data
  pub watches : object_watched (needs_object reason) reason watched s.world ≡ Ok object
  pub found : body_named calls s.world.scripts ≡ Ok body
  pub names : x ≡ thing.Callback s.world.callbacks.next
  pub info : info_of s.world.callbacks.next t.world.callbacks ≡ Some (registration_of reason object watched time user_data h)
  pub is_called : body_of s.world.callbacks.next t.world.callbacks ≡ Some body

-- A handle that is given is live, and names what the order was about.
pub record GivesRight (s : State) (o : Order) (h : ℕ) (t : State) : Type 0 where
  pub thing : Thing
  pub names : thing_at h t.world.handles ≡ Some thing
  pub about : FindsObject s o thing ⊎ Registers s o h thing t

abbrev pub GivesLive : State → List Move → Type 0
GivesLive s moves =
    (before behind : List Move) (who : Who) (o : Order) (h : ℕ) (t : State)
    → moves ≡ before ++ (label.Do who o (answer.Handle h), t) ∷ behind → GivesRight (end_of s before) o h t

-- From its giving on, as long as it is live, a handle names the same thing.
abbrev pub NamesOne : List Move → Type 0
NamesOne moves =
    (before mid behind : List Move) (who : Who) (o : Order) (h : ℕ) (t : State)
    → moves ≡ before ++ (label.Do who o (answer.Handle h), t) ∷ mid ++ behind
    → is_some (thing_at h (end_of t mid).world.handles) ≡ true
    → thing_at h (end_of t mid).world.handles ≡ thing_at h t.world.handles

-- An order that reads only handles that are live isn't answered E1.
abbrev pub FindsLive : State → List Move → Type 0
FindsLive s moves =
    (before behind : List Move) (who : Who) (o : Order) (a : Answer) (t : State)
    → moves ≡ before ++ (label.Do who o a, t) ∷ behind
    → all_named (end_of s before).world (handles_read o) ≡ true → a ≡ answer.Refused code.E1 → ⊥

-- A handle stops being live only where a label frees it,
abbrev pub FreedByOrder : State → List Move → Type 0
FreedByOrder s moves =
    (before behind : List Move) (m : Move) (h : ℕ) → moves ≡ before ++ m ∷ behind
    → is_some (thing_at h (end_of s before).world.handles) ≡ true → thing_at h m.1.world.handles ≡ None
    → frees m.0 ≡ Some h

-- And what a label frees is live no more.
abbrev pub FreedThere : List Move → Type 0
FreedThere moves =
    (before behind : List Move) (m : Move) (h : ℕ) → moves ≡ before ++ m ∷ behind → frees m.0 ≡ Some h
    → thing_at h m.1.world.handles ≡ None

-- After it was freed, every order that reads it answers E1, or in a startup the E9 that comes before.
abbrev pub StaysFreed : State → List Move → Type 0
StaysFreed s moves =
    (before mid behind : List Move) (who : Who) (o : Order) (a : Answer) (t : State) (h : ℕ)
    → moves ≡ before ++ mid ++ (label.Do who o a, t) ∷ behind
    → (end_of s before).world.handles.is_given h ≡ true → thing_at h (end_of s before).world.handles ≡ None
    → reads h o ≡ true
    → (a ≡ answer.Refused code.E1) ⊎ ((is_startup who ≡ true) × (a ≡ answer.Refused code.E9))

-- A removal by a handle of a live callback is answered 1, and none by another handle.
pub record AnswersRemoval (s : State) (who : Who) (h : ℕ) (a : Answer) : Type 0 where
  pub removes : (c : ℕ) → is_startup who ≡ false → thing_at h s.world.handles ≡ Some (thing.Callback c) → a ≡ answer.Number 1
  pub names : a ≡ answer.Number 1 → (c : ℕ) × (thing_at h s.world.handles ≡ Some (thing.Callback c))

abbrev pub RemovesCallbacks : State → List Move → Type 0
RemovesCallbacks s moves =
    (before behind : List Move) (who : Who) (h : ℕ) (a : Answer) (t : State)
    → moves ≡ before ++ (label.Do who (order.Remove (Some h)) a, t) ∷ behind → AnswersRemoval (end_of s before) who h a

-- A `free` of a live handle is answered 1, and none of another.
pub record AnswersFreeing (s : State) (who : Who) (h : ℕ) (a : Answer) : Type 0 where
  pub frees : is_startup who ≡ false → is_some (thing_at h s.world.handles) ≡ true → a ≡ answer.Number 1
  pub live : a ≡ answer.Number 1 → is_some (thing_at h s.world.handles) ≡ true

abbrev pub FreesLive : State → List Move → Type 0
FreesLive s moves =
    (before behind : List Move) (who : Who) (h : ℕ) (a : Answer) (t : State)
    → moves ≡ before ++ (label.Do who (order.Free (Some h)) a, t) ∷ behind → AnswersFreeing (end_of s before) who h a

-- The name of an object is found: a handle is given, unless as many are live as may be; and null where the name is of none.
abbrev pub answers_found : Option Object → Bool → Answer → Type 0
answers_found None is_full a = a ≡ answer.Null
answers_found (Some x) true a = a ≡ answer.Refused code.E10
answers_found (Some x) false a = (h : ℕ) × (a ≡ answer.Handle h)

abbrev pub FindsNames : State → List Move → Type 0
FindsNames s moves =
    (before behind : List Move) (who : Who) (text : List ℕ) (scope : Option ℕ) (name : List ℕ) (a : Answer) (t : State)
    → moves ≡ before ++ (label.Do who (order.ByName text scope) a, t) ∷ behind → is_startup who ≡ false
    → name_meant scope text (end_of s before).world ≡ Ok name
    → answers_found (object_named name (end_of s before).world.names) (no_handle_more (end_of s before).world.handles) a

-- And so is what a relation leads to, and the word of a memory at an address.
abbrev pub FindsRelated : State → List Move → Type 0
FindsRelated s moves =
    (before behind : List Move) (who : Who) (r : Relation) (h : ℕ) (x : Thing) (found : Option Object) (a : Answer) (t : State)
    → moves ≡ before ++ (label.Do who (order.Handle r (Some h)) a, t) ∷ behind → is_startup who ≡ false
    → thing_at h (end_of s before).world.handles ≡ Some x → related (objects_of (end_of s before).world) r x ≡ Ok found
    → answers_found found (no_handle_more (end_of s before).world.handles) a

abbrev pub FindsWords : State → List Move → Type 0
FindsWords s moves =
    (before behind : List Move) (who : Who) (h n : ℕ) (x : Thing) (found : Option Object) (a : Answer) (t : State)
    → moves ≡ before ++ (label.Do who (order.ByIndex (Some h) n) a, t) ∷ behind → is_startup who ≡ false
    → thing_at h (end_of s before).world.handles ≡ Some x → word_in (objects_of (end_of s before).world) x n ≡ Ok found
    → answers_found found (no_handle_more (end_of s before).world.handles) a

-- A registration that nothing speaks against is answered a handle.
pub record IsRegistrable (w : World) (who : Who) (reason : Reason) (watched : Option ℕ) (calls : BodyName) : Type 0 where
  pub object : Option Object
  pub body : Body
  pub in_time : (is_startup who && needs_object reason) ≡ false
  pub built : needs_entry reason ≡ false
  pub watches : object_watched (needs_object reason) reason watched w ≡ Ok object
  pub found : body_named calls w.scripts ≡ Ok body
  pub room : is_full w.callbacks ≡ false
  pub handles : no_handle_more w.handles ≡ false

abbrev pub RegistersAsked : State → List Move → Type 0
RegistersAsked s moves =
    (before behind : List Move) (who : Who) (reason : Reason) (watched : Option ℕ) (time : ℕ) (calls : BodyName) (user_data : ℕ) (a : Answer) (t : State)
    → moves ≡ before ++ (label.Do who (order.Register reason watched time calls user_data) a, t) ∷ behind
    → IsRegistrable (end_of s before).world who reason watched calls → (h : ℕ) × (a ≡ answer.Handle h)

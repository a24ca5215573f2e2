-- What an order is answered and what it changes: a row for each order, its checks in the row's order.
-- (IEEE 1364-2005, clause 27, in this project's profile; the codes of errors are own)
use Rattle.std.specs.Prelude.{◌≡◌, ℕ, List, [], ◌∷◌, map, Bool, true, false, if◌then◌else◌, not, ◌&&◌, ◌==◌, Option, Some, None, is_some, is_none, Result, Ok, Err, bytes_eq, ok_or, option_map, position, slice_get}
use Rattle.vh_base.specs.declared.orders.Answer.{Answer}
use Rattle.vh_base.specs.declared.orders.Answer.TheVariants as answer
use Rattle.vh_base.specs.declared.orders.BodyName.{BodyName}
use Rattle.vh_base.specs.declared.orders.BodyName.TheVariants as body_name
use Rattle.vh_base.specs.declared.orders.Object.{Object}
use Rattle.vh_base.specs.declared.orders.Order.{Order}
use Rattle.vh_base.specs.declared.orders.Order.TheVariants as order
use Rattle.vh_base.specs.declared.words.Code.{Code}
use Rattle.vh_base.specs.declared.words.Code.TheVariants as code
use Rattle.vh_base.specs.declared.words.Property.{Property}
use Rattle.vh_base.specs.declared.words.Reason.{Reason}
use Rattle.vh_base.specs.declared.words.Reason.TheVariants as reason
use Rattle.vh_base.specs.declared.words.Relation.{Relation}
use Rattle.vh_base.specs.declared.words.Relation.TheVariants as relation
use Rattle.vh_base.specs.Checks.{unless, with_some, with_ok}
use Rattle.vh_app.specs.Next.{procedure_named}
use Rattle.vh_app.specs.Script.{ScriptData}
use Rattle.vh_callbacks.specs.declared.registration.Registration.{Registration}
use Rattle.vh_callbacks.specs.Callbacks.{is_full as no_callback_more, registered, removed}
use Rattle.vh_orders.specs.declared.who.Body.{Body}
use Rattle.vh_orders.specs.declared.who.Who.{Who}
use Rattle.vh_orders.specs.declared.who.Who.TheVariants as who_is
use Rattle.vh_callbacks.specs.Marks.{without_number}
use Rattle.vh_handles.specs.declared.handles.Thing.{Thing}
use Rattle.vh_handles.specs.declared.handles.Thing.TheVariants as thing
use Rattle.vh_handles.specs.Handles.{thing_at, opened, freed, no_handle_more}
use Rattle.vh_design_nodes.specs.declared.object.ObjectInfo.{ObjectInfo}
use Rattle.vh_design_nodes.specs.Kinds.{is_scope}
use Rattle.vh_objects.specs.Properties.{is_by_get_str}
use Rattle.vh_orders.specs.Names.{object_named, name_of, is_kind, may_watch, below}
use Rattle.vh_orders.specs.Things.{related, word_in, property_in, info_in, same_thing, error_number}
use Rattle.vh_orders.specs.World.{World}

-- An order is refused with an error, and nothing changes; or it is answered; or it gives a new handle,
-- with the world for each number that this may get.
pub data Done : Type 0 where
  answers : Answer → World → Done
  opens : (ℕ → World) → Done

abbrev pub Effect : Type 0
Effect = Result Done Code

-- What a step may choose besides its number: the number of a new handle.
pub record Given : Type 0 where
  pub handle : ℕ

-- The answer of an order, and the world after it.
abbrev pub answered : Effect → World → Given → Answer × World
answered (Err c) w g = (answer.Refused c, w)
answered (Ok (answers a after)) w g = (a, after)
answered (Ok (opens after)) w g = (answer.Handle g.handle, after g.handle)

-- Startups come before the design is there.
abbrev pub is_startup : Who → Bool
is_startup (who_is.Callback c) = false
is_startup (who_is.Startup k) = true

-- The object, or the callback, that a handle names: E1 where it isn't live, E2 where it names another thing.
abbrev pub object_in : Option Thing → Result Object Code
object_in None = Err code.E1
object_in (Some (thing.Object o)) = Ok o
object_in (Some (thing.Iterator r from at count)) = Err code.E2
object_in (Some (thing.Callback c)) = Err code.E2
object_in (Some (thing.Event serial)) = Err code.E2

abbrev pub callback_in : Option Thing → Result ℕ Code
callback_in None = Err code.E1
callback_in (Some (thing.Object o)) = Err code.E2
callback_in (Some (thing.Iterator r from at count)) = Err code.E2
callback_in (Some (thing.Callback c)) = Ok c
callback_in (Some (thing.Event serial)) = Err code.E2

-- The full name that a path below a scope means; below null it is the path.
abbrev pub name_meant : Option ℕ → List ℕ → World → Result (List ℕ) Code
name_meant None path w = Ok path
name_meant (Some h) path w =
    with_ok (object_in (thing_at h w.handles)) (λ o.
    unless (not (is_kind is_scope o.id w.names)) code.E2 (Ok (below (name_of o.id w.names) path)))

-- A new handle of an object, or null where there is none.
abbrev pub new_handle : Option Object → World → Effect
new_handle None w = Ok (answers answer.Null w)
new_handle (Some o) w =
    unless (no_handle_more w.handles) code.E10
    (Ok (opens (λ h. record w { handles = opened h (thing.Object o) w.handles })))

-- The thing that a handle names: E1 where it is null or isn't live.
abbrev pub thing_named : Option ℕ → World → Result Thing Code
thing_named h w = with_some h code.E1 (λ n. ok_or (thing_at n w.handles) code.E1)

-- The objects of the design.
abbrev pub objects_of : World → List ObjectInfo
objects_of w = w.activity.design.objects

-- Which reasons watch an object. (27.33)
abbrev pub needs_object : Reason → Bool
needs_object reason.CbValueChange = true
needs_object reason.CbForce = true
needs_object reason.CbRelease = true
needs_object reason.CbAtStartOfSimTime = false
needs_object reason.CbAfterDelay = false
needs_object reason.CbNextSimTime = false
needs_object reason.CbReadWriteSynch = false
needs_object reason.CbReadOnlySynch = false
needs_object reason.CbEndOfCompile = false
needs_object reason.CbStartOfSimulation = false
needs_object reason.CbEndOfSimulation = false

-- Which reasons stand for an entry of the event queue. (27.33) They come later, and until then no script
-- names one; they are refused.
abbrev pub needs_entry : Reason → Bool
needs_entry reason.CbValueChange = false
needs_entry reason.CbForce = false
needs_entry reason.CbRelease = false
needs_entry reason.CbAtStartOfSimTime = true
needs_entry reason.CbAfterDelay = true
needs_entry reason.CbNextSimTime = true
needs_entry reason.CbReadWriteSynch = true
needs_entry reason.CbReadOnlySynch = true
needs_entry reason.CbEndOfCompile = false
needs_entry reason.CbStartOfSimulation = false
needs_entry reason.CbEndOfSimulation = false

-- The object that a registration watches: one of a kind that its reason may watch.
abbrev pub object_watched : Bool → Reason → Option ℕ → World → Result (Option Object) Code
object_watched false r h w = Ok None
object_watched true r h w =
    with_some h code.E1 (λ n.
    with_ok (object_in (thing_at n w.handles)) (λ o.
    unless (not (is_kind (may_watch r) o.id w.names)) code.E2 (Ok (Some o))))

-- The procedure of a script, by their names. A native is none, since no natives are handed in yet.
abbrev pub start_in : ℕ → List ℕ → ScriptData → Option Body
start_in i name script = option_map (λ at. record { script = i; start = at }) (procedure_named script name)

abbrev pub body_named : BodyName → List ScriptData → Result Body Code
body_named (body_name.Proc p) scripts =
    with_some (position (λ s. bytes_eq s.name p.app) scripts) code.E13 (λ i.
    with_some (slice_get scripts i) code.E13 (λ script. ok_or (start_in i p.name script) code.E13))
body_named (body_name.Native name) scripts = Err code.E12

-- A new callback, with its handle.
abbrev pub new_callback : (ℕ → Registration) → Body → World → Effect
new_callback r b w =
    unless (no_callback_more w.callbacks) code.E11
    (unless (no_handle_more w.handles) code.E10
    (Ok (opens (λ me. record w {
      callbacks = registered (r me) b w.callbacks;
      handles = opened me (thing.Callback w.callbacks.next) w.handles;
    }))))

-- What is registered, under the handle that it gets.
abbrev pub registration_of : Reason → Option Object → Option ℕ → ℕ → ℕ → ℕ → Registration
registration_of r object named_handle time n me = record {
  reason = r;
  object = object;
  object_handle = named_handle;
  me = me;
  time = time;
  serial = None;
  user_data = n;
}

-- A callback is gone, from every frame'w set too, and a handle is freed.
abbrev pub without_callback : ℕ → ℕ → World → World
without_callback c h w = record w {
  callbacks = removed c w.callbacks;
  handles = freed h w.handles;
  frames = map (without_number c) w.frames;
}

-- The relation of the running call takes null, and so does that of the top modules.
abbrev pub is_running_call : Relation → Bool
is_running_call relation.VpiModule = false
is_running_call relation.VpiScope = false
is_running_call relation.VpiParent = false
is_running_call relation.VpiSysTfCall = true
is_running_call relation.VpiInternalScope = false
is_running_call relation.VpiNet = false
is_running_call relation.VpiPort = false
is_running_call relation.VpiContAssign = false
is_running_call relation.VpiProcess = false
is_running_call relation.VpiReg = false
is_running_call relation.VpiVariables = false
is_running_call relation.VpiMemory = false
is_running_call relation.VpiParameter = false
is_running_call relation.VpiNamedEvent = false
is_running_call relation.VpiMemoryWord = false
is_running_call relation.VpiArgument = false

abbrev pub is_module : Relation → Bool
is_module relation.VpiModule = true
is_module relation.VpiScope = false
is_module relation.VpiParent = false
is_module relation.VpiSysTfCall = false
is_module relation.VpiInternalScope = false
is_module relation.VpiNet = false
is_module relation.VpiPort = false
is_module relation.VpiContAssign = false
is_module relation.VpiProcess = false
is_module relation.VpiReg = false
is_module relation.VpiVariables = false
is_module relation.VpiMemory = false
is_module relation.VpiParameter = false
is_module relation.VpiNamedEvent = false
is_module relation.VpiMemoryWord = false
is_module relation.VpiArgument = false

-- A handle that is needed; where null may stand for it, null is none.
abbrev pub handle_or_null : Bool → Option ℕ → List (Option ℕ)
handle_or_null free None = if free then [] else None ∷ []
handle_or_null free (Some h) = Some h ∷ []

-- A handle that is read on a condition.
abbrev pub handle_if : Bool → Option ℕ → List (Option ℕ)
handle_if true h = h ∷ []
handle_if false h = []

-- The handles that an order reads, a row for each; null among them is a handle that names nothing. A
-- registration for a reason without an object reads none.
abbrev pub handles_read : Order → List (Option ℕ)
handles_read (order.ByName text scope) = handle_or_null true scope
handles_read (order.ByIndex h n) = h ∷ []
handles_read (order.Handle r h) = handle_or_null (is_running_call r) h
handles_read (order.Iterate r h) = handle_or_null (is_module r) h
handles_read (order.Scan h) = h ∷ []
handles_read (order.Free h) = h ∷ []
handles_read (order.Compare a b) = a ∷ b ∷ []
handles_read (order.Get property h) = h ∷ []
handles_read (order.GetStr property h) = h ∷ []
handles_read (order.GetValue h format) = h ∷ []
handles_read (order.PutValue h format text mode time event) = h ∷ []
handles_read (order.Cancel h) = h ∷ []
handles_read order.GetTime = []
handles_read (order.Register r h time body n) = handle_if (needs_object r) h
handles_read (order.Remove h) = h ∷ []
handles_read (order.CbInfo h) = h ∷ []
handles_read (order.RegisterSystf kind text n calltf compiletf) = []
handles_read order.ChkError = []
handles_read (order.Control stop) = []
handles_read (order.Print text) = []
handles_read (order.SetData n) = []
handles_read order.Pass = []
handles_read order.Return = []

-- Does a handle name something?
abbrev pub is_named : World → Option ℕ → Bool
is_named w None = false
is_named w (Some h) = is_some (thing_at h w.handles)

abbrev pub all_named : World → List (Option ℕ) → Bool
all_named w [] = true
all_named w (h ∷ hs) = all_named w hs && is_named w h

-- What a relation leads to from what a handle names. The relation of the running call leads from null, to nothing while no
-- user system task or function runs. (27.16)
abbrev pub one_related : Bool → Relation → Option ℕ → World → Effect
one_related true r h w = Ok (answers answer.Null w)
one_related false r h w = with_ok (thing_named h w) (λ t. with_ok (related (objects_of w) r t) (λ found. new_handle found w))

-- A number or a text that is told; E3 where the kind has no such property.
abbrev pub told : Option Answer → World → Effect
told None w = Err code.E3
told (Some answer.Done) w = Err code.E3
told (Some answer.Null) w = Err code.E3
told (Some (answer.Handle h)) w = Err code.E3
told (Some (answer.Number n)) w = Ok (answers (answer.Number n) w)
told (Some (answer.Text text)) w = Ok (answers (answer.Text text) w)
told (Some (answer.Refused c)) w = Err c

-- A property of what a handle names, of those that the routine answers.
abbrev pub property_told : Bool → Property → Option ℕ → World → Effect
property_told other p h w =
    with_ok (thing_named h w) (λ t. unless other code.E3 (told (property_in (objects_of w) p t) w))

-- A handle is freed, and what it named stays. (27.5)
abbrev pub without_handle : Option ℕ → World → World
without_handle None w = w
without_handle (Some h) w = record w { handles = freed h w.handles }

-- Are two handles one?
abbrev pub same_handle : Option ℕ → Option ℕ → Bool
same_handle None b = false
same_handle (Some a) None = false
same_handle (Some a) (Some b) = a == b

abbrev pub flag_number : Bool → ℕ
flag_number b = if b then 1 else 0

-- An order that no script gives yet is refused, after the checks that stand before all others.
abbrev pub not_yet : Order → Who → World → Effect
not_yet o who w =
    unless (is_startup who) code.E9
    (unless (not (all_named w (handles_read o))) code.E1
    (Err code.E9))

-- Each order.
abbrev pub effect_of : Order → Who → World → Effect
-- by_name
effect_of (order.ByName text scope) who w =
    unless (is_startup who) code.E9
    (with_ok (name_meant scope text w) (λ name. new_handle (object_named name w.names) w))
-- by_index (27.17)
effect_of (order.ByIndex h n) who w =
    unless (is_startup who) code.E9
    (with_ok (thing_named h w) (λ t. with_ok (word_in (objects_of w) t n) (λ found. new_handle found w)))
-- handle (27.16)
effect_of (order.Handle r h) who w = unless (is_startup who) code.E9 (one_related (is_running_call r && is_none h) r h w)
effect_of (order.Iterate r h) who w = not_yet (order.Iterate r h) who w
effect_of (order.Scan h) who w = not_yet (order.Scan h) who w
-- free (27.5)
effect_of (order.Free h) who w =
    unless (is_startup who) code.E9 (with_ok (thing_named h w) (λ t. Ok (answers (answer.Number 1) (without_handle h w))))
-- compare (27.2)
effect_of (order.Compare a b) who w =
    unless (is_startup who) code.E9
    (with_ok (thing_named a w) (λ t.
    with_ok (thing_named b w) (λ u.
    Ok (answers (answer.Number (flag_number (same_thing (same_handle a b) t u))) w))))
-- get (27.6) and get_str (27.10)
effect_of (order.Get property h) who w =
    unless (is_startup who) code.E9 (property_told (is_by_get_str property) property h w)
effect_of (order.GetStr property h) who w =
    unless (is_startup who) code.E9 (property_told (not (is_by_get_str property)) property h w)
effect_of (order.GetValue h format) who w = not_yet (order.GetValue h format) who w
effect_of (order.PutValue h format text mode time event) who w = not_yet (order.PutValue h format text mode time event) who w
effect_of (order.Cancel h) who w = not_yet (order.Cancel h) who w
-- get_time (27.12)
effect_of order.GetTime who w = Ok (answers (answer.Number w.activity.queue.time) w)
-- Register (27.33)
effect_of (order.Register r h time body n) who w =
    unless (is_startup who && needs_object r) code.E9
    (unless (needs_entry r) code.E9
    (with_ok (object_watched (needs_object r) r h w) (λ o.
    with_ok (body_named body w.scripts) (λ b.
    new_callback (registration_of r o h time n) b w))))
-- Remove
effect_of (order.Remove h) who w =
    unless (is_startup who) code.E9
    (with_some h code.E1 (λ n.
    with_ok (callback_in (thing_at n w.handles)) (λ c.
    Ok (answers (answer.Number 1) (without_callback c n w)))))
-- cb_info (27.7)
effect_of (order.CbInfo h) who w =
    unless (is_startup who) code.E9
    (with_ok (thing_named h w) (λ t. with_ok (info_in w.callbacks t) (λ a. told (Some a) w)))
effect_of (order.RegisterSystf kind text n calltf compiletf) who w = not_yet (order.RegisterSystf kind text n calltf compiletf) who w
-- chk_error (27.1)
effect_of order.ChkError who w = Ok (answers (answer.Number (error_number w.error)) w)
effect_of (order.Control stop) who w = not_yet (order.Control stop) who w
effect_of (order.Print text) who w = Ok (answers answer.Done w)
effect_of (order.SetData n) who w = not_yet (order.SetData n) who w
effect_of order.Pass who w = not_yet order.Pass who w
effect_of order.Return who w = not_yet order.Return who w

-- The error of an answer, if it is one.
abbrev pub error_in : Answer → Option Code
error_in answer.Done = None
error_in answer.Null = None
error_in (answer.Handle h) = None
error_in (answer.Number n) = None
error_in (answer.Text text) = None
error_in (answer.Refused c) = Some c

-- The error that is kept: that of the answer, but for an order that asks for it.
abbrev pub error_after : Order → Answer → Option Code → Option Code
error_after order.ChkError a kept = kept
error_after _ a kept = error_in a

-- The order is performed: it is answered, and its error is kept.
abbrev pub with_error : Order → Option Code → Answer × World → Answer × World
with_error o kept x = (x.0, record x.1 { error = error_after o x.0 kept })

abbrev pub performed : Order → Who → World → Given → Answer × World
performed o who w g = with_error o w.error (answered (effect_of o who w) w g)

-- The object that an order gives a handle of: that of a name, what a relation leads to, or a word of a memory.
pub data Means (o : Order) (w : World) (x : Object) : Type 0 where
  of_name : (text name : List ℕ) (scope : Option ℕ) → o ≡ order.ByName text scope → name_meant scope text w ≡ Ok name
      → object_named name w.names ≡ Some x → Means o w x
  of_relation : (r : Relation) (h : Option ℕ) (t : Thing) → o ≡ order.Handle r h → thing_named h w ≡ Ok t
      → related (objects_of w) r t ≡ Ok (Some x) → Means o w x
  of_address : (h : Option ℕ) (n : ℕ) (t : Thing) → o ≡ order.ByIndex h n → thing_named h w ≡ Ok t
      → word_in (objects_of w) t n ≡ Ok (Some x) → Means o w x

-- Does an activation return?
abbrev pub is_return : Order → Bool
is_return (order.ByName text scope) = false
is_return (order.ByIndex h n) = false
is_return (order.Handle r h) = false
is_return (order.Iterate r h) = false
is_return (order.Scan h) = false
is_return (order.Free h) = false
is_return (order.Compare a b) = false
is_return (order.Get property h) = false
is_return (order.GetStr property h) = false
is_return (order.GetValue h format) = false
is_return (order.PutValue h format text mode time event) = false
is_return (order.Cancel h) = false
is_return order.GetTime = false
is_return (order.Register r h time body n) = false
is_return (order.Remove h) = false
is_return (order.CbInfo h) = false
is_return (order.RegisterSystf kind text n calltf compiletf) = false
is_return order.ChkError = false
is_return (order.Control stop) = false
is_return (order.Print text) = false
is_return (order.SetData n) = false
is_return order.Pass = false
is_return order.Return = true

-- Is it a step of an activation that asks for nothing?
abbrev pub is_pass : Order → Bool
is_pass (order.ByName text scope) = false
is_pass (order.ByIndex h n) = false
is_pass (order.Handle r h) = false
is_pass (order.Iterate r h) = false
is_pass (order.Scan h) = false
is_pass (order.Free h) = false
is_pass (order.Compare a b) = false
is_pass (order.Get property h) = false
is_pass (order.GetStr property h) = false
is_pass (order.GetValue h format) = false
is_pass (order.PutValue h format text mode time event) = false
is_pass (order.Cancel h) = false
is_pass order.GetTime = false
is_pass (order.Register r h time body n) = false
is_pass (order.Remove h) = false
is_pass (order.CbInfo h) = false
is_pass (order.RegisterSystf kind text n calltf compiletf) = false
is_pass order.ChkError = false
is_pass (order.Control stop) = false
is_pass (order.Print text) = false
is_pass (order.SetData n) = false
is_pass order.Pass = true
is_pass order.Return = false

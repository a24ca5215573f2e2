-- What the effect of an order can be: six forms, whichever the order.
use Rattle.std.proofs.Common.{◌≡◌, ◌∙◌, ℕ, List, Bool, true, false, not, ◌&&◌, Option, Some, None, Result, Ok, Err, refl, sym, ap, subst}
use Rattle.std.specs.Option.{is_some, is_none}
use Rattle.std.specs.Prelude.{⊤, ok_or}
use Rattle.vh_base.specs.declared.orders.Answer.{Answer}
use Rattle.vh_base.specs.declared.orders.Answer.TheVariants as answer
use Rattle.vh_base.specs.declared.orders.BodyName.{BodyName}
use Rattle.vh_base.specs.declared.orders.Object.{Object}
use Rattle.vh_base.specs.declared.orders.Order.{Order}
use Rattle.vh_base.specs.declared.orders.Order.TheVariants as order
use Rattle.vh_base.specs.declared.words.Code.{Code}
use Rattle.vh_base.specs.declared.words.Code.TheVariants as code
use Rattle.vh_base.specs.declared.words.Property.{Property}
use Rattle.vh_base.specs.declared.words.Reason.{Reason}
use Rattle.vh_base.specs.declared.words.Relation.{Relation}
use Rattle.vh_base.proofs.ChecksLemmas.{unless-holds, with_some-holds, with_ok-holds}
use Rattle.vh_callbacks.specs.Callbacks.{is_full as no_callback_more, registered}
use Rattle.vh_orders.specs.declared.who.Body.{Body}
use Rattle.vh_orders.specs.declared.who.Who.{Who}
use Rattle.vh_handles.specs.declared.handles.Thing.{Thing}
use Rattle.vh_handles.specs.declared.handles.Thing.TheVariants as thing
use Rattle.vh_handles.specs.Handles.{thing_at, opened, freed, no_handle_more}
use Rattle.vh_objects.specs.Properties.{is_by_get_str}
use Rattle.vh_orders.specs.Names.{object_named}
use Rattle.vh_orders.specs.Orders.{Given, Effect, answers, opens, answered, performed, is_startup, callback_in, name_meant, new_handle, thing_named, objects_of, one_related, told, property_told, same_handle, flag_number, is_running_call, Means, of_name, of_relation, of_address, needs_object, needs_entry, object_watched, body_named, registration_of, without_callback, handles_read, all_named, not_yet, effect_of}
use Rattle.vh_orders.specs.Things.{related, word_in, property_in, info_in, same_thing, error_number}
use Rattle.vh_orders.specs.World.{World}

-- An order that frees no handle, whatever number it is answered.
abbrev pub FreesNone : Order → Type 0
FreesNone (order.Free h) = ⊥
FreesNone (order.Remove h) = ⊥
FreesNone _ = ⊤

-- An answer that is no handle.
pub data TellsOnly (o : Order) (a : Answer) : Type 0 where
  tells_done : a ≡ answer.Done → TellsOnly o a
  tells_null : a ≡ answer.Null → TellsOnly o a
  tells_number : (n : ℕ) → FreesNone o → a ≡ answer.Number n → TellsOnly o a
  tells_text : (text : List ℕ) → a ≡ answer.Text text → TellsOnly o a

pub data IsForm (o : Order) (s : World) (e : Effect) : Type 0 where
  -- it is refused;
  refuses : (c : Code) → e ≡ Err c → IsForm o s e
  -- it is answered, and changes nothing;
  answers_only : (a : Answer) → TellsOnly o a → e ≡ Ok (answers a s) → IsForm o s e
  -- it gives a handle to an object;
  opens_object : (x : Object) → Means o s x → no_handle_more s.handles ≡ false
      → e ≡ Ok (opens (λ h. record s { handles = opened h (thing.Object x) s.handles })) → IsForm o s e
  -- it registers a callback, with its handle;
  registers : (r : Reason) (h : Option ℕ) (time n : ℕ) (body : BodyName) (object : Option Object) (b : Body)
      → o ≡ order.Register r h time body n → object_watched (needs_object r) r h s ≡ Ok object
      → body_named body s.scripts ≡ Ok b → no_callback_more s.callbacks ≡ false → no_handle_more s.handles ≡ false
      → e ≡ Ok (opens (λ me. record s {
        callbacks = registered (registration_of r object h time n me) b s.callbacks;
        handles = opened me (thing.Callback s.callbacks.next) s.handles;
      })) → IsForm o s e
  -- it removes a callback, and frees the handle.
  removes : (c h : ℕ) → o ≡ order.Remove (Some h) → thing_at h s.handles ≡ Some (thing.Callback c)
      → e ≡ Ok (answers (answer.Number 1) (without_callback c h s)) → IsForm o s e
  -- it frees a handle.
  frees : (h : ℕ) → o ≡ order.Free (Some h) → is_some (thing_at h s.handles) ≡ true
      → e ≡ Ok (answers (answer.Number 1) (record s { handles = freed h s.handles })) → IsForm o s e

-- Only a callback is found as one.
callback_in-Ok : (t : Option Thing) (c : ℕ) → callback_in t ≡ Ok c → t ≡ Some (thing.Callback c)
callback_in-Ok None c is = absurd (cc)
callback_in-Ok (Some (thing.Object o)) c is = absurd (cc)
callback_in-Ok (Some (thing.Iterator r from at count)) c is = absurd (cc)
callback_in-Ok (Some (thing.Callback d)) c is = cc
callback_in-Ok (Some (thing.Event serial)) c is = absurd (cc)

not_yet-form : (o d : Order) (w : Who) (s : World) → IsForm o s (not_yet d w s)
not_yet-form o d w s =
    unless-holds (IsForm o s) (is_startup w) code.E9 _ (λ _. refuses code.E9 refl)
    (λ _. unless-holds (IsForm o s) (not (all_named s (handles_read d))) code.E1 _ (λ _. refuses code.E1 refl) (λ _. refuses code.E9 refl))

new_handle-form : (o : Order) (i : Option Object) (s : World) → ((x : Object) → i ≡ Some x → Means o s x) → IsForm o s (new_handle i s)
new_handle-form o None s means = answers_only answer.Null (tells_null refl) refl
new_handle-form o (Some x) s means =
    unless-holds (IsForm o s) (no_handle_more s.handles) code.E10 _ (λ _. refuses code.E10 refl)
    (λ room. opens_object x (means x refl) room refl)

by_name-form : (text : List ℕ) (scope : Option ℕ) (w : Who) (s : World)
    → IsForm (order.ByName text scope) s (effect_of (order.ByName text scope) w s)
by_name-form text scope w s =
    let P : Effect → Type 0 = IsForm (order.ByName text scope) s in
    unless-holds P (is_startup w) code.E9 _ (λ _. refuses code.E9 refl)
    (λ _. with_ok-holds P (name_meant scope text s) _ (λ c _. refuses c refl)
    (λ name means. new_handle-form (order.ByName text scope) (object_named name s.names) s
    (λ x is. of_name text name scope refl means is)))

by_index-form : (h : Option ℕ) (n : ℕ) (w : Who) (s : World) → IsForm (order.ByIndex h n) s (effect_of (order.ByIndex h n) w s)
by_index-form h n w s =
    let P : Effect → Type 0 = IsForm (order.ByIndex h n) s in
    unless-holds P (is_startup w) code.E9 _ (λ _. refuses code.E9 refl)
    (λ _. with_ok-holds P (thing_named h s) _ (λ c _. refuses c refl)
    (λ t names. with_ok-holds P (word_in (objects_of s) t n) _ (λ c _. refuses c refl)
    (λ found is. new_handle-form (order.ByIndex h n) found s
    (λ x same. of_address h n t refl names (is ∙ ap (λ (i : Option Object). (let r : Result (Option Object) Code = Ok i in r)) same)))))

related-form : (b : Bool) (r : Relation) (h : Option ℕ) (s : World) → IsForm (order.Handle r h) s (one_related b r h s)
related-form true r h s = answers_only answer.Null (tells_null refl) refl
related-form false r h s =
    let P : Effect → Type 0 = IsForm (order.Handle r h) s in
    with_ok-holds P (thing_named h s) _ (λ c _. refuses c refl)
    (λ t names. with_ok-holds P (related (objects_of s) r t) _ (λ c _. refuses c refl)
    (λ found is. new_handle-form (order.Handle r h) found s
    (λ x same. of_relation r h t refl names (is ∙ ap (λ (i : Option Object). (let r : Result (Option Object) Code = Ok i in r)) same))))

handle-form : (r : Relation) (h : Option ℕ) (w : Who) (s : World) → IsForm (order.Handle r h) s (effect_of (order.Handle r h) w s)
handle-form r h w s =
    unless-holds (IsForm (order.Handle r h) s) (is_startup w) code.E9 _ (λ _. refuses code.E9 refl)
    (λ _. related-form (is_running_call r && is_none h) r h s)

-- What is told changes nothing.
told-form : (o : Order) (a : Option Answer) (s : World) → FreesNone o → IsForm o s (told a s)
told-form o None s none = refuses code.E3 refl
told-form o (Some answer.Done) s none = refuses code.E3 refl
told-form o (Some answer.Null) s none = refuses code.E3 refl
told-form o (Some (answer.Handle h)) s none = refuses code.E3 refl
told-form o (Some (answer.Number n)) s none = answers_only (answer.Number n) (tells_number n none refl) refl
told-form o (Some (answer.Text text)) s none = answers_only (answer.Text text) (tells_text text refl) refl
told-form o (Some (answer.Refused c)) s none = refuses c refl

property-form : (o : Order) (other : Bool) (p : Property) (h : Option ℕ) (s : World) → FreesNone o → IsForm o s (property_told other p h s)
property-form o other p h s none =
    let P : Effect → Type 0 = IsForm o s in
    with_ok-holds P (thing_named h s) _ (λ c _. refuses c refl)
    (λ t names. unless-holds P other code.E3 _ (λ _. refuses code.E3 refl) (λ _. told-form o (property_in (objects_of s) p t) s none))

get-form : (p : Property) (h : Option ℕ) (w : Who) (s : World) → IsForm (order.Get p h) s (effect_of (order.Get p h) w s)
get-form p h w s =
    unless-holds (IsForm (order.Get p h) s) (is_startup w) code.E9 _ (λ _. refuses code.E9 refl)
    (λ _. property-form (order.Get p h) (is_by_get_str p) p h s tt)

get_str-form : (p : Property) (h : Option ℕ) (w : Who) (s : World) → IsForm (order.GetStr p h) s (effect_of (order.GetStr p h) w s)
get_str-form p h w s =
    unless-holds (IsForm (order.GetStr p h) s) (is_startup w) code.E9 _ (λ _. refuses code.E9 refl)
    (λ _. property-form (order.GetStr p h) (not (is_by_get_str p)) p h s tt)

cb_info-form : (h : Option ℕ) (w : Who) (s : World) → IsForm (order.CbInfo h) s (effect_of (order.CbInfo h) w s)
cb_info-form h w s =
    let P : Effect → Type 0 = IsForm (order.CbInfo h) s in
    unless-holds P (is_startup w) code.E9 _ (λ _. refuses code.E9 refl)
    (λ _. with_ok-holds P (thing_named h s) _ (λ c _. refuses c refl)
    (λ t names. with_ok-holds P (info_in s.callbacks t) _ (λ c _. refuses c refl) (λ a _. told-form (order.CbInfo h) (Some a) s tt)))

compare-form : (a b : Option ℕ) (w : Who) (s : World) → IsForm (order.Compare a b) s (effect_of (order.Compare a b) w s)
compare-form a b w s =
    let P : Effect → Type 0 = IsForm (order.Compare a b) s in
    unless-holds P (is_startup w) code.E9 _ (λ _. refuses code.E9 refl)
    (λ _. with_ok-holds P (thing_named a s) _ (λ c _. refuses c refl)
    (λ t _. with_ok-holds P (thing_named b s) _ (λ c _. refuses c refl)
    (λ u _. answers_only _ (tells_number (flag_number (same_thing (same_handle a b) t u)) tt refl) refl)))

-- Only a handle that is live names a thing.
thing-there : (o : Option Thing) (t : Thing) → ok_or o code.E1 ≡ Ok t → is_some o ≡ true
thing-there None t is = absurd (cc)
thing-there (Some u) t is = refl

free-form : (h : Option ℕ) (w : Who) (s : World) → IsForm (order.Free h) s (effect_of (order.Free h) w s)
free-form None w s =
    unless-holds (IsForm (order.Free None) s) (is_startup w) code.E9 _ (λ _. refuses code.E9 refl) (λ _. refuses code.E1 refl)
free-form (Some h) w s =
    let P : Effect → Type 0 = IsForm (order.Free (Some h)) s in
    unless-holds P (is_startup w) code.E9 _ (λ _. refuses code.E9 refl)
    (λ _. with_ok-holds P (thing_named (Some h) s) _ (λ c _. refuses c refl)
    (λ t names. frees h refl (thing-there (thing_at h s.handles) t names) refl))

register-form : (r : Reason) (h : Option ℕ) (time : ℕ) (body : BodyName) (n : ℕ) (w : Who) (s : World)
    → IsForm (order.Register r h time body n) s (effect_of (order.Register r h time body n) w s)
register-form r h time body n w s =
    let P : Effect → Type 0 = IsForm (order.Register r h time body n) s in
    unless-holds P (is_startup w && needs_object r) code.E9 _ (λ _. refuses code.E9 refl)
    (λ _. unless-holds P (needs_entry r) code.E9 _ (λ _. refuses code.E9 refl)
    (λ _. with_ok-holds P (object_watched (needs_object r) r h s) _ (λ c _. refuses c refl)
    (λ o watches. with_ok-holds P (body_named body s.scripts) _ (λ c _. refuses c refl)
    (λ b calls. unless-holds P (no_callback_more s.callbacks) code.E11 _ (λ _. refuses code.E11 refl)
    (λ room. unless-holds P (no_handle_more s.handles) code.E10 _ (λ _. refuses code.E10 refl)
    (λ free. registers r h time n body o b refl watches calls room free refl))))))

remove-form : (h : Option ℕ) (w : Who) (s : World) → IsForm (order.Remove h) s (effect_of (order.Remove h) w s)
remove-form h w s =
    let P : Effect → Type 0 = IsForm (order.Remove h) s in
    unless-holds P (is_startup w) code.E9 _ (λ _. refuses code.E9 refl)
    (λ _. with_some-holds P h code.E1 _ (λ _. refuses code.E1 refl)
    (λ k at. with_ok-holds P (callback_in (thing_at k s.handles)) _ (λ c _. refuses c refl)
    (λ c is. removes c k (ap (λ (x : Option ℕ). order.Remove x) at) (callback_in-Ok (thing_at k s.handles) c is) refl)))

pub effect-form : (o : Order) (w : Who) (s : World) → IsForm o s (effect_of o w s)
effect-form (order.ByName text scope) w s = by_name-form text scope w s
effect-form (order.ByIndex h n) w s = by_index-form h n w s
effect-form (order.Handle r h) w s = handle-form r h w s
effect-form (order.Iterate r h) w s = not_yet-form (order.Iterate r h) (order.Iterate r h) w s
effect-form (order.Scan h) w s = not_yet-form (order.Scan h) (order.Scan h) w s
effect-form (order.Free h) w s = free-form h w s
effect-form (order.Compare a b) w s = compare-form a b w s
effect-form (order.Get property h) w s = get-form property h w s
effect-form (order.GetStr property h) w s = get_str-form property h w s
effect-form (order.GetValue h format) w s = not_yet-form (order.GetValue h format) (order.GetValue h format) w s
effect-form (order.PutValue h format text mode time event) w s =
    not_yet-form (order.PutValue h format text mode time event) (order.PutValue h format text mode time event) w s
effect-form (order.Cancel h) w s = not_yet-form (order.Cancel h) (order.Cancel h) w s
effect-form order.GetTime w s = answers_only _ (tells_number s.activity.queue.time tt refl) refl
effect-form (order.Register r h time body n) w s = register-form r h time body n w s
effect-form (order.Remove h) w s = remove-form h w s
effect-form (order.CbInfo h) w s = cb_info-form h w s
effect-form (order.RegisterSystf kind text n calltf compiletf) w s =
    not_yet-form (order.RegisterSystf kind text n calltf compiletf) (order.RegisterSystf kind text n calltf compiletf) w s
effect-form order.ChkError w s = answers_only _ (tells_number (error_number s.error) tt refl) refl
effect-form (order.Control stop) w s = not_yet-form (order.Control stop) (order.Control stop) w s
effect-form (order.Print text) w s = answers_only answer.Done (tells_done refl) refl
effect-form (order.SetData n) w s = not_yet-form (order.SetData n) (order.SetData n) w s
effect-form order.Pass w s = not_yet-form order.Pass order.Pass w s
effect-form order.Return w s = not_yet-form order.Return order.Return w s

-- An order leaves the design as it is simulated, and the phase.
pub record LeavesRun (s t : World) : Type 0 where
  pub activity : t.activity ≡ s.activity
  pub phase : t.phase ≡ s.phase

abbrev AnswersSo : World → Given → Effect → Type 0
AnswersSo s g e = LeavesRun s (answered e s g).1

form-kept : (o : Order) (s : World) (g : Given) (e : Effect) → IsForm o s e → AnswersSo s g e
form-kept o s g e (refuses c is) = subst (AnswersSo s g) (sym is) (record { activity = refl; phase = refl })
form-kept o s g e (answers_only a plain is) = subst (AnswersSo s g) (sym is) (record { activity = refl; phase = refl })
form-kept o s g e (opens_object x means room is) = subst (AnswersSo s g) (sym is) (record { activity = refl; phase = refl })
form-kept o s g e (registers r h time n body object b by watches calls room free is) =
    subst (AnswersSo s g) (sym is) (record { activity = refl; phase = refl })
form-kept o s g e (removes c h by at is) = subst (AnswersSo s g) (sym is) (record { activity = refl; phase = refl })
form-kept o s g e (frees h by live is) = subst (AnswersSo s g) (sym is) (record { activity = refl; phase = refl })

pub performed-kept : (o : Order) (w : Who) (s : World) (g : Given) → LeavesRun s (performed o w s g).1
performed-kept o w s g =
    let kept = form-kept o s g (effect_of o w s) (effect-form o w s) in record { activity = kept.activity; phase = kept.phase }

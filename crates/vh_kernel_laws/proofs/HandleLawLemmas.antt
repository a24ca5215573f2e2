-- The handle law.
use Rattle.std.proofs.Common.{◌≡◌, ℕ, List, [], ◌∷◌, ◌++◌, Bool, true, false, not, ◌&&◌, ◌||◌, nat_eq, Option, Some, None, is_some, Result, Ok, Err, slice_get, refl, sym, ap, subst, ◌∙◌, ◌⊎◌, inl, inr, append_assoc}
use Rattle.std.proofs.lemmas.Bool.{eqb-true, eq-eqb, and_parts}
use Rattle.std.specs.List.{list_any, position}
use Rattle.std.specs.Option.{ok_or, is_none, option_and_then}
use Rattle.std.specs.Prelude.{if◌then◌else◌, bytes_eq, codes, length, nat_le}
use Rattle.vh_base.specs.declared.orders.Answer.{Answer}
use Rattle.vh_base.specs.declared.orders.Answer.TheVariants as answer
use Rattle.vh_base.specs.declared.orders.BodyName.{BodyName}
use Rattle.vh_base.specs.declared.orders.BodyName.TheVariants as body_name
use Rattle.vh_base.specs.declared.orders.Object.{Object}
use Rattle.vh_base.specs.declared.orders.Order.{Order}
use Rattle.vh_base.specs.declared.orders.Order.TheVariants as order
use Rattle.vh_base.specs.declared.words.Code.{Code}
use Rattle.vh_base.specs.declared.words.Code.TheVariants as code
use Rattle.vh_base.specs.declared.words.Property.{Property}
use Rattle.vh_base.specs.declared.words.Property.TheVariants as property_word
use Rattle.vh_base.specs.declared.words.Reason.{Reason}
use Rattle.vh_base.specs.declared.words.Reason.TheVariants as reason
use Rattle.vh_base.specs.declared.words.Relation.{Relation}
use Rattle.vh_base.specs.Checks.{unless, with_ok}
use Rattle.vh_base.proofs.ChecksLemmas.{unless-holds, with_some-holds, with_ok-holds}
use Rattle.vh_app.specs.Script.{ScriptData}
use Rattle.vh_callbacks.specs.declared.registration.Registration.{Registration}
use Rattle.vh_callbacks.specs.Callbacks.{Callbacks, info_of, body_of, is_full as no_callback_more}
use Rattle.vh_callbacks.proofs.LawsLemmas.{tells_registered}
use Rattle.vh_kernel.specs.Activations.{Activation}
use Rattle.vh_orders.specs.declared.who.Body.{Body}
use Rattle.vh_orders.specs.declared.who.Who.{Who}
use Rattle.vh_handles.specs.declared.handles.Thing.{Thing}
use Rattle.vh_handles.specs.declared.handles.Thing.TheVariants as thing
use Rattle.vh_kernel.specs.declared.label.Label.{Label}
use Rattle.vh_kernel.specs.declared.label.Label.TheVariants as label
use Rattle.vh_handles.specs.Handles.{Handles, thing_at, opened, freed, no_handle_more}
use Rattle.vh_design_names.specs.Names.{full_name}
use Rattle.vh_design_nodes.specs.declared.object.ObjectInfo.{ObjectInfo}
use Rattle.vh_design_nodes.specs.Kinds.{is_scope, is_memory}
use Rattle.vh_objects.specs.declared.found.Found.{Found}
use Rattle.vh_objects.specs.declared.found.Found.TheVariants as leads
use Rattle.vh_objects.specs.declared.kind.ObjectKind.{ObjectKind}
use Rattle.vh_objects.specs.declared.kind.ObjectKind.TheVariants as of_kind
use Rattle.vh_objects.specs.Kinds.{kind_text, is_port, object_has_value}
use Rattle.vh_objects.specs.Objects.{info_at, object_kind, kind_of}
use Rattle.vh_objects.specs.Properties.{is_by_get_str, text_answer, number_if, text_if, told_text, told_number, flag_number as flag_of, with_address, size_of, is_module_kind, is_port_kind, is_net_kind, has_name_kind, direction_in, net_type_in, definition_in, property_of}
use Rattle.vh_objects.specs.Relations.{one as one_of, index_in}
use Rattle.vh_orders.specs.Names.{object_named, is_kind, may_watch}
use Rattle.vh_orders.specs.Orders.{Given, Effect, answers as answers_with, answered, effect_of, is_startup, object_in, callback_in, name_meant, new_handle, new_callback, without_callback, needs_object, needs_entry, object_watched, body_named, start_in, registration_of, handle_or_null, handle_if, handles_read, is_named, all_named, not_yet, thing_named, objects_of, one_related, told, property_told, without_handle, same_handle, flag_number, is_running_call}
use Rattle.vh_kernel.specs.Outcome.{Move}
use Rattle.vh_kernel.specs.State.{State, without_top, with_variables}
use Rattle.vh_orders.specs.Things.{led_to, related, is_memory_kind, word_in, is_type, property_in, info_text, info_in, same_thing}
use Rattle.vh_orders.specs.World.{World}
use Rattle.vh_kernel.specs.Table.{Acts, Step}
use Rattle.vh_orders.proofs.OrdersLemmas.{tells_done, tells_null, tells_number, tells_text, IsForm, refuses, answers_only, opens_object, registers, removes, frees as frees_only, effect-form}
use Rattle.vh_kernel.proofs.StepLemmas.{IsActing, returns, passes, orders, acts}
use Rattle.vh_kernel.proofs.TableLemmas.{steps-by-table}
use Rattle.vh_kernel_laws.specs.HandleLaw.{is_handle, gives, is_giving, reads, GivesOnce, GivesRight, GivesLive, NamesOne, FindsLive, FreedByOrder, FreedThere, StaysFreed, RemovesCallbacks, FreesLive, answers_found, FindsNames, FindsRelated, FindsWords, RegistersAsked}
use Rattle.vh_kernel_laws.specs.Laws.{KeepsHandleLaw}
use Rattle.vh_kernel_laws.specs.Deeds.{freed_by, frees}
use Rattle.vh_kernel_laws.proofs.DeedsLemmas.{no-number-frees}
use Rattle.vh_kernel_laws.specs.Paths.{tells, fires, closes, answers, other, deed_of, any, IsMade, IsPath, end_of}
use Rattle.vh_kernel_laws.proofs.FiringLemmas.{Keeps, keeps-on, RemovedFrom, removed-from}
use Rattle.vh_handles.specs.Laws.{NumbersRise}
use Rattle.vh_handles.proofs.EntriesLemmas.{other_more, same_more, other_less}
use Rattle.vh_kernel_laws.proofs.HandlesLemmas.{Hands, works-hand, stays-given, gives-new, stays-climbing, names-still, freed-none}
use Rattle.vh_kernel_laws.proofs.Splits.{either, not_both, or_false, path_split, path_at}
use Rattle.vh_kernel_laws.proofs.Works.{View, view_of, Changes, changes_none, opens_one, registers_one, removes_one, frees_one, Works, works_none, empties, orders_one, tells_one, fires_one, closes_one}
use Rattle.vh_kernel_laws.proofs.WorksLemmas.{same-meant, same-watched, made-works}

hands : (s : State) (m : Move) → IsMade s m → Hands s.world.handles m.0 m.1.world.handles
hands s m made = works-hand s m.0 (view_of m.1) (made-works s m made)

-- A number that was given is given no more.
given-on : (h : ℕ) (s : State) (moves : List Move) → IsPath s moves → s.world.handles.is_given h ≡ true → any (is_giving h) moves ≡ false
given-on h s [] path given = refl
given-on h s (m ∷ moves) path given =
    let step : Hands s.world.handles m.0 m.1.world.handles = hands s m path.0 in
    or_false (is_giving h m.0) (any (is_giving h) moves)
    (elim (either (is_giving h m.0)) [
      | inl giving ↦ absurd (not_both (s.world.handles.is_given h) given (gives-new h s.world.handles m.1.world.handles m.0 step giving).0)
      | inr none ↦ none
    ])
    (given-on h m.1 moves path.1 (stays-given h s.world.handles m.1.world.handles m.0 step given))

stays-on : (h : ℕ) (s : State) (moves : List Move) → IsPath s moves → s.world.handles.is_given h ≡ true
    → (end_of s moves).world.handles.is_given h ≡ true
stays-on h s [] path given = given
stays-on h s (m ∷ moves) path given =
    stays-on h m.1 moves path.1 (stays-given h s.world.handles m.1.world.handles m.0 (hands s m path.0) given)

-- A number that isn't given wasn't given before.
ungiven-on : (h : ℕ) (s : State) (moves : List Move) → IsPath s moves → (end_of s moves).world.handles.is_given h ≡ false
    → any (is_giving h) moves ≡ false
ungiven-on h s [] path fresh = refl
ungiven-on h s (m ∷ moves) path fresh =
    let step : Hands s.world.handles m.0 m.1.world.handles = hands s m path.0 in
    or_false (is_giving h m.0) (any (is_giving h) moves)
    (elim (either (is_giving h m.0)) [
      | inl giving ↦ absurd (not_both ((end_of m.1 moves).world.handles.is_given h)
          (stays-on h m.1 moves path.1 (gives-new h s.world.handles m.1.world.handles m.0 step giving).1) fresh)
      | inr none ↦ none
    ])
    (ungiven-on h m.1 moves path.1 fresh)

gives-once : (s : State) (moves : List Move) → IsPath s moves → GivesOnce moves
gives-once s moves path before behind who o h t is =
    let m : Move = (label.Do who o (answer.Handle h), t) in
    let parts = path_at s moves before (m ∷ behind) path is in
    let u : State = end_of s before in
    let new = gives-new h u.world.handles t.world.handles m.0 (hands u m parts.1.0) (eq-eqb h h refl) in
    (ungiven-on h s before parts.0 new.0, given-on h t behind parts.1.1 new.1)

-- A handle is given for what the order was about.
record AnsweredBy (s : State) (o : Order) (a : Answer) (w : View) : Type 0 where
  changes : Changes s o a w

answered-by : (s : State) (who : Who) (o : Order) (a : Answer) (w : View) → Works s (label.Do who o a) w → AnsweredBy s o a w
answered-by s who o a w (works_none quiet is) = absurd (let d : answers a ≡ other = quiet in cc)
answered-by s who o a w (empties quiet is at_finish) = absurd (let d : answers a ≡ other = quiet in cc)
answered-by s who o a w (orders_one by p b is changes) =
    let same_order : p ≡ o = cc in
    let same_answer : b ≡ a = cc in record {
      changes = subst (λ (x : Answer). Changes s o x w) same_answer (subst (λ (x : Order). Changes s x b w) same_order changes);
    }
answered-by s who o a w (tells_one n what is number after) = absurd (let d : answers a ≡ tells n = ap deed_of is in cc)
answered-by s who o a w (fires_one n c f rest is on number among after) = absurd (let d : answers a ≡ fires n c = ap deed_of is in cc)
answered-by s who o a w (closes_one n f rest is on number none after) = absurd (let d : answers a ≡ closes n = ap deed_of is in cc)

gives-right : (history : List Move) (s : State) (o : Order) (h : ℕ) (t : State) → Keeps history (view_of s)
    → Changes s o (answer.Handle h) (view_of t) → GivesRight s o h t
gives-right history s o h t keeps (changes_none plain after) = absurd plain.0
gives-right history s o h t keeps (opens_one k x gives fresh finds after) =
    let same : k ≡ h = cc in record {
      thing = x;
      names = ap (λ (y : View). thing_at h y.handles) after ∙ ap (λ (n : ℕ). thing_at h (opened n x s.world.handles)) same
          ∙ same_more h x s.world.handles.live;
      about = inl finds;
    }
gives-right history s o h t keeps (registers_one k r b gives fresh room asks after) =
    let same : k ≡ h = cc in
    let new : Thing = thing.Callback s.world.callbacks.next in
    let told = tells_registered s.world.callbacks r b keeps.sound in record {
      thing = new;
      names = ap (λ (y : View). thing_at h y.handles) after ∙ ap (λ (n : ℕ). thing_at h (opened n new s.world.handles)) same
          ∙ same_more h new s.world.handles.live;
      about = inr (record {
        reason = asks.reason;
        watched = asks.watched;
        time = asks.time;
        user_data = asks.number;
        calls = asks.calls;
        object = asks.object;
        body = b;
        asks = asks.asks;
        watches = asks.watches;
        found = asks.found;
        names = refl;
        info = ap (λ (y : View). info_of s.world.callbacks.next y.callbacks) after ∙ told.0 ∙ ap (λ (x : _). Some x) asks.is
            ∙ ap (λ (n : ℕ). Some (registration_of asks.reason asks.object asks.watched asks.time asks.number n)) same;
        is_called = ap (λ (y : View). body_of s.world.callbacks.next y.callbacks) after ∙ told.1;
      });
    }
gives-right history s o h t keeps (removes_one c k by one names after) = absurd (cc)
gives-right history s o h t keeps (frees_one k by one live after) = absurd (cc)

gives-live : (s : State) (moves : List Move) → IsPath s moves → Keeps [] (view_of s) → GivesLive s moves
gives-live s moves path keeps before behind who o h t is =
    let m : Move = (label.Do who o (answer.Handle h), t) in
    let parts = path_at s moves before (m ∷ behind) path is in
    let u : State = end_of s before in
    let there : Keeps before (view_of u) = keeps-on [] s before parts.0 keeps in
    gives-right before u o h t there (answered-by u who o (answer.Handle h) (view_of t) (made-works u m parts.1.0)).changes

-- A live handle names the same thing.
still-by : (h : ℕ) (s t : State) (moves : List Move) → IsPath s moves → NumbersRise 0 s.world.handles.live → s.world.handles.is_given h ≡ true
    → is_some (thing_at h (end_of s moves).world.handles) ≡ true → thing_at h (end_of s moves).world.handles ≡ thing_at h s.world.handles
still-by h s t [] path climb given alive = refl
still-by h s t (m ∷ moves) path climb given alive =
    let step : Hands s.world.handles m.0 m.1.world.handles = hands s m path.0 in
    let more : m.1.world.handles.is_given h ≡ true = stays-given h s.world.handles m.1.world.handles m.0 step given in
    let rise : NumbersRise 0 m.1.world.handles.live = stays-climbing s.world.handles m.1.world.handles m.0 step climb in
    let rest = still-by h m.1 t moves path.1 rise more alive in
    elim (names-still h s.world.handles m.1.world.handles m.0 step climb given) [
      | inl gone ↦ absurd (not_both (is_some (thing_at h (end_of m.1 moves).world.handles)) alive
          (ap (λ (o : Option Thing). is_some o) (rest ∙ gone)))
      | inr same ↦ rest ∙ same
    ]

names-one : (s : State) (moves : List Move) → IsPath s moves → Keeps [] (view_of s) → NamesOne moves
names-one s moves path keeps before mid behind who o h t is alive =
    let m : Move = (label.Do who o (answer.Handle h), t) in
    let parts = path_at s moves before ((m ∷ mid) ++ behind) path (is ∙ append_assoc before (m ∷ mid) behind) in
    let u : State = end_of s before in
    let there : Keeps before (view_of u) = keeps-on [] s before parts.0 keeps in
    let step : Hands u.world.handles m.0 t.world.handles = hands u m parts.1.0 in
    let halves = path_split t mid behind parts.1.1 in
    still-by h t t mid halves.0 (stays-climbing u.world.handles t.world.handles m.0 step there.climbs)
    (gives-new h u.world.handles t.world.handles m.0 step (eq-eqb h h refl)).1 alive

-- A handle is freed by an order that frees it.
lost-thing : (h : ℕ) (a b : Handles) → is_some (thing_at h a) ≡ true → thing_at h b ≡ None → b ≡ a → ⊥
lost-thing h a b alive gone same =
    not_both (is_some (thing_at h a)) alive (ap (λ (x : Handles). is_some (thing_at h x)) (sym same) ∙ ap (λ (o : Option Thing). is_some o) gone)

opened-stays : (b : Bool) (h k : ℕ) (x : Thing) (a : Handles) → nat_eq h k ≡ b → is_some (thing_at h a) ≡ true
    → thing_at h (opened k x a) ≡ None → ⊥
opened-stays true h k x a is alive gone =
    let same : h ≡ k = eqb-true h k is in
    let there : thing_at h (opened k x a) ≡ Some x = subst (λ (y : ℕ). thing_at h (opened y x a) ≡ Some x) same (same_more h x a.live) in
    absurd (cc)
opened-stays false h k x a is alive gone =
    not_both (is_some (thing_at h a)) alive (ap (λ (o : Option Thing). is_some o) (sym (other_more h k x a.live is) ∙ gone))

freed-same : (b : Bool) (h k : ℕ) (a : Handles) → nat_eq h k ≡ b → is_some (thing_at h a) ≡ true → thing_at h (freed k a) ≡ None → h ≡ k
freed-same true h k a is alive gone = eqb-true h k is
freed-same false h k a is alive gone =
    absurd (not_both (is_some (thing_at h a)) alive (ap (λ (o : Option Thing). is_some o) (sym (other_less h k a.live is) ∙ gone)))

works-free : (s : State) (l : Label) (w : View) (h : ℕ) → Works s l w → is_some (thing_at h s.world.handles) ≡ true → thing_at h w.handles ≡ None
    → frees l ≡ Some h
works-free s l w h (works_none quiet is) alive gone =
    absurd (lost-thing h s.world.handles w.handles alive gone (ap (λ (x : View). x.handles) is))
works-free s l w h (empties quiet is at_finish) alive gone =
    absurd (lost-thing h s.world.handles w.handles alive gone (ap (λ (x : View). x.handles) is))
works-free s l w h (orders_one who o a is (changes_none plain after)) alive gone =
    absurd (lost-thing h s.world.handles w.handles alive gone (ap (λ (x : View). x.handles) after))
works-free s l w h (orders_one who o a is (opens_one k x gives fresh finds after)) alive gone =
    absurd (opened-stays (nat_eq h k) h k x s.world.handles refl alive (ap (λ (y : View). thing_at h y.handles) (sym after) ∙ gone))
works-free s l w h (orders_one who o a is (registers_one k r b gives fresh room asks after)) alive gone =
    absurd (opened-stays (nat_eq h k) h k (thing.Callback s.world.callbacks.next) s.world.handles refl alive
    (ap (λ (y : View). thing_at h y.handles) (sym after) ∙ gone))
works-free s l w h (orders_one who o a is (removes_one c k by one names after)) alive gone =
    ap frees (is ∙ ap (λ (x : Order). label.Do who x a) by ∙ ap (λ (x : Answer). label.Do who (order.Remove (Some k)) x) one)
    ∙ ap (λ (x : ℕ). Some x)
    (sym (freed-same (nat_eq h k) h k s.world.handles refl alive (ap (λ (y : View). thing_at h y.handles) (sym after) ∙ gone)))
works-free s l w h (orders_one who o a is (frees_one k by one live after)) alive gone =
    ap frees (is ∙ ap (λ (x : Order). label.Do who x a) by ∙ ap (λ (x : Answer). label.Do who (order.Free (Some k)) x) one)
    ∙ ap (λ (x : ℕ). Some x)
    (sym (freed-same (nat_eq h k) h k s.world.handles refl alive (ap (λ (y : View). thing_at h y.handles) (sym after) ∙ gone)))
works-free s l w h (tells_one n what is number after) alive gone =
    absurd (lost-thing h s.world.handles w.handles alive gone (ap (λ (x : View). x.handles) after))
works-free s l w h (fires_one n c f rest is on number among after) alive gone =
    absurd (lost-thing h s.world.handles w.handles alive gone (ap (λ (x : View). x.handles) after))
works-free s l w h (closes_one n f rest is on number none after) alive gone =
    absurd (lost-thing h s.world.handles w.handles alive gone (ap (λ (x : View). x.handles) after))

freed-by-order : (s : State) (moves : List Move) → IsPath s moves → FreedByOrder s moves
freed-by-order s moves path before behind m h is alive gone =
    let parts = path_at s moves before (m ∷ behind) path is in
    let u : State = end_of s before in
    works-free u m.0 (view_of m.1) h (made-works u m parts.1.0) alive gone

changes-free : (s : State) (who : Who) (o : Order) (a : Answer) (w : View) (h : ℕ) → Changes s o a w → freed_by o a ≡ Some h
    → w.handles ≡ freed h s.world.handles
changes-free s who o a w h (changes_none plain after) is = absurd (let none : Some h ≡ None = sym is ∙ plain.1 in cc)
changes-free s who o a w h (opens_one k x gives fresh finds after) is =
    absurd (let none : Some h ≡ None = sym is ∙ ap (λ (y : Answer). freed_by o y) gives ∙ no-number-frees o (answer.Handle k) tt in cc)
changes-free s who o a w h (registers_one k r b gives fresh room asks after) is =
    absurd (let none : Some h ≡ None = sym is ∙ ap (λ (y : Answer). freed_by o y) gives ∙ no-number-frees o (answer.Handle k) tt in cc)
changes-free s who o a w h (removes_one c k by one names after) is =
    let both : Some k ≡ Some h =
    ap (λ (y : Answer). freed_by (order.Remove (Some k)) y) (sym one) ∙ ap (λ (x : Order). freed_by x a) (sym by) ∙ is in
    let same : k ≡ h = cc in
    ap (λ (x : View). x.handles) after ∙ ap (λ (x : ℕ). freed x s.world.handles) same
changes-free s who o a w h (frees_one k by one live after) is =
    let both : Some k ≡ Some h =
    ap (λ (y : Answer). freed_by (order.Free (Some k)) y) (sym one) ∙ ap (λ (x : Order). freed_by x a) (sym by) ∙ is in
    let same : k ≡ h = cc in
    ap (λ (x : View). x.handles) after ∙ ap (λ (x : ℕ). freed x s.world.handles) same

-- What frees a handle is an order that was answered.
quiet-frees : (l : Label) (h : ℕ) → deed_of l ≡ other → frees l ≡ Some h → ⊥
quiet-frees (label.Startup k) h quiet is = absurd (cc)
quiet-frees (label.Do who o a) h quiet is = absurd (cc)
quiet-frees (label.Pass who) h quiet is = absurd (cc)
quiet-frees (label.Ret who) h quiet is = absurd (cc)
quiet-frees (label.Occ n reason object) h quiet is = absurd (cc)
quiet-frees (label.Fire n c) h quiet is = absurd (cc)
quiet-frees (label.Done n) h quiet is = absurd (cc)
quiet-frees (label.Activate region) h quiet is = absurd (cc)
quiet-frees (label.Advance time) h quiet is = absurd (cc)
quiet-frees (label.Pick serial shown) h quiet is = absurd (cc)
quiet-frees (label.Stmt process shown) h quiet is = absurd (cc)
quiet-frees (label.Finish cause) h quiet is = absurd (cc)
quiet-frees (label.End ending) h quiet is = absurd (cc)

freed-from : (s : State) (l : Label) (w : View) (h : ℕ) → Works s l w → frees l ≡ Some h → w.handles ≡ freed h s.world.handles
freed-from s l w h (works_none quiet after) is = absurd (quiet-frees l h quiet is)
freed-from s l w h (empties quiet after at_finish) is = absurd (quiet-frees l h quiet is)
freed-from s l w h (orders_one who o a at changes) is = changes-free s who o a w h changes (ap frees (sym at) ∙ is)
freed-from s l w h (tells_one n what at number after) is = absurd (let none : None ≡ Some h = ap frees (sym at) ∙ is in cc)
freed-from s l w h (fires_one n c f rest at on number among after) is = absurd (let none : None ≡ Some h = ap frees (sym at) ∙ is in cc)
freed-from s l w h (closes_one n f rest at on number left after) is = absurd (let none : None ≡ Some h = ap frees (sym at) ∙ is in cc)

freed-there : (s : State) (moves : List Move) → IsPath s moves → Keeps [] (view_of s) → FreedThere moves
freed-there s moves path keeps before behind m h is frees_it =
    let parts = path_at s moves before (m ∷ behind) path is in
    let u : State = end_of s before in
    let there : Keeps before (view_of u) = keeps-on [] s before parts.0 keeps in
    ap (λ (x : Handles). thing_at h x) (freed-from u m.0 (view_of m.1) h (made-works u m parts.1.0) frees_it)
    ∙ freed-none h u.world.handles there.climbs

-- The world in which an order of the activation on top is performed.
abbrev performing : List (List Answer) → State → World
performing vars s = (with_variables vars (without_top s)).world

-- What an order is answered, by the handles that it reads.
record OrderedFrom (s : State) (who : Who) (o : Order) (a : Answer) : Type 0 where
  given : Given
  vars : List (List Answer)
  is : a ≡ (answered (effect_of o who (performing vars s)) (performing vars s) given).0

acting-answers : (s u : State) (act : Activation) (g : Given) (who : Who) (o : Order) (a : Answer)
    → IsActing act (without_top s) g (label.Do who o a, u) → OrderedFrom s who o a
acting-answers s u act g who o a (returns vars is) = absurd (let d = ap (λ (m : Move). deed_of m.0) is in cc)
acting-answers s u act g who o a (passes vars further is) = absurd (let d = ap (λ (m : Move). deed_of m.0) is in cc)
acting-answers s u act g who o a (orders vars p further is) =
    let told = ap (λ (m : Move). m.0) is in
    let same_who : act.who ≡ who = cc in
    let same_order : p ≡ o = cc in
    let r : World = performing vars s in
    let same_answer : a ≡ (answered (effect_of p act.who r) r g).0 = cc in record {
      given = g;
      vars = vars;
      is = same_answer ∙ ap (λ (x : Who). (answered (effect_of p x r) r g).0) same_who
          ∙ ap (λ (x : Order). (answered (effect_of x who r) r g).0) same_order;
    }

ordered-from : (s t : State) (who : Who) (o : Order) (a : Answer) → IsMade s (label.Do who o a, t) → OrderedFrom s who o a
ordered-from s t who o a made =
    let table : Step s (label.Do who o a) t = steps-by-table s t made.choice (label.Do who o a) made.below made.step in
    let row : Acts s (label.Do who o a) table.before = table.row in
    acting-answers s table.before row.who row.given who o a
    (subst (λ (m : Move). IsActing row.who (without_top s) row.given m) row.makes
    (acts (slice_get s.world.scripts row.who.script) (slice_get s.world.variables row.who.script) row.who (without_top s) row.given))

-- An effect that isn't refused with E1.
abbrev NotE1 : Effect → Type 0
NotE1 e = e ≡ Err code.E1 → ⊥

object-found : (t : Option Thing) (c : Code) → is_some t ≡ true → object_in t ≡ Err c → c ≡ code.E1 → ⊥
object-found None c there is one = absurd (cc)
object-found (Some (thing.Object o)) c there is one = absurd (cc)
object-found (Some (thing.Iterator r from at count)) c there is one = absurd (cc)
object-found (Some (thing.Callback d)) c there is one = absurd (cc)
object-found (Some (thing.Event serial)) c there is one = absurd (cc)

callback-found : (t : Option Thing) (c : Code) → is_some t ≡ true → callback_in t ≡ Err c → c ≡ code.E1 → ⊥
callback-found None c there is one = absurd (cc)
callback-found (Some (thing.Object o)) c there is one = absurd (cc)
callback-found (Some (thing.Iterator r from at count)) c there is one = absurd (cc)
callback-found (Some (thing.Callback d)) c there is one = absurd (cc)
callback-found (Some (thing.Event serial)) c there is one = absurd (cc)

meant-found : (scope : Option ℕ) (text : List ℕ) (s : World) (c : Code) → all_named s (handle_or_null true scope) ≡ true
    → name_meant scope text s ≡ Err c → c ≡ code.E1 → ⊥
meant-found None text s c named is one = absurd (cc)
meant-found (Some h) text s c named is one =
    with_ok-holds (λ (r : Result (List ℕ) Code). r ≡ Err c → ⊥) (object_in (thing_at h s.handles)) _
    (λ e found same. object-found (thing_at h s.handles) e named found (let e_is : e ≡ c = cc in e_is ∙ one))
    (λ o found. unless-holds (λ (r : Result (List ℕ) Code). r ≡ Err c → ⊥) (not (is_kind is_scope o.id s.names)) code.E2 _
    (λ _ same. absurd (let two : code.E2 ≡ code.E1 = (let e_is : code.E2 ≡ c = cc in e_is ∙ one) in cc))
    (λ _ same. absurd (cc))) is

watched-found : (needs : Bool) (r : Reason) (h : Option ℕ) (s : World) (c : Code) → all_named s (handle_if needs h) ≡ true
    → object_watched needs r h s ≡ Err c → c ≡ code.E1 → ⊥
watched-found false r h s c named is one = absurd (cc)
watched-found true r None s c named is one = absurd (cc)
watched-found true r (Some h) s c named is one =
    with_ok-holds (λ (r : Result (Option Object) Code). r ≡ Err c → ⊥) (object_in (thing_at h s.handles)) _
    (λ e found same. object-found (thing_at h s.handles) e named found (let e_is : e ≡ c = cc in e_is ∙ one))
    (λ o found. unless-holds (λ (x : Result (Option Object) Code). x ≡ Err c → ⊥) (not (is_kind (may_watch r) o.id s.names)) code.E2 _
    (λ _ same. absurd (let two : code.E2 ≡ code.E1 = (let e_is : code.E2 ≡ c = cc in e_is ∙ one) in cc))
    (λ _ same. absurd (cc))) is

E1-apart : (e : Code) → (e ≡ code.E1 → ⊥) → NotE1 (Err e)
E1-apart e apart is = apart (let same : e ≡ code.E1 = cc in same)

-- What no order with live handles is refused with.
or-found : (o : Option Body) (c : Code) → ok_or o code.E13 ≡ Err c → c ≡ code.E1 → ⊥
or-found None c is one = absurd (let e_is : code.E13 ≡ c = cc in let two : code.E13 ≡ code.E1 = e_is ∙ one in cc)
or-found (Some b) c is one = absurd (cc)

E13-found : (c : Code) → (let r : Result Body Code = Err code.E13 in r) ≡ Err c → c ≡ code.E1 → ⊥
E13-found c is one = absurd (let e_is : code.E13 ≡ c = cc in let two : code.E13 ≡ code.E1 = e_is ∙ one in cc)

E12-found : (c : Code) → (let r : Result Body Code = Err code.E12 in r) ≡ Err c → c ≡ code.E1 → ⊥
E12-found c is one = absurd (let e_is : code.E12 ≡ c = cc in let two : code.E12 ≡ code.E1 = e_is ∙ one in cc)

body-found : (body : BodyName) (scripts : List ScriptData) (c : Code) → body_named body scripts ≡ Err c → c ≡ code.E1 → ⊥
body-found (body_name.Native name) scripts c is one = E12-found c is one
body-found (body_name.Proc p) scripts c is one =
    with_some-holds (λ (r : Result Body Code). r ≡ Err c → ⊥) (position (λ s. bytes_eq s.name p.app) scripts) code.E13 _
    (λ _ same. E13-found c same one)
    (λ i _. with_some-holds (λ (r : Result Body Code). r ≡ Err c → ⊥) (slice_get scripts i) code.E13 _
    (λ _ same. E13-found c same one)
    (λ script _ same. or-found (start_in i p.name script) c same one)) is

no-E9 : NotE1 (Err code.E9)
no-E9 is = absurd (cc)

no-E10 : NotE1 (Err code.E10)
no-E10 is = absurd (cc)

no-E11 : NotE1 (Err code.E11)
no-E11 is = absurd (cc)

not_yet-found : (o : Order) (w : Who) (s : World) → all_named s (handles_read o) ≡ true → NotE1 (not_yet o w s)
not_yet-found o w s named =
    unless-holds NotE1 (is_startup w) code.E9 _ (λ _. no-E9)
    (λ _. unless-holds NotE1 (not (all_named s (handles_read o))) code.E1 _
    (λ unnamed. absurd (let wrong : not true ≡ true = ap (λ (b : Bool). not b) (sym named) ∙ unnamed in cc)) (λ _. no-E9))

new_handle-found : (i : Option Object) (s : World) → NotE1 (new_handle i s)
new_handle-found None s = λ is. absurd (cc)
new_handle-found (Some x) s =
    unless-holds NotE1 (no_handle_more s.handles) code.E10 _ (λ _. no-E10) (λ _ is. absurd (cc))

by_name-found : (text : List ℕ) (scope : Option ℕ) (w : Who) (s : World) → all_named s (handle_or_null true scope) ≡ true
    → NotE1 (effect_of (order.ByName text scope) w s)
by_name-found text scope w s named =
    unless-holds NotE1 (is_startup w) code.E9 _ (λ _. no-E9)
    (λ _. with_ok-holds NotE1 (name_meant scope text s) _
    (λ c is. E1-apart c (meant-found scope text s c named is))
    (λ name _. new_handle-found (object_named name s.names) s))

register-found : (r : Reason) (h : Option ℕ) (time : ℕ) (body : BodyName) (n : ℕ) (w : Who) (s : World)
    → all_named s (handle_if (needs_object r) h) ≡ true → NotE1 (effect_of (order.Register r h time body n) w s)
register-found r h time body n w s named =
    unless-holds NotE1 (is_startup w && needs_object r) code.E9 _ (λ _. no-E9)
    (λ _. unless-holds NotE1 (needs_entry r) code.E9 _ (λ _. no-E9)
    (λ _. with_ok-holds NotE1 (object_watched (needs_object r) r h s) _
    (λ c is. E1-apart c (watched-found (needs_object r) r h s c named is))
    (λ o _. with_ok-holds NotE1 (body_named body s.scripts) _
    (λ c is. E1-apart c (body-found body s.scripts c is))
    (λ b _. unless-holds NotE1 (no_callback_more s.callbacks) code.E11 _ (λ _. no-E11)
    (λ _. unless-holds NotE1 (no_handle_more s.handles) code.E10 _ (λ _. no-E10) (λ _ is. absurd (cc)))))))

remove-found : (h : Option ℕ) (w : Who) (s : World) → all_named s (h ∷ []) ≡ true → NotE1 (effect_of (order.Remove h) w s)
remove-found None w s named = absurd (cc)
remove-found (Some h) w s named =
    unless-holds NotE1 (is_startup w) code.E9 _ (λ _. no-E9)
    (λ _. with_ok-holds NotE1 (callback_in (thing_at h s.handles)) _
    (λ c is. E1-apart c (callback-found (thing_at h s.handles) c named is)) (λ c _ is. absurd (cc)))

-- What is asked of a live thing isn't answered E1.
thing-found : (h : Option ℕ) (s : World) (c : Code) → is_named s h ≡ true → thing_named h s ≡ Err c → c ≡ code.E1 → ⊥
thing-found None s c named is one = absurd (cc)
thing-found (Some h) s c named is one = there-found (thing_at h s.handles) c named is
  where
    there-found : (t : Option Thing) (c : Code) → is_some t ≡ true → ok_or t code.E1 ≡ Err c → ⊥
    there-found None c there is = absurd (cc)
    there-found (Some t) c there is = absurd (cc)

E2-found : (c : Code) → code.E2 ≡ c → c ≡ code.E1 → ⊥
E2-found c is one = absurd (let two : code.E2 ≡ code.E1 = is ∙ one in cc)

E3-found : (c : Code) → code.E3 ≡ c → c ≡ code.E1 → ⊥
E3-found c is one = absurd (let two : code.E3 ≡ code.E1 = is ∙ one in cc)

led-found : (f : Found) (c : Code) → led_to f ≡ Err c → c ≡ code.E1 → ⊥
led-found (leads.Object o) c is one = absurd (cc)
led-found leads.None c is one = absurd (cc)
led-found leads.NoRelation c is one = E3-found c (let same : code.E3 ≡ c = cc in same) one

related-found : (os : List ObjectInfo) (r : Relation) (t : Thing) (c : Code) → related os r t ≡ Err c → c ≡ code.E1 → ⊥
related-found os r (thing.Object o) c is one = led-found (one_of os r (Some o)) c is one
related-found os r (thing.Iterator relation from at count) c is one = E3-found c (let same : code.E3 ≡ c = cc in same) one
related-found os r (thing.Callback d) c is one = E3-found c (let same : code.E3 ≡ c = cc in same) one
related-found os r (thing.Event serial) c is one = E3-found c (let same : code.E3 ≡ c = cc in same) one

word-found : (os : List ObjectInfo) (t : Thing) (n : ℕ) (c : Code) → word_in os t n ≡ Err c → c ≡ code.E1 → ⊥
word-found os (thing.Object o) n c is one =
    unless-holds (λ (r : Result (Option Object) Code). r ≡ Err c → ⊥) (not (is_memory_kind (kind_of os o))) code.E2 _
    (λ _ same. E2-found c (let two : code.E2 ≡ c = cc in two) one) (λ _ same. absurd (cc)) is
word-found os (thing.Iterator relation from at count) n c is one = E2-found c (let same : code.E2 ≡ c = cc in same) one
word-found os (thing.Callback d) n c is one = E2-found c (let same : code.E2 ≡ c = cc in same) one
word-found os (thing.Event serial) n c is one = E2-found c (let same : code.E2 ≡ c = cc in same) one

info-found : (cs : Callbacks Body) (t : Thing) (c : Code) → info_in cs t ≡ Err c → c ≡ code.E1 → ⊥
info-found cs (thing.Object o) c is one = E2-found c (let same : code.E2 ≡ c = cc in same) one
info-found cs (thing.Iterator relation from at count) c is one = E2-found c (let same : code.E2 ≡ c = cc in same) one
info-found cs (thing.Callback d) c is one =
    with_some-holds (λ (r : Result Answer Code). r ≡ Err c → ⊥) (info_of d cs) code.E2 _
    (λ _ same. E2-found c (let two : code.E2 ≡ c = cc in two) one) (λ r _ same. absurd (cc)) is
info-found cs (thing.Event serial) c is one = E2-found c (let same : code.E2 ≡ c = cc in same) one

-- No property is E1.
abbrev NoE1 : Option Answer → Type 0
NoE1 a = a ≡ Some (answer.Refused code.E1) → ⊥

text-no-E1 : (text : List ℕ) → NoE1 (Some (text_answer text))
text-no-E1 text is = text-by (nat_le (length text) 255) text is
  where
    text-by : (b : Bool) (text : List ℕ) → Some (if b then answer.Text text else answer.Refused code.E16) ≡ Some (answer.Refused code.E1) → ⊥
    text-by true text is = absurd (cc)
    text-by false text is = absurd (cc)

number-no-E1 : (has : Bool) (n : ℕ) → NoE1 (number_if has n)
number-no-E1 true n is = absurd (cc)
number-no-E1 false n is = absurd (cc)

text_if-no-E1 : (has : Bool) (text : List ℕ) → NoE1 (text_if has text)
text_if-no-E1 true text is = text-no-E1 text is
text_if-no-E1 false text is = absurd (cc)

told_text-no-E1 : (has : Bool) (text : Option (List ℕ)) → NoE1 (told_text has text)
told_text-no-E1 has None is = absurd (cc)
told_text-no-E1 has (Some text) is = text_if-no-E1 has text is

told_number-no-E1 : (has : Bool) (n : Option ℕ) → NoE1 (told_number has n)
told_number-no-E1 has None is = absurd (cc)
told_number-no-E1 has (Some n) is = number-no-E1 has n is

size-by : (b has : Bool) (n m : ℕ) → NoE1 (if b then Some (answer.Number n) else number_if has m)
size-by true has n m is = absurd (cc)
size-by false has n m is = number-no-E1 has m is

size-no-E1 : (k : ObjectKind) (i : ObjectInfo) → NoE1 (size_of k i)
size-no-E1 (of_kind.Of k) i is = size-by (is_memory k) (object_has_value (of_kind.Of k) || is_port k) i.words i.width is
size-no-E1 of_kind.Word i is = absurd (cc)

property-no-E1 : (os : List ObjectInfo) (p : Property) (o : Object) (k : ObjectKind) (i : ObjectInfo) → NoE1 (property_of os p o k i)
property-no-E1 os property_word.VpiType o k i is = text-no-E1 (kind_text k) is
property-no-E1 os property_word.VpiSize o k i is = size-no-E1 k i is
property-no-E1 os property_word.VpiSigned o k i is = number-no-E1 (object_has_value k) (flag_of i.signed) is
property-no-E1 os property_word.VpiTopModule o k i is = number-no-E1 (is_module_kind k) (flag_of (is_none i.parent)) is
property-no-E1 os property_word.VpiDirection o k i is = told_text-no-E1 (is_port_kind k) (direction_in i.detail) is
property-no-E1 os property_word.VpiNetType o k i is = told_text-no-E1 (is_net_kind k) (net_type_in i.detail) is
property-no-E1 os property_word.VpiPortIndex o k i is = told_number-no-E1 (is_port_kind k) (index_in i.detail) is
property-no-E1 os property_word.VpiLineNo o k i is = absurd (cc)
property-no-E1 os property_word.VpiName o k i is = text_if-no-E1 (has_name_kind k) (with_address i.name o.word) is
property-no-E1 os property_word.VpiFullName o k i is = text_if-no-E1 (has_name_kind k) (with_address (full_name os o.id) o.word) is
property-no-E1 os property_word.VpiDefName o k i is = told_text-no-E1 (is_module_kind k) (definition_in i.detail) is

there-no-E1 : (os : List ObjectInfo) (p : Property) (o : Object) (i : Option ObjectInfo)
    → NoE1 (option_and_then (λ x. property_of os p o (object_kind x.kind o.word) x) i)
there-no-E1 os p o None is = absurd (cc)
there-no-E1 os p o (Some i) is = property-no-E1 os p o (object_kind i.kind o.word) i is

kind-no-E1 : (b : Bool) (text : List ℕ) → NoE1 (if b then Some (text_answer text) else None)
kind-no-E1 true text is = text-no-E1 text is
kind-no-E1 false text is = absurd (cc)

in-no-E1 : (os : List ObjectInfo) (p : Property) (t : Thing) → NoE1 (property_in os p t)
in-no-E1 os p (thing.Object o) is = there-no-E1 os p o (info_at os o) is
in-no-E1 os p (thing.Iterator relation from at count) is = kind-no-E1 (is_type p) (codes "vpiIterator") is
in-no-E1 os p (thing.Callback c) is = kind-no-E1 (is_type p) (codes "vpiCallback") is
in-no-E1 os p (thing.Event serial) is = kind-no-E1 (is_type p) (codes "vpiSchedEvent") is

info-no-E1 : (cs : Callbacks Body) (t : Thing) (a : Answer) → info_in cs t ≡ Ok a → NoE1 (Some a)
info-no-E1 cs (thing.Object o) a is one = absurd (cc)
info-no-E1 cs (thing.Iterator relation from at count) a is one = absurd (cc)
info-no-E1 cs (thing.Callback d) a is one =
    with_some-holds (λ (r : Result Answer Code). r ≡ Ok a → ⊥) (info_of d cs) code.E2 _ (λ _ same. absurd (cc))
    (λ r _ same. text-no-E1 (info_text r) (let told : text_answer (info_text r) ≡ a = cc in ap (λ (x : Answer). Some x) told ∙ one)) is
info-no-E1 cs (thing.Event serial) a is one = absurd (cc)

told-found : (a : Option Answer) (s : World) → NoE1 a → NotE1 (told a s)
told-found None s unread = λ is. absurd (cc)
told-found (Some answer.Done) s unread = λ is. absurd (cc)
told-found (Some answer.Null) s unread = λ is. absurd (cc)
told-found (Some (answer.Handle h)) s unread = λ is. absurd (cc)
told-found (Some (answer.Number n)) s unread = λ is. absurd (cc)
told-found (Some (answer.Text text)) s unread = λ is. absurd (cc)
told-found (Some (answer.Refused c)) s unread =
    λ is. unread (let same : c ≡ code.E1 = cc in ap (λ (x : Code). Some (answer.Refused x)) same)

by_index-found : (h : Option ℕ) (n : ℕ) (w : Who) (s : World) → is_named s h ≡ true → NotE1 (effect_of (order.ByIndex h n) w s)
by_index-found h n w s named =
    unless-holds NotE1 (is_startup w) code.E9 _ (λ _. no-E9)
    (λ _. with_ok-holds NotE1 (thing_named h s) _ (λ c is. E1-apart c (thing-found h s c named is))
    (λ t _. with_ok-holds NotE1 (word_in (objects_of s) t n) _ (λ c is. E1-apart c (word-found (objects_of s) t n c is))
    (λ found _. new_handle-found found s)))

one_related-found : (b : Bool) (r : Relation) (h : Option ℕ) (s : World) → (b ≡ false → is_named s h ≡ true) → NotE1 (one_related b r h s)
one_related-found true r h s named = λ is. absurd (cc)
one_related-found false r h s named =
    with_ok-holds NotE1 (thing_named h s) _ (λ c is. E1-apart c (thing-found h s c (named refl) is))
    (λ t _. with_ok-holds NotE1 (related (objects_of s) r t) _ (λ c is. E1-apart c (related-found (objects_of s) r t c is))
    (λ found _. new_handle-found found s))

null-or : (b : Bool) (h : Option ℕ) (s : World) → all_named s (handle_or_null b h) ≡ true → (b && is_none h) ≡ false → is_named s h ≡ true
null-or b (Some k) s named some = named
null-or true None s named some = absurd (cc)
null-or false None s named some = absurd (cc)

handle-found : (r : Relation) (h : Option ℕ) (w : Who) (s : World) → all_named s (handle_or_null (is_running_call r) h) ≡ true
    → NotE1 (effect_of (order.Handle r h) w s)
handle-found r h w s named =
    unless-holds NotE1 (is_startup w) code.E9 _ (λ _. no-E9)
    (λ _. one_related-found (is_running_call r && is_none h) r h s (null-or (is_running_call r) h s named))

free-found : (h : Option ℕ) (w : Who) (s : World) → is_named s h ≡ true → NotE1 (effect_of (order.Free h) w s)
free-found h w s named =
    unless-holds NotE1 (is_startup w) code.E9 _ (λ _. no-E9)
    (λ _. with_ok-holds NotE1 (thing_named h s) _ (λ c is. E1-apart c (thing-found h s c named is)) (λ t _ is. absurd (cc)))

compare-found : (a b : Option ℕ) (w : Who) (s : World) → is_named s a ≡ true → is_named s b ≡ true → NotE1 (effect_of (order.Compare a b) w s)
compare-found a b w s first second =
    unless-holds NotE1 (is_startup w) code.E9 _ (λ _. no-E9)
    (λ _. with_ok-holds NotE1 (thing_named a s) _ (λ c is. E1-apart c (thing-found a s c first is))
    (λ t _. with_ok-holds NotE1 (thing_named b s) _ (λ c is. E1-apart c (thing-found b s c second is)) (λ u _ is. absurd (cc))))

property_told-found : (is_unfit : Bool) (p : Property) (h : Option ℕ) (s : World) → is_named s h ≡ true → NotE1 (property_told is_unfit p h s)
property_told-found is_unfit p h s named =
    with_ok-holds NotE1 (thing_named h s) _ (λ c is. E1-apart c (thing-found h s c named is))
    (λ t _. unless-holds NotE1 is_unfit code.E3 _ (λ _ is. absurd (cc))
    (λ _. told-found (property_in (objects_of s) p t) s (in-no-E1 (objects_of s) p t)))

cb_info-found : (h : Option ℕ) (w : Who) (s : World) → is_named s h ≡ true → NotE1 (effect_of (order.CbInfo h) w s)
cb_info-found h w s named =
    unless-holds NotE1 (is_startup w) code.E9 _ (λ _. no-E9)
    (λ _. with_ok-holds NotE1 (thing_named h s) _ (λ c is. E1-apart c (thing-found h s c named is))
    (λ t _. with_ok-holds NotE1 (info_in s.callbacks t) _ (λ c is. E1-apart c (info-found s.callbacks t c is))
    (λ a is. told-found (Some a) s (info-no-E1 s.callbacks t a is))))

effect-found : (o : Order) (w : Who) (s : World) → all_named s (handles_read o) ≡ true → NotE1 (effect_of o w s)
effect-found (order.ByName text scope) w s named = by_name-found text scope w s named
effect-found (order.ByIndex h n) w s named = by_index-found h n w s named
effect-found (order.Handle r h) w s named = handle-found r h w s named
effect-found (order.Iterate r h) w s named = not_yet-found (order.Iterate r h) w s named
effect-found (order.Scan h) w s named = not_yet-found (order.Scan h) w s named
effect-found (order.Free h) w s named = free-found h w s named
effect-found (order.Compare a b) w s named =
    let parts = and_parts (is_named s b) (is_named s a) named in compare-found a b w s parts.1 parts.0
effect-found (order.Get property h) w s named =
    unless-holds NotE1 (is_startup w) code.E9 _ (λ _. no-E9) (λ _. property_told-found (is_by_get_str property) property h s named)
effect-found (order.GetStr property h) w s named =
    unless-holds NotE1 (is_startup w) code.E9 _ (λ _. no-E9)
    (λ _. property_told-found (not (is_by_get_str property)) property h s named)
effect-found (order.GetValue h format) w s named = not_yet-found (order.GetValue h format) w s named
effect-found (order.PutValue h format text mode time event) w s named =
    not_yet-found (order.PutValue h format text mode time event) w s named
effect-found (order.Cancel h) w s named = not_yet-found (order.Cancel h) w s named
effect-found order.GetTime w s named = λ is. absurd (cc)
effect-found (order.Register r h time body n) w s named = register-found r h time body n w s named
effect-found (order.Remove h) w s named = remove-found h w s named
effect-found (order.CbInfo h) w s named = cb_info-found h w s named
effect-found (order.RegisterSystf kind text n calltf compiletf) w s named =
    not_yet-found (order.RegisterSystf kind text n calltf compiletf) w s named
effect-found order.ChkError w s named = λ is. absurd (cc)
effect-found (order.Control stop) w s named = not_yet-found (order.Control stop) w s named
effect-found (order.Print text) w s named = λ is. absurd (cc)
effect-found (order.SetData n) w s named = not_yet-found (order.SetData n) w s named
effect-found order.Pass w s named = not_yet-found order.Pass w s named
effect-found order.Return w s named = not_yet-found order.Return w s named

-- An answer E1 is a refusal.
answered-E1 : (o : Order) (s : World) (g : Given) (e : Effect) → IsForm o s e → (answered e s g).0 ≡ answer.Refused code.E1
    → e ≡ Err code.E1
answered-E1 o s g e (refuses c is) one =
    let there : answer.Refused c ≡ answer.Refused code.E1 = ap (λ (x : Effect). (answered x s g).0) (sym is) ∙ one in
    let same : c ≡ code.E1 = cc in is ∙ ap (λ (x : Code). (let r : Effect = Err x in r)) same
answered-E1 o s g e (answers_only a (tells_done done) is) one =
    absurd (let there : answer.Done ≡ answer.Refused code.E1 = sym done ∙ ap (λ (x : Effect). (answered x s g).0) (sym is) ∙ one in cc)
answered-E1 o s g e (answers_only a (tells_null null) is) one =
    absurd (let there : answer.Null ≡ answer.Refused code.E1 = sym null ∙ ap (λ (x : Effect). (answered x s g).0) (sym is) ∙ one in cc)
answered-E1 o s g e (answers_only a (tells_number n none number) is) one =
    absurd (let there : answer.Number n ≡ answer.Refused code.E1 = sym number ∙ ap (λ (x : Effect). (answered x s g).0) (sym is) ∙ one in cc)
answered-E1 o s g e (answers_only a (tells_text text told) is) one =
    absurd (let there : answer.Text text ≡ answer.Refused code.E1 = sym told ∙ ap (λ (x : Effect). (answered x s g).0) (sym is) ∙ one in cc)
answered-E1 o s g e (opens_object x means room is) one =
    absurd (let there : answer.Handle g.handle ≡ answer.Refused code.E1 = ap (λ (x : Effect). (answered x s g).0) (sym is) ∙ one in cc)
answered-E1 o s g e (registers r h time n body object b by watches calls room free is) one =
    absurd (let there : answer.Handle g.handle ≡ answer.Refused code.E1 = ap (λ (x : Effect). (answered x s g).0) (sym is) ∙ one in cc)
answered-E1 o s g e (removes c h by names is) one =
    absurd (let there : answer.Number 1 ≡ answer.Refused code.E1 = ap (λ (x : Effect). (answered x s g).0) (sym is) ∙ one in cc)
answered-E1 o s g e (frees_only h by live is) one =
    absurd (let there : answer.Number 1 ≡ answer.Refused code.E1 = ap (λ (x : Effect). (answered x s g).0) (sym is) ∙ one in cc)

-- Orders are performed with the handles of the state before.
same-is_named : (vars : List (List Answer)) (s : State) (h : Option ℕ) → is_named (performing vars s) h ≡ is_named s.world h
same-is_named vars s None = refl
same-is_named vars s (Some h) = refl

same-named : (vars : List (List Answer)) (s : State) (hs : List (Option ℕ))
    → all_named (performing vars s) hs ≡ all_named s.world hs
same-named vars s [] = refl
same-named vars s (h ∷ hs) =
    ap (λ (b : Bool). b && is_named (performing vars s) h) (same-named vars s hs)
    ∙ ap (λ (b : Bool). all_named s.world hs && b) (same-is_named vars s h)

finds-live : (s : State) (moves : List Move) → IsPath s moves → FindsLive s moves
finds-live s moves path before behind who o a t is named one =
    let parts = path_at s moves before ((label.Do who o a, t) ∷ behind) path is in
    let u : State = end_of s before in
    let from : OrderedFrom u who o a = ordered-from u t who o a parts.1.0 in
    let r : World = performing from.vars u in
    effect-found o who r (same-named from.vars u (handles_read o) ∙ named)
    (answered-E1 o r from.given (effect_of o who r) (effect-form o who r) (sym from.is ∙ one))

-- What was refused stays refused.
with_ok-Err : {X A E : Type 0} (o : Result X E) (e : E) (rest : X → Result A E) → o ≡ Err e → with_ok o rest ≡ Err e
with_ok-Err o e rest is = ap (λ (x : Result _ _). with_ok x rest) is

-- A handle that isn't live is refused.
abbrev RefusedBy : Who → Effect → Type 0
RefusedBy w e = (e ≡ Err code.E1) ⊎ ((is_startup w ≡ true) × (e ≡ Err code.E9))

dead-by : (b c : Bool) → b ≡ false → (c && b) ≡ false
dead-by b true none = none
dead-by b false none = refl

unnamed-by : (a b : Bool) (all here : Bool) → (a || b) ≡ true → (a ≡ true → here ≡ false) → (b ≡ true → all ≡ false) → (all && here) ≡ false
unnamed-by true b all here some first rest = dead-by here all (first refl)
unnamed-by false b true here some first rest = absurd (let no = rest some in cc)
unnamed-by false b false here some first rest = refl

unnamed-one : (h : ℕ) (x : Option ℕ) (s : World) → is_handle h x ≡ true → thing_at h s.handles ≡ None → is_named s x ≡ false
unnamed-one h None s is gone = refl
unnamed-one h (Some k) s is gone =
    let same : h ≡ k = eqb-true h k is in
    ap (λ (n : ℕ). is_some (thing_at n s.handles)) (sym same) ∙ ap (λ (o : Option Thing). is_some o) gone

unnamed : (h : ℕ) (hs : List (Option ℕ)) (s : World) → list_any (is_handle h) hs ≡ true → thing_at h s.handles ≡ None
    → all_named s hs ≡ false
unnamed h [] s is gone = absurd (cc)
unnamed h (x ∷ hs) s is gone =
    unnamed-by (is_handle h x) (list_any (is_handle h) hs) (all_named s hs) (is_named s x) is
    (λ here. unnamed-one h x s here gone) (λ there. unnamed h hs s there gone)

not_yet-refused : (o : Order) (w : Who) (s : World) (h : ℕ) → reads h o ≡ true → thing_at h s.handles ≡ None → RefusedBy w (not_yet o w s)
not_yet-refused o w s h is gone =
    unless-holds (RefusedBy w) (is_startup w) code.E9 _ (λ early. inr (early, refl))
    (λ _. unless-holds (RefusedBy w) (not (all_named s (handles_read o))) code.E1 _ (λ _. inl refl)
    (λ all. absurd (let wrong : not false ≡ false = ap (λ (b : Bool). not b) (sym (unnamed h (handles_read o) s is gone)) ∙ all in cc)))

read-by : (b : Bool) → (b || false) ≡ true → b ≡ true
read-by true is = refl
read-by false is = absurd (cc)

read-one : (h k : ℕ) → (nat_eq h k || false) ≡ true → h ≡ k
read-one h k is = eqb-true h k (read-by (nat_eq h k) is)

by_name-refused : (text : List ℕ) (scope : Option ℕ) (w : Who) (s : World) (h : ℕ) → reads h (order.ByName text scope) ≡ true
    → thing_at h s.handles ≡ None → RefusedBy w (effect_of (order.ByName text scope) w s)
by_name-refused text None w s h is gone = absurd (cc)
by_name-refused text (Some k) w s h is gone =
    let none : thing_at k s.handles ≡ None = ap (λ (n : ℕ). thing_at n s.handles) (sym (read-one h k is)) ∙ gone in
    unless-holds (RefusedBy w) (is_startup w) code.E9 _ (λ early. inr (early, refl))
    (λ _. inl (with_ok-Err (name_meant (Some k) text s) code.E1 _
    (with_ok-Err (object_in (thing_at k s.handles)) code.E1 _ (ap object_in none))))

remove-refused : (x : Option ℕ) (w : Who) (s : World) (h : ℕ) → reads h (order.Remove x) ≡ true → thing_at h s.handles ≡ None
    → RefusedBy w (effect_of (order.Remove x) w s)
remove-refused None w s h is gone = absurd (cc)
remove-refused (Some k) w s h is gone =
    let none : thing_at k s.handles ≡ None = ap (λ (n : ℕ). thing_at n s.handles) (sym (read-one h k is)) ∙ gone in
    unless-holds (RefusedBy w) (is_startup w) code.E9 _ (λ early. inr (early, refl))
    (λ _. inl (with_ok-Err (callback_in (thing_at k s.handles)) code.E1 _ (ap callback_in none)))

-- A reason that watches an object stands for no entry.
no-entry : (r : Reason) → needs_object r ≡ true → needs_entry r ≡ false
no-entry reason.CbValueChange needs = refl
no-entry reason.CbForce needs = refl
no-entry reason.CbRelease needs = refl
no-entry reason.CbAtStartOfSimTime needs = absurd (cc)
no-entry reason.CbAfterDelay needs = absurd (cc)
no-entry reason.CbNextSimTime needs = absurd (cc)
no-entry reason.CbReadWriteSynch needs = absurd (cc)
no-entry reason.CbReadOnlySynch needs = absurd (cc)
no-entry reason.CbEndOfCompile needs = absurd (cc)
no-entry reason.CbStartOfSimulation needs = absurd (cc)
no-entry reason.CbEndOfSimulation needs = absurd (cc)

watched-none : (needs : Bool) (r : Reason) (x : Option ℕ) (s : World) (h : ℕ) → list_any (is_handle h) (handle_if needs x) ≡ true
    → thing_at h s.handles ≡ None → (needs ≡ true) × (object_watched needs r x s ≡ Err code.E1)
watched-none false r x s h is gone = absurd (cc)
watched-none true r None s h is gone = absurd (cc)
watched-none true r (Some k) s h is gone =
    let none : thing_at k s.handles ≡ None = ap (λ (n : ℕ). thing_at n s.handles) (sym (read-one h k is)) ∙ gone in
    (refl, with_ok-Err (object_in (thing_at k s.handles)) code.E1 _ (ap object_in none))

register-refused : (r : Reason) (x : Option ℕ) (time : ℕ) (body : BodyName) (n : ℕ) (w : Who) (s : World) (h : ℕ)
    → reads h (order.Register r x time body n) ≡ true → thing_at h s.handles ≡ None
    → RefusedBy w (effect_of (order.Register r x time body n) w s)
register-refused r x time body n w s h is gone =
    let watched = watched-none (needs_object r) r x s h is gone in
    unless-holds (RefusedBy w) (is_startup w && needs_object r) code.E9 _
    (λ early. inr ((and_parts (is_startup w) (needs_object r) early).0, refl))
    (λ _. unless-holds (RefusedBy w) (needs_entry r) code.E9 _
    (λ entry. absurd (not_both (needs_entry r) entry (no-entry r watched.0)))
    (λ _. inl (with_ok-Err (object_watched (needs_object r) r x s) code.E1 _ watched.1)))

-- What isn't live is no thing.
unnamed-thing : (h : ℕ) (x : Option ℕ) (s : World) → is_handle h x ≡ true → thing_at h s.handles ≡ None → thing_named x s ≡ Err code.E1
unnamed-thing h None s is gone = refl
unnamed-thing h (Some k) s is gone =
    let none : thing_at k s.handles ≡ None = ap (λ (n : ℕ). thing_at n s.handles) (sym (eqb-true h k is)) ∙ gone in
    ap (λ (o : Option Thing). ok_or o code.E1) none

only-read : (b : Bool) → (b || false) ≡ true → b ≡ true
only-read true is = refl
only-read false is = absurd (cc)

-- No other error comes of that.
E1-only : (x : Option ℕ) (s : World) (c : Code) → thing_named x s ≡ Err c → c ≡ code.E1
E1-only None s c is = cc
E1-only (Some k) s c is = there-only (thing_at k s.handles) c is
  where
    there-only : (t : Option Thing) (c : Code) → ok_or t code.E1 ≡ Err c → c ≡ code.E1
    there-only None c is = cc
    there-only (Some t) c is = absurd (cc)

and-false : (b : Bool) → (b && false) ≡ false
and-false true = refl
and-false false = refl

-- An order that looks at a thing first is refused where it isn't live.
looks-refused : (rest : Thing → Effect) (x : Option ℕ) (w : Who) (s : World) (h : ℕ) → is_handle h x ≡ true → thing_at h s.handles ≡ None
    → RefusedBy w (unless (is_startup w) code.E9 (with_ok (thing_named x s) rest))
looks-refused rest x w s h is gone =
    unless-holds (RefusedBy w) (is_startup w) code.E9 _ (λ early. inr (early, refl))
    (λ _. inl (with_ok-Err (thing_named x s) code.E1 rest (unnamed-thing h x s is gone)))

-- The first or the second of two isn't live.
first-or : (first second : Result Thing Code) (rest : Thing → Thing → Effect) → ((c : Code) → first ≡ Err c → c ≡ code.E1)
    → second ≡ Err code.E1 → with_ok first (λ t. with_ok second (rest t)) ≡ Err code.E1
first-or (Err c) second rest only dead = ap (λ (x : Code). (let e : Effect = Err x in e)) (only c refl)
first-or (Ok t) second rest only dead = with_ok-Err second code.E1 (rest t) dead

one-dead : (a b : Option ℕ) (rest : Thing → Thing → Effect) (s : World) (h : ℕ) (c : Bool) → is_handle h a ≡ c
    → (c || (is_handle h b || false)) ≡ true → thing_at h s.handles ≡ None
    → with_ok (thing_named a s) (λ t. with_ok (thing_named b s) (rest t)) ≡ Err code.E1
one-dead a b rest s h true here some gone = with_ok-Err (thing_named a s) code.E1 _ (unnamed-thing h a s here gone)
one-dead a b rest s h false here some gone =
    first-or (thing_named a s) (thing_named b s) rest (E1-only a s) (unnamed-thing h b s (only-read (is_handle h b) some) gone)

compare-refused : (a b : Option ℕ) (w : Who) (s : World) (h : ℕ) → reads h (order.Compare a b) ≡ true → thing_at h s.handles ≡ None
    → RefusedBy w (effect_of (order.Compare a b) w s)
compare-refused a b w s h is gone =
    unless-holds (RefusedBy w) (is_startup w) code.E9 _ (λ early. inr (early, refl))
    (λ _. inl (one-dead a b (λ t u. Ok (answers_with (answer.Number (flag_number (same_thing (same_handle a b) t u))) s)) s h (is_handle h a) refl is gone))

handle-refused : (r : Relation) (x : Option ℕ) (w : Who) (s : World) (h : ℕ) → reads h (order.Handle r x) ≡ true → thing_at h s.handles ≡ None
    → RefusedBy w (effect_of (order.Handle r x) w s)
handle-refused r None w s h is gone = null-read (is_running_call r) is
  where
    null-read : (b : Bool) → list_any (is_handle h) (handle_or_null b None) ≡ true → RefusedBy w (effect_of (order.Handle r None) w s)
    null-read true is = absurd (cc)
    null-read false is = absurd (cc)
handle-refused r (Some k) w s h is gone =
    subst (λ (b : Bool). RefusedBy w (unless (is_startup w) code.E9 (one_related b r (Some k) s))) (sym (and-false (is_running_call r)))
    (looks-refused _ (Some k) w s h (only-read (is_handle h (Some k)) is) gone)

effect-refused : (o : Order) (w : Who) (s : World) (h : ℕ) → reads h o ≡ true → thing_at h s.handles ≡ None → RefusedBy w (effect_of o w s)
effect-refused (order.ByName text scope) w s h is gone = by_name-refused text scope w s h is gone
effect-refused (order.ByIndex x n) w s h is gone = looks-refused _ x w s h (only-read (is_handle h x) is) gone
effect-refused (order.Handle r x) w s h is gone = handle-refused r x w s h is gone
effect-refused (order.Iterate r x) w s h is gone = not_yet-refused (order.Iterate r x) w s h is gone
effect-refused (order.Scan x) w s h is gone = not_yet-refused (order.Scan x) w s h is gone
effect-refused (order.Free x) w s h is gone = looks-refused _ x w s h (only-read (is_handle h x) is) gone
effect-refused (order.Compare a b) w s h is gone = compare-refused a b w s h is gone
effect-refused (order.Get property x) w s h is gone = looks-refused _ x w s h (only-read (is_handle h x) is) gone
effect-refused (order.GetStr property x) w s h is gone = looks-refused _ x w s h (only-read (is_handle h x) is) gone
effect-refused (order.GetValue x format) w s h is gone = not_yet-refused (order.GetValue x format) w s h is gone
effect-refused (order.PutValue x format text mode time event) w s h is gone =
    not_yet-refused (order.PutValue x format text mode time event) w s h is gone
effect-refused (order.Cancel x) w s h is gone = not_yet-refused (order.Cancel x) w s h is gone
effect-refused order.GetTime w s h is gone = absurd (cc)
effect-refused (order.Register r x time body n) w s h is gone = register-refused r x time body n w s h is gone
effect-refused (order.Remove x) w s h is gone = remove-refused x w s h is gone
effect-refused (order.CbInfo x) w s h is gone = looks-refused _ x w s h (only-read (is_handle h x) is) gone
effect-refused (order.RegisterSystf kind text n calltf compiletf) w s h is gone = absurd (cc)
effect-refused order.ChkError w s h is gone = absurd (cc)
effect-refused (order.Control stop) w s h is gone = absurd (cc)
effect-refused (order.Print text) w s h is gone = absurd (cc)
effect-refused (order.SetData n) w s h is gone = absurd (cc)
effect-refused order.Pass w s h is gone = absurd (cc)
effect-refused order.Return w s h is gone = absurd (cc)

-- A handle that was freed stays so.
gone-along : (h : ℕ) (s : State) (moves : List Move) → IsPath s moves → NumbersRise 0 s.world.handles.live → s.world.handles.is_given h ≡ true
    → thing_at h s.world.handles ≡ None → thing_at h (end_of s moves).world.handles ≡ None
gone-along h s [] path climb given gone = gone
gone-along h s (m ∷ moves) path climb given gone =
    let step : Hands s.world.handles m.0 m.1.world.handles = hands s m path.0 in
    gone-along h m.1 moves path.1 (stays-climbing s.world.handles m.1.world.handles m.0 step climb)
    (stays-given h s.world.handles m.1.world.handles m.0 step given)
    (elim (names-still h s.world.handles m.1.world.handles m.0 step climb given) [ inl none ↦ none | inr same ↦ same ∙ gone ])

stays-freed : (s : State) (moves : List Move) → IsPath s moves → Keeps [] (view_of s) → StaysFreed s moves
stays-freed s moves path keeps before mid behind who o a t h is given gone read =
    let m : Move = (label.Do who o a, t) in
    let parts = path_at s moves before (mid ++ m ∷ behind) path (is ∙ append_assoc before mid (m ∷ behind)) in
    let u : State = end_of s before in
    let there : Keeps before (view_of u) = keeps-on [] s before parts.0 keeps in
    let halves = path_split u mid (m ∷ behind) parts.1 in
    let v : State = end_of u mid in
    let dead : thing_at h v.world.handles ≡ None = gone-along h u mid halves.0 there.climbs given gone in
    let from : OrderedFrom v who o a = ordered-from v t who o a halves.1.0 in
    let r : World = performing from.vars v in
    elim (effect-refused o who r h read dead) [
      | inl one ↦ inl (from.is ∙ ap (λ (x : Effect). (answered x r from.given).0) one)
      | inr early ↦ inr (early.0, from.is ∙ ap (λ (x : Effect). (answered x r from.given).0) early.1)
    ]

-- What orders are answered that nothing speaks against.
removal-answer : (b : Bool) (t : Option Thing) (h c : ℕ) (w : World) (g : Given) → b ≡ false → t ≡ Some (thing.Callback c)
    → (answered (unless b code.E9 (with_ok (callback_in t) (λ d. Ok (answers_with (answer.Number 1) (without_callback d h w))))) w g).0
    ≡ answer.Number 1
removal-answer b t h c w g running names = rw (running, names) refl

removes-callbacks : (s : State) (moves : List Move) → IsPath s moves → RemovesCallbacks s moves
removes-callbacks s moves path before behind who h a t is =
    let parts = path_at s moves before ((label.Do who (order.Remove (Some h)) a, t) ∷ behind) path is in
    let u : State = end_of s before in
    let from : OrderedFrom u who (order.Remove (Some h)) a = ordered-from u t who (order.Remove (Some h)) a parts.1.0 in
    record {
      removes = λ c running names.
          from.is ∙ removal-answer (is_startup who) (thing_at h u.world.handles) h c (performing from.vars u) from.given running names;
      names = λ one. (let gone : RemovedFrom u h (view_of t) =
          removed-from u (label.Do who (order.Remove (Some h)) a) (view_of t) who h 1
          (ap (λ (x : Answer). label.Do who (order.Remove (Some h)) x) one) (made-works u (label.Do who (order.Remove (Some h)) a, t) parts.1.0) in
          (gone.callback, gone.names));
    }

new-answer : (found : Option Object) (full : Bool) (w : World) (g : Given) → no_handle_more w.handles ≡ full
    → answers_found found full (answered (new_handle found w) w g).0
new-answer None full w g is = refl
new-answer (Some x) true w g is = rw is refl
new-answer (Some x) false w g is = (g.handle, rw is refl)

name-answer : (b : Bool) (meant : Result (List ℕ) Code) (name : List ℕ) (w : World) (g : Given) → b ≡ false → meant ≡ Ok name
    → answers_found (object_named name w.names) (no_handle_more w.handles)
    (answered (unless b code.E9 (with_ok meant (λ n. new_handle (object_named n w.names) w))) w g).0
name-answer b meant name w g running is =
    let P : Result (List ℕ) Code → Type 0 = λ r. answers_found (object_named name w.names) (no_handle_more w.handles)
    (answered (unless false code.E9 (with_ok r (λ n. new_handle (object_named n w.names) w))) w g).0 in
    let Q : Bool → Type 0 = λ x. answers_found (object_named name w.names) (no_handle_more w.handles)
    (answered (unless x code.E9 (with_ok meant (λ n. new_handle (object_named n w.names) w))) w g).0 in
    subst Q (sym running) (subst P (sym is) (new-answer (object_named name w.names) (no_handle_more w.handles) w g refl))

finds-names : (s : State) (moves : List Move) → IsPath s moves → FindsNames s moves
finds-names s moves path before behind who text scope name a t is running means =
    let parts = path_at s moves before ((label.Do who (order.ByName text scope) a, t) ∷ behind) path is in
    let u : State = end_of s before in
    let from : OrderedFrom u who (order.ByName text scope) a = ordered-from u t who (order.ByName text scope) a parts.1.0 in
    let w : World = performing from.vars u in
    let P : Answer → Type 0 = answers_found (object_named name u.world.names) (no_handle_more u.world.handles) in
    subst P (sym from.is)
    (name-answer (is_startup who) (name_meant scope text w) name w from.given running (same-meant from.vars u scope text ∙ means))

-- What a relation leads to, and a word, are found so too.
related-answer : (b c : Bool) (r : Relation) (h : ℕ) (t : Thing) (found : Option Object) (w : World) (g : Given) → b ≡ false → c ≡ false
    → thing_at h w.handles ≡ Some t → related (objects_of w) r t ≡ Ok found
    → answers_found found (no_handle_more w.handles) (answered (unless b code.E9 (one_related c r (Some h) w)) w g).0
related-answer b c r h t found w g running plain names is =
    let T : Effect → Type 0 = λ e. answers_found found (no_handle_more w.handles) (answered e w g).0 in
    let last : T (with_ok (related (objects_of w) r t) (λ x. new_handle x w)) =
    subst (λ (y : Result (Option Object) Code). T (with_ok y (λ x. new_handle x w))) (sym is) (new-answer found (no_handle_more w.handles) w g refl) in
    let named : T (with_ok (ok_or (thing_at h w.handles) code.E1) (λ u. with_ok (related (objects_of w) r u) (λ x. new_handle x w))) =
    subst (λ (y : Option Thing). T (with_ok (ok_or y code.E1) (λ u. with_ok (related (objects_of w) r u) (λ x. new_handle x w)))) (sym names) last in
    subst (λ (x : Bool). T (unless x code.E9 (one_related c r (Some h) w))) (sym running)
    (subst (λ (x : Bool). T (one_related x r (Some h) w)) (sym plain) named)

finds-related : (s : State) (moves : List Move) → IsPath s moves → FindsRelated s moves
finds-related s moves path before behind who r h x found a t is running names leads =
    let o : Order = order.Handle r (Some h) in
    let parts = path_at s moves before ((label.Do who o a, t) ∷ behind) path is in
    let u : State = end_of s before in
    let from : OrderedFrom u who o a = ordered-from u t who o a parts.1.0 in
    let P : Answer → Type 0 = answers_found found (no_handle_more u.world.handles) in
    subst P (sym from.is)
    (related-answer (is_startup who) (is_running_call r && false) r h x found (performing from.vars u) from.given running
    (and-false (is_running_call r)) names leads)

word-answer : (b : Bool) (h n : ℕ) (t : Thing) (found : Option Object) (w : World) (g : Given) → b ≡ false
    → thing_at h w.handles ≡ Some t → word_in (objects_of w) t n ≡ Ok found
    → answers_found found (no_handle_more w.handles)
    (answered (unless b code.E9 (with_ok (thing_named (Some h) w) (λ u. with_ok (word_in (objects_of w) u n) (λ x. new_handle x w)))) w g).0
word-answer b h n t found w g running names is =
    let T : Effect → Type 0 = λ e. answers_found found (no_handle_more w.handles) (answered e w g).0 in
    let last : T (with_ok (word_in (objects_of w) t n) (λ x. new_handle x w)) =
    subst (λ (y : Result (Option Object) Code). T (with_ok y (λ x. new_handle x w))) (sym is) (new-answer found (no_handle_more w.handles) w g refl) in
    let named : T (with_ok (ok_or (thing_at h w.handles) code.E1) (λ u. with_ok (word_in (objects_of w) u n) (λ x. new_handle x w))) =
    subst (λ (y : Option Thing). T (with_ok (ok_or y code.E1) (λ u. with_ok (word_in (objects_of w) u n) (λ x. new_handle x w)))) (sym names) last in
    subst (λ (x : Bool). T (unless x code.E9 (with_ok (thing_named (Some h) w) (λ u. with_ok (word_in (objects_of w) u n) (λ x. new_handle x w)))))
    (sym running) named

finds-words : (s : State) (moves : List Move) → IsPath s moves → FindsWords s moves
finds-words s moves path before behind who h n x found a t is running names there =
    let o : Order = order.ByIndex (Some h) n in
    let parts = path_at s moves before ((label.Do who o a, t) ∷ behind) path is in
    let u : State = end_of s before in
    let from : OrderedFrom u who o a = ordered-from u t who o a parts.1.0 in
    let P : Answer → Type 0 = answers_found found (no_handle_more u.world.handles) in
    subst P (sym from.is) (word-answer (is_startup who) h n x found (performing from.vars u) from.given running names there)

-- A live handle is freed.
some-thing : (o : Option Thing) → is_some o ≡ true → (t : Thing) × (o ≡ Some t)
some-thing None there = absurd (cc)
some-thing (Some t) there = (t, refl)

free-answer : (b : Bool) (h : ℕ) (t : Thing) (w : World) (g : Given) → b ≡ false → thing_at h w.handles ≡ Some t
    → (answered (unless b code.E9 (with_ok (thing_named (Some h) w) (λ u. Ok (answers_with (answer.Number 1) (without_handle (Some h) w))))) w g).0
    ≡ answer.Number 1
free-answer b h t w g running names = rw (running, names) refl

changes-live : (s : State) (h : ℕ) (o : Order) (a : Answer) (w : View) → o ≡ order.Free (Some h) → a ≡ answer.Number 1 → Changes s o a w
    → is_some (thing_at h s.world.handles) ≡ true
changes-live s h o a w by one (changes_none plain after) =
    absurd (let none : Some h ≡ None = ap (λ (x : Answer). freed_by (order.Free (Some h)) x) (sym one)
    ∙ ap (λ (x : Order). freed_by x a) (sym by) ∙ plain.1 in cc)
changes-live s h o a w by one (opens_one k x gives fresh finds after) =
    absurd (let d : answer.Number 1 ≡ answer.Handle k = sym one ∙ gives in cc)
changes-live s h o a w by one (registers_one k r b gives fresh room asks after) =
    absurd (let d : answer.Number 1 ≡ answer.Handle k = sym one ∙ gives in cc)
changes-live s h o a w by one (removes_one c k too counts names after) =
    absurd (let both : order.Free (Some h) ≡ order.Remove (Some k) = sym by ∙ too in cc)
changes-live s h o a w by one (frees_one k too counts live after) =
    let both : order.Free (Some h) ≡ order.Free (Some k) = sym by ∙ too in
    let same : k ≡ h = cc in ap (λ (x : ℕ). is_some (thing_at x s.world.handles)) (sym same) ∙ live

frees-live : (s : State) (moves : List Move) → IsPath s moves → FreesLive s moves
frees-live s moves path before behind who h a t is =
    let o : Order = order.Free (Some h) in
    let parts = path_at s moves before ((label.Do who o a, t) ∷ behind) path is in
    let u : State = end_of s before in
    let from : OrderedFrom u who o a = ordered-from u t who o a parts.1.0 in
    record {
      frees = λ running there. (let named = some-thing (thing_at h u.world.handles) there in
          from.is ∙ free-answer (is_startup who) h named.0 (performing from.vars u) from.given running named.1);
      live = λ one. changes-live u h o a (view_of t) refl one (answered-by u who o a (view_of t) (made-works u (label.Do who o a, t) parts.1.0)).changes;
    }

registration-answer : (a b : Bool) (object : Result (Option Object) Code) (body : Result Body Code) (o : Option Object) (y : Body)
    (r : Option Object → ℕ → Registration) (w : World) (g : Given)
    → a ≡ false → b ≡ false → object ≡ Ok o → body ≡ Ok y → no_callback_more w.callbacks ≡ false → no_handle_more w.handles ≡ false
    → (answered (unless a code.E9 (unless b code.E9 (with_ok object (λ x. with_ok body (λ z. new_callback (r x) z w))))) w g).0
    ≡ answer.Handle g.handle
registration-answer a b object body o y r w g first second watches found room more =
    rw (first, second, watches, found, room, more) refl

registers-asked : (s : State) (moves : List Move) → IsPath s moves → RegistersAsked s moves
registers-asked s moves path before behind who reason watched time calls user_data a t is can =
    let o : Order = order.Register reason watched time calls user_data in
    let parts = path_at s moves before ((label.Do who o a, t) ∷ behind) path is in
    let u : State = end_of s before in
    let from : OrderedFrom u who o a = ordered-from u t who o a parts.1.0 in
    let w : World = performing from.vars u in (
      from.given.handle,
      from.is ∙ registration-answer (is_startup who && needs_object reason) (needs_entry reason)
          (object_watched (needs_object reason) reason watched w) (body_named calls w.scripts) can.object can.body
          (λ x me. registration_of reason x watched time user_data me) w from.given can.in_time can.built
          (same-watched from.vars u (needs_object reason) reason watched ∙ can.watches) can.found can.room can.handles,
    )

pub handle-law : (s : State) (moves : List Move) → IsPath s moves → Keeps [] (view_of s) → KeepsHandleLaw s moves
handle-law s moves path keeps = record {
  given_once = gives-once s moves path;
  given_live = gives-live s moves path keeps;
  names_one = names-one s moves path keeps;
  finds_live = finds-live s moves path;
  freed_by_order = freed-by-order s moves path;
  freed_there = freed-there s moves path keeps;
  stays_freed = stays-freed s moves path keeps;
  removes_callbacks = removes-callbacks s moves path;
  frees_live = frees-live s moves path;
  finds_names = finds-names s moves path;
  finds_related = finds-related s moves path;
  finds_words = finds-words s moves path;
  registers_asked = registers-asked s moves path;
}

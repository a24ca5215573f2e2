-- Worked rows with one label changed: each is refused by a law.
use Rattle.std.proofs.Common.{◌≡◌, ℕ, List, [], ◌∷◌, ◌++◌, take, drop, Bool, true, false, Option, Some, None, is_some, Ok, slice_get, refl, sym, ap, subst, ◌∙◌, inl, inr, append_assoc, append-nil}
use Rattle.std.specs.Prelude.{codes, unwrap_or}
use Rattle.std.specs.Option.{option_map}
use Rattle.vh_base.specs.declared.first.First.{First}
use Rattle.vh_base.specs.declared.orders.Answer.TheVariants as answer
use Rattle.vh_base.specs.declared.orders.Order.TheVariants as order
use Rattle.vh_base.specs.declared.words.Code.TheVariants as code
use Rattle.vh_base.specs.declared.words.Reason.TheVariants as reason
use Rattle.vh_app.specs.declared.form.Atom.TheVariants as atom
use Rattle.vh_app.specs.declared.form.Body.TheVariants as body
use Rattle.vh_app.specs.declared.form.Form.{Form}
use Rattle.vh_app.specs.declared.form.Form.TheVariants as form
use Rattle.vh_app.specs.declared.form.Node.TheVariants.{Ask, Return}
use Rattle.vh_app.specs.Script.{ScriptData}
use Rattle.vh_callbacks.specs.Callbacks.{info_of, is_live}
use Rattle.vh_callbacks.specs.declared.registration.Registration.{Registration}
use Rattle.vh_base.specs.declared.orders.BodyName.{BodyName}
use Rattle.vh_kernel.specs.declared.control.Control.{Control}
use Rattle.vh_kernel.specs.declared.control.Control.TheVariants as top
use Rattle.vh_kernel.specs.declared.occurrence.Told.{Told}
use Rattle.vh_orders.specs.declared.who.Who.{Who}
use Rattle.vh_orders.specs.Names.{object_named}
use Rattle.vh_orders.specs.Orders.{needs_entry, objects_of}
use Rattle.vh_orders.specs.Things.{related, word_in}
use Rattle.vh_base.specs.declared.words.Relation.TheVariants as relation
use Rattle.vh_orders.specs.declared.who.Who.TheVariants as who_is
use Rattle.vh_handles.specs.declared.handles.Thing.TheVariants as thing
use Rattle.vh_kernel.specs.Activations.{Activation}
use Rattle.vh_base.specs.declared.orders.Seen.{Seen}
use Rattle.vh_kernel.specs.declared.label.Label.{Label}
use Rattle.vh_kernel.specs.declared.label.Label.TheVariants as label
use Rattle.vh_callbacks.specs.Marks.{is_among}
use Rattle.vh_kernel_laws.specs.Firing.{Frame}
use Rattle.vh_base.specs.declared.words.Reason.{Reason}
use Rattle.vh_base.specs.declared.orders.Object.{Object}
use Rattle.vh_handles.specs.declared.handles.Thing.{Thing}
use Rattle.vh_handles.specs.Handles.{Handles, thing_at, opened, no_handle_more}
use Rattle.vh_kernel.specs.Occurrences.{Occurrence, set_of}
use Rattle.vh_kernel.specs.Outcome.{Move}
use Rattle.vh_kernel_choice.specs.declared.chooser.Chooser.TheVariants.{Fifo}
use Rattle.vh_kernel.specs.Run.{moves_of}
use Rattle.vh_kernel_laws.proofs.Openings.{opening}
use Rattle.vh_kernel.specs.State.{State}
use Rattle.vh_kernel_laws.specs.Firing.{frames_of, IsTelling, TellsOnce, WasTold, FiresOnce, LeavesNone, DoneOnce, RemovesForGood}
use Rattle.vh_kernel_laws.specs.HandleLaw.{GivesOnce, GivesLive, GivesRight, FindsLive, FreedByOrder, FreedThere, StaysFreed, RemovesCallbacks, FreesLive, answers_found, FindsNames, FindsRelated, FindsWords, IsRegistrable, RegistersAsked}
use Rattle.vh_kernel_laws.specs.Acting.{BeginsStartups, Orders, OrdersNext, Returns, ReturnsLast}
use Rattle.vh_kernel.specs.declared.occurrence.Agendum.TheVariants as agendum
use Rattle.vh_app.specs.Next.{next_of}
use Rattle.vh_orders.specs.Orders.{is_return}
use Rattle.vh_base.specs.declared.orders.Answer.{Answer}
use Rattle.vh_base.specs.declared.orders.Order.{Order}
use Rattle.vh_kernel_laws.specs.Pending.{pendings_in, pendings_of, statement_made, KeepsPending, TellsInTurn}
use Rattle.vh_proc_simulation.specs.Labels.{performed}
use Rattle.vh_kernel_laws.specs.Watching.{watches, all as to_all, one as to_one, TellsThoseWhoWatch, Calls, FiresTop, Closes, ClosesTop, HasFrameOf, FramesStand, IsRegistration, ComesByRegistration, IsSameCallback, StaysAsRegistered}
use Rattle.vh_kernel_laws.specs.Deeds.{removes}
use Rattle.vh_kernel_laws.specs.Paths.{is_told, is_fire, is_fire_of, is_done, any, was_removed, end_of}
use Rattle.vh_kernel_laws.proofs.Splits.{not_both, or_left, or_right}
use Rattle.vh_design_first.specs.Designs.{instructions_of, codes_of}
use Rattle.vh_design_names.specs.Names.{scopes_below, dotted}

-- Module top; reg r; endmodule
abbrev still : First
still = record { name = codes "top"; regs = codes "r" ∷ []; blocks = [] }

-- App a; var r, one, two, three, x; startup { register cbEndOfCompile null 0 proc init 0; }
-- proc init {
--   r = by_name "top.r" null; one = register cbStartOfSimulation null 0 proc p1 1;
--   two = register cbStartOfSimulation null 0 proc p2 2; three = register cbStartOfSimulation null 0 proc p3 3;
-- }
-- proc p1 { remove two; x = register cbStartOfSimulation null 0 proc p4 4; } proc p2 { } proc p3 { } proc p4 { }
abbrev registers : Reason → List ℕ → ℕ → Form
registers reason name n = form.Register reason atom.Null (atom.Number 0) (body.Proc name) (atom.Number n)

abbrev removes_another : ScriptData
removes_another = record {
  name = codes "a";
  variables = 5;
  procedures =
      record { name = codes "init"; start = 2 } ∷ record { name = codes "p1"; start = 7 }
      ∷ record { name = codes "p2"; start = 10 } ∷ record { name = codes "p3"; start = 11 }
      ∷ record { name = codes "p4"; start = 12 } ∷ [];
  nodes =
      Ask None (registers reason.CbEndOfCompile (codes "init") 0)
      ∷ Return
      ∷ Ask (Some 0) (form.ByName (atom.Text (codes "top.r")) atom.Null)
      ∷ Ask (Some 1) (registers reason.CbStartOfSimulation (codes "p1") 1)
      ∷ Ask (Some 2) (registers reason.CbStartOfSimulation (codes "p2") 2)
      ∷ Ask (Some 3) (registers reason.CbStartOfSimulation (codes "p3") 3)
      ∷ Return
      ∷ Ask None (form.Remove (atom.Variable 2))
      ∷ Ask (Some 4) (registers reason.CbStartOfSimulation (codes "p4") 4)
      ∷ Return
      ∷ Return
      ∷ Return
      ∷ Return
      ∷ [];
}

-- The run, and its state before all.
abbrev start : State
start = opening still (removes_another ∷ [])

abbrev moves : List Move
moves = moves_of Fifo 100 start

-- The labels up to one and those behind it, and the state after one.
abbrev up_to : ℕ → List Move
up_to k = take k moves

abbrev from : ℕ → List Move
from k = drop k moves

abbrev state_at : ℕ → State
state_at k = unwrap_or (option_map (λ m. m.1) (slice_get moves k)) start

-- The telling of an occurrence is one.
holds : (p : Label → Bool) (us : List Move) (n : Move) (vs : List Move) → p n.0 ≡ true → any p (us ++ n ∷ vs) ≡ true
holds p [] n vs at = or_left (p n.0) (any p vs) at
holds p (u ∷ us) n vs at = or_right (p u.0) (any p (us ++ n ∷ vs)) (holds p us n vs at)

tells-apart : (p : Label → Bool) (xs us : List Move) (m n : Move) (ys vs : List Move) → xs ++ m ∷ ys ≡ us ++ n ∷ vs
    → p m.0 ≡ true → p n.0 ≡ true → any p ys ≡ false → any p vs ≡ false → m ≡ n
tells-apart p [] [] m n ys vs same is at none rest = cc
tells-apart p [] (u ∷ us) m n ys vs same is at none rest =
    let there : ys ≡ us ++ n ∷ vs = cc in
    absurd (not_both (any p ys) (ap (λ (ms : List Move). any p ms) there ∙ holds p us n vs at) none)
tells-apart p (x ∷ xs) [] m n ys vs same is at none rest =
    let there : xs ++ m ∷ ys ≡ vs = cc in
    absurd (not_both (any p vs) (ap (λ (ms : List Move). any p ms) (sym there) ∙ holds p xs m ys is) rest)
tells-apart p (x ∷ xs) (u ∷ us) m n ys vs same is at none rest =
    tells-apart p xs us m n ys vs (let there : xs ++ m ∷ ys ≡ us ++ n ∷ vs = cc in there) is at none rest

-- What each law says of such a list, whatever stands in it.
no-second-fire : (front behind : List Move) (t : State) → any (is_fire 2 4) front ≡ true
    → FiresOnce (front ++ (label.Fire 2 4, t) ∷ behind) → ⊥
no-second-fire front behind t fired law = not_both (any (is_fire 2 4) front) fired (law front behind 2 4 t refl).once

no-second-end : (front behind : List Move) (t : State) → any (is_done 1) front ≡ true
    → DoneOnce (front ++ (label.Done 1, t) ∷ behind) → ⊥
no-second-end front behind t ended law = not_both (any (is_done 1) front) ended (law front behind 1 t refl).1

no-missing-fire : (front mid : List Move) (reason : Reason) (object : Option Object) (what : Occurrence) (told t : State)
    → IsTelling (label.Occ 2 reason object, told) 2 what → is_among 4 (set_of what told.world.callbacks) ≡ true
    → any (is_fire 2 4) mid ≡ false → was_removed 4 mid ≡ false
    → LeavesNone (front ++ (label.Occ 2 reason object, told) ∷ mid ++ (label.Done 2, t) ∷ []) → ⊥
no-missing-fire front mid reason object what told t telling among silent stays law =
    elim (law front mid [] (label.Occ 2 reason object, told) 2 4 what t refl telling among) [
      | inl fires ↦ not_both (any (is_fire 2 4) mid) fires silent
      | inr gone ↦ not_both (was_removed 4 mid) gone stays
    ]

no-fire-of-removed : (s : State) (front behind : List Move) (removal : Move) → removes removal.0 (end_of s front) ≡ Some 3
    → any (is_fire_of 3) behind ≡ true → RemovesForGood s (front ++ removal ∷ behind) → ⊥
no-fire-of-removed s front behind removal is fires law =
    not_both (any (is_fire_of 3) behind) fires (law front behind removal 3 refl is).silent

no-removal-of-nothing : (s : State) (front : List Move) (removal : Move) → removes removal.0 (end_of s front) ≡ Some 3
    → is_live 3 removal.1.world.callbacks ≡ true → RemovesForGood s (front ++ removal ∷ []) → ⊥
no-removal-of-nothing s front removal is lives law =
    not_both (is_live 3 removal.1.world.callbacks) lives (law front [] removal 3 refl is).dead

no-handle-left : (front : List Move) (t : State) (x : Thing) → thing_at 3 t.world.handles ≡ Some x
    → FreedThere (front ++ (label.Do (who_is.Callback 2) (order.Remove (Some 3)) (answer.Number 1), t) ∷ []) → ⊥
no-handle-left front t x there law =
    let gone : thing_at 3 t.world.handles ≡ None = law front [] (label.Do (who_is.Callback 2) (order.Remove (Some 3)) (answer.Number 1), t) 3 refl refl in absurd (cc)

no-later-fire : (front mid behind : List Move) (here : Move) (f : Frame) (t : State) → is_told 2 here.0 ≡ true
    → any (is_told 2) (mid ++ (label.Fire 2 5, t) ∷ behind) ≡ false → slice_get (frames_of here.1) 0 ≡ Some f → is_among 5 f.left ≡ false
    → TellsOnce ((front ++ here ∷ mid) ++ (label.Fire 2 5, t) ∷ behind) → FiresOnce ((front ++ here ∷ mid) ++ (label.Fire 2 5, t) ∷ behind) → ⊥
no-later-fire front mid behind here f t at none stands among once law =
    let told : WasTold 2 5 (front ++ here ∷ mid) = (law (front ++ here ∷ mid) behind 2 5 t refl).told in
    let rest : List Move = (label.Fire 2 5, t) ∷ behind in
    let is : is_told 2 told.move.0 ≡ true = ap (λ (l : Label). is_told 2 l) told.tells.told in
    let whole_list : (front ++ here ∷ mid) ++ rest ≡ told.front ++ told.move ∷ (told.rest ++ rest) =
    ap (λ (ms : List Move). ms ++ rest) told.splits ∙ append_assoc told.front (told.move ∷ told.rest) rest in
    let label_is : told.move ≡ (label.Occ 2 told.what.reason told.what.object, told.move.1) =
    ap (λ (l : Label). (let m : Move = (l, told.move.1) in m)) told.tells.told in
    let later : any (is_told 2) (told.rest ++ rest) ≡ false =
    (once told.front (told.rest ++ rest) 2 told.what.reason told.what.object told.move.1
    (whole_list ∙ ap (λ (m : Move). told.front ++ m ∷ (told.rest ++ rest)) label_is)).1 in
    let same : told.move ≡ here =
    tells-apart (is_told 2) told.front front told.move here (told.rest ++ rest) (mid ++ rest)
    (sym whole_list ∙ append_assoc front (here ∷ mid) rest) is at later none in
    let frame : Some f ≡ Some (record { number = 2; what = told.what; left = set_of told.what told.move.1.world.callbacks }) =
    sym stands ∙ ap (λ (m : Move). slice_get (frames_of m.1) 0) (sym same) ∙ told.tells.frame in
    let left : Some f.left ≡ Some (set_of told.what told.move.1.world.callbacks) =
    ap (λ (o : Option Frame). option_map (λ x. x.left) o) frame in
    let there : is_among 5 f.left ≡ true = ap (λ (o : Option (List ℕ)). is_among 5 (unwrap_or o [])) left ∙ told.among in
    not_both (is_among 5 f.left) there among

no-second-answer : (s : State) (before mid : List Move) (t : State) → (end_of s before).world.handles.is_given 3 ≡ true
    → thing_at 3 (end_of s before).world.handles ≡ None
    → StaysFreed s (before ++ mid ++ (label.Do (who_is.Callback 2) (order.Remove (Some 3)) (answer.Number 1), t) ∷ []) → ⊥
no-second-answer s before mid t given gone law =
    elim (law before mid [] (who_is.Callback 2) (order.Remove (Some 3)) (answer.Number 1) t 3 refl given gone refl) [
      | inl one ↦ absurd (cc)
      | inr early ↦ absurd (let wrong = early.1 in cc)
    ]

-- Callbacks 2, 3 and 4 watch the start of simulation. Label 11 tells it as occurrence 2; label 12 fires 2;
-- label 13 is the removal of 3 by handle 3; label 14 registers 5; label 16 fires 4; label 18 is done.

fired_already : any (is_fire 2 4) (up_to 17) ≡ true
unfolding instructions_of codes_of scopes_below dotted
fired_already = refl

-- A second fire of callback 4.
second_fire : (t : State) → FiresOnce (up_to 17 ++ (label.Fire 2 4, t) ∷ from 17) → ⊥
second_fire t law = no-second-fire (up_to 17) (from 17) t fired_already law

-- The telling of occurrence 2, and the labels of callback 2 behind it.
abbrev change : Occurrence
change = record { reason = reason.CbStartOfSimulation; object = None; value = None; index = None; only = None }

abbrev told_state : State
told_state = unwrap_or (option_map (λ m. m.1) (slice_get (moves_of Fifo 12 start) 11)) start

tells_two : slice_get (frames_of told_state) 0 ≡ Some (record { number = 2; what = change; left = 2 ∷ 3 ∷ 4 ∷ [] })
unfolding instructions_of codes_of scopes_below dotted
tells_two = refl

set_is : set_of change told_state.world.callbacks ≡ 2 ∷ 3 ∷ 4 ∷ []
unfolding instructions_of codes_of scopes_below dotted
set_is = refl

told_once : (t : State) → any (is_told 2) (drop 12 (up_to 17) ++ (label.Fire 2 5, t) ∷ []) ≡ false
unfolding instructions_of codes_of scopes_below dotted
told_once t = refl

-- A fire of callback 5, which was registered during the occurrence.
fires_what_came_later : (t : State)
    → TellsOnce ((up_to 11 ++ (label.Occ 2 reason.CbStartOfSimulation None, told_state) ∷ drop 12 (up_to 17)) ++ (label.Fire 2 5, t) ∷ [])
    → FiresOnce ((up_to 11 ++ (label.Occ 2 reason.CbStartOfSimulation None, told_state) ∷ drop 12 (up_to 17)) ++ (label.Fire 2 5, t) ∷ [])
    → ⊥
fires_what_came_later t once law =
    no-later-fire (up_to 11) (drop 12 (up_to 17)) [] (label.Occ 2 reason.CbStartOfSimulation None, told_state)
    (record { number = 2; what = change; left = 2 ∷ 3 ∷ 4 ∷ [] }) t refl (told_once t) tells_two refl once law

fires_later : any (is_fire 2 4) (drop 12 (up_to 16)) ≡ false
unfolding instructions_of codes_of scopes_below dotted
fires_later = refl

stays_there : was_removed 4 (drop 12 (up_to 16)) ≡ false
unfolding instructions_of codes_of scopes_below dotted
stays_there = refl

-- Callback 4 doesn't fire.
missing_fire : (t : State)
    → LeavesNone (up_to 11 ++ (label.Occ 2 reason.CbStartOfSimulation None, told_state) ∷ drop 12 (up_to 16) ++ (label.Done 2, t) ∷ [])
    → ⊥
missing_fire t law =
    let telling : IsTelling (label.Occ 2 reason.CbStartOfSimulation None, told_state) 2 change = record {
      told = refl;
      frame = tells_two ∙ ap (λ (xs : List ℕ). Some (let f : Frame = record { number = 2; what = change; left = xs } in f)) (sym set_is);
    } in
    no-missing-fire (up_to 11) (drop 12 (up_to 16)) reason.CbStartOfSimulation None change told_state t telling
    (ap (λ (xs : List ℕ). is_among 4 xs) set_is) fires_later stays_there law

done_already : any (is_done 1) (up_to 11) ≡ true
unfolding instructions_of codes_of scopes_below dotted
done_already = refl

-- Occurrence 1 is done twice.
done_twice : (t : State) → DoneOnce (up_to 11 ++ (label.Done 1, t) ∷ from 11) → ⊥
done_twice t law = no-second-end (up_to 11) (from 11) t done_already law

-- The removal of callback 3, with this state behind it.
abbrev removal : State → Move
removal t = (label.Do (who_is.Callback 2) (order.Remove (Some 3)) (answer.Number 1), t)

removes_three : (t : State) → removes (removal t).0 (end_of start (up_to 13)) ≡ Some 3
unfolding instructions_of codes_of scopes_below dotted
removes_three t = refl

-- Callback 3 fires after it was removed.
fires_removed : (t : State) → RemovesForGood start (up_to 13 ++ removal (state_at 13) ∷ (label.Fire 2 3, t) ∷ from 14) → ⊥
unfolding instructions_of codes_of scopes_below dotted
fires_removed t law =
    no-fire-of-removed start (up_to 13) ((label.Fire 2 3, t) ∷ from 14) (removal (state_at 13)) (removes_three (state_at 13)) refl law

-- An answered removal that removes nothing.
removes_nothing : RemovesForGood start (up_to 13 ++ removal (state_at 12) ∷ []) → ⊥
unfolding instructions_of codes_of scopes_below dotted
removes_nothing law = no-removal-of-nothing start (up_to 13) (removal (state_at 12)) (removes_three (state_at 12)) refl law

-- The state with other handles.
abbrev with_handles : Handles → State → State
with_handles handles s = record s { world = record s.world { handles = handles } }

-- One that frees the handle alone.
frees_the_handle_alone :
    RemovesForGood start (up_to 13 ++ removal (with_handles (state_at 13).world.handles (state_at 12)) ∷ []) → ⊥
unfolding instructions_of codes_of scopes_below dotted
frees_the_handle_alone law =
    no-removal-of-nothing start (up_to 13) (removal (with_handles (state_at 13).world.handles (state_at 12)))
    (removes_three (with_handles (state_at 13).world.handles (state_at 12))) refl law

-- One that leaves the handle.
leaves_the_handle : FreedThere (up_to 13 ++ removal (with_handles (state_at 12).world.handles (state_at 13)) ∷ []) → ⊥
unfolding instructions_of codes_of scopes_below dotted
leaves_the_handle law =
    no-handle-left (up_to 13) (with_handles (state_at 12).world.handles (state_at 13)) (thing.Callback 3) refl law

was_given : (end_of start (up_to 14)).world.handles.is_given 3 ≡ true
unfolding instructions_of codes_of scopes_below dotted
was_given = refl

was_freed : thing_at 3 (end_of start (up_to 14)).world.handles ≡ None
unfolding instructions_of codes_of scopes_below dotted
was_freed = refl

-- A handle that was freed is answered 1 again.
freed_answers_one : (t : State) → StaysFreed start (up_to 14 ++ drop 14 (up_to 20) ++ removal t ∷ []) → ⊥
freed_answers_one t law = no-second-answer start (up_to 14) (drop 14 (up_to 20)) t was_given was_freed law

-- A handle that is live answers E1.
every_handle_is_dead :
    FindsLive start (up_to 13 ++ (label.Do (who_is.Callback 2) (order.Remove (Some 3)) (answer.Refused code.E1), state_at 12) ∷ []) → ⊥
unfolding instructions_of codes_of scopes_below dotted
every_handle_is_dead law =
    law (up_to 13) [] (who_is.Callback 2) (order.Remove (Some 3)) (answer.Refused code.E1) (state_at 12) refl refl refl

-- The registration of callback 2, with this state behind it.
abbrev registers_two : State → Move
registers_two t = (unwrap_or (option_map (λ m. m.0) (slice_get moves 6)) (label.Done 0), t)

-- Its handle is dead when given.
dead_when_given : GivesLive start (up_to 6 ++ registers_two (state_at 5) ∷ []) → ⊥
unfolding instructions_of codes_of scopes_below dotted
dead_when_given law =
    let right : GivesRight (end_of start (up_to 6)) _ 2 (state_at 5) = law (up_to 6) [] (who_is.Callback 1) _ 2 (state_at 5) refl in
    let none : None ≡ Some right.thing = right.names in absurd (cc)

-- Its handle names callback 1.
abbrev with_another : State
with_another = with_handles (opened 2 (thing.Callback 1) (state_at 5).world.handles) (state_at 6)

names_another : GivesLive start (up_to 6 ++ registers_two with_another ∷ []) → ⊥
unfolding instructions_of codes_of scopes_below dotted
names_another law =
    let right : GivesRight (end_of start (up_to 6)) _ 2 with_another = law (up_to 6) [] (who_is.Callback 1) _ 2 with_another refl in
    let is : Some (thing.Callback 1) ≡ Some right.thing = right.names in
    let same : thing.Callback 1 ≡ right.thing = cc in
    elim right.about [
      | inl object ↦ absurd (let wrong : thing.Callback 1 ≡ thing.Object object.object = same ∙ object.names in cc)
      | inr callback ↦ absurd (let wrong : thing.Callback 1 ≡ thing.Callback 2 = same ∙ callback.names in cc)
    ]

-- A number is given twice.
given_twice : (t : State) → GivesOnce (up_to 7 ++ registers_two t ∷ []) → ⊥
unfolding instructions_of codes_of scopes_below dotted
given_twice t law = not_both true refl (law (up_to 7) [] (who_is.Callback 1) _ 2 t refl).0

-- An occurrence is told to another set than that of the callbacks that watch: one of several is left out, or one is in it that
-- was registered for another reason.
told_to_others : (m : Move) (n c : ℕ) (what : Occurrence) → IsTelling m n what → needs_entry what.reason ≡ false
    → (is_among c (set_of what m.1.world.callbacks) ≡ watches what.reason what.object c m.1 → ⊥) → TellsThoseWhoWatch (m ∷ []) → ⊥
told_to_others m n c what telling stands apart law = elim (law [] [] m n what refl telling) [
  | to_all plain each ↦ apart (each c)
  | to_one d needs alone for ↦ absurd (not_both (needs_entry what.reason) needs stands)
]

-- Of three that watch the start of simulation the last alone is told.
abbrev to_the_last : Occurrence
to_the_last = record { reason = reason.CbStartOfSimulation; object = None; value = None; index = None; only = Some 4 }

told_to_one : (t : State) → IsTelling (label.Occ 2 reason.CbStartOfSimulation None, t) 2 to_the_last
    → set_of to_the_last t.world.callbacks ≡ 4 ∷ [] → watches reason.CbStartOfSimulation None 2 t ≡ true
    → TellsThoseWhoWatch ((label.Occ 2 reason.CbStartOfSimulation None, t) ∷ []) → ⊥
told_to_one t telling set there law =
    told_to_others (label.Occ 2 reason.CbStartOfSimulation None, t) 2 2 to_the_last telling refl
    (λ same. not_both (watches reason.CbStartOfSimulation None 2 t) there (sym same ∙ ap (λ (xs : List ℕ). is_among 2 xs) set)) law

-- A fire that calls nothing.
fire_calls_nothing : (s : State) (f : Told) (rest : List Control) (n c : ℕ) → s.control ≡ top.Frame f ∷ rest
    → FiresTop s ((label.Fire n c, s) ∷ []) → ⊥
fire_calls_nothing s f rest n c on law =
    let fire : Calls s n c s = law [] [] n c s refl in
    let both : top.Frame f ∷ rest ≡ top.Activation fire.activation ∷ s.control = sym on ∙ fire.begins in
    let wrong : top.Frame f ≡ top.Activation fire.activation = cc in absurd (cc)

-- A fire for an occurrence whose frame isn't on top, or while what was called for another callback still runs.
fires_below : (s t : State) (f : Told) (c : ℕ) → slice_get s.control 0 ≡ Some (top.Frame f) → f.number ≡ 3
    → FiresTop s ((label.Fire 2 c, t) ∷ []) → ⊥
fires_below s t f c on above law =
    let fire : Calls s 2 c t = law [] [] 2 c t refl in
    let both : Some (top.Frame f) ≡ Some (top.Frame fire.told) = sym on ∙ fire.on_top in
    let same : f ≡ fire.told = cc in
    absurd (let number : 3 ≡ 2 = sym above ∙ ap (λ (g : Told). g.number) same ∙ fire.number in cc)

fires_amid_another : (s t : State) (a : Activation) (n c : ℕ) → slice_get s.control 0 ≡ Some (top.Activation a)
    → FiresTop s ((label.Fire n c, t) ∷ []) → ⊥
fires_amid_another s t a n c on law =
    let fire : Calls s n c t = law [] [] n c t refl in
    absurd (let wrong : Some (top.Activation a) ≡ Some (top.Frame fire.told) = sym on ∙ fire.on_top in cc)

-- A fire whose callback sees another user's data than it was registered with.
sees_other_data : (s t : State) (n c : ℕ) (a : Activation) (xs : List Control) (r : Registration) → t.control ≡ top.Activation a ∷ xs
    → info_of c s.world.callbacks ≡ Some r → (a.seen.user_data ≡ r.user_data → ⊥) → FiresTop s ((label.Fire n c, t) ∷ []) → ⊥
sees_other_data s t n c a xs r on registered other law =
    let fire : Calls s n c t = law [] [] n c t refl in
    let both : top.Activation a ∷ xs ≡ top.Activation fire.activation ∷ s.control = sym on ∙ fire.begins in
    let one : a ≡ fire.activation = cc in
    let same : Some r ≡ Some fire.registration = sym registered ∙ fire.registered in
    let is : fire.registration ≡ r = cc in
    other (ap (λ (x : Activation). x.seen.user_data) one ∙ ap (λ (x : Seen). x.user_data) fire.sees
    ∙ ap (λ (x : Registration). x.user_data) is)

-- An occurrence is done while what was called for it still runs.
done_amid_a_call : (s t : State) (a : Activation) (n : ℕ) → slice_get s.control 0 ≡ Some (top.Activation a)
    → ClosesTop s ((label.Done n, t) ∷ []) → ⊥
done_amid_a_call s t a n on law =
    let closes : Closes s n t = law [] [] n t refl in
    absurd (let wrong : Some (top.Activation a) ≡ Some (top.Frame closes.told) = sym on ∙ closes.on_top in cc)

-- A frame goes without its end.
frame_vanishes : (who : Who) (s t : State) (n : ℕ) → HasFrameOf n s → frames_of t ≡ [] → FramesStand s ((label.Pass who, t) ∷ []) → ⊥
frame_vanishes who s t n has none law = elim (law [] [] (label.Pass who, t) n refl has) [
  | inl still ↦ absurd (let at : None ≡ Some still.1 = ap (λ (fs : List Frame). slice_get fs still.0) (sym none) ∙ still.2 in cc)
  | inr gone ↦ elim gone [
    | inl is ↦ absurd (let wrong : label.Pass who ≡ label.Done n = is in cc)
    | inr finish ↦ absurd (let wrong : label.Pass who ≡ label.Finish finish.0 = finish.1 in cc)
  ]
]

-- A callback from nowhere.
from_nowhere : (who : Who) (s t : State) (c : ℕ) → is_live c s.world.callbacks ≡ false → is_live c t.world.callbacks ≡ true
    → ComesByRegistration s ((label.Pass who, t) ∷ []) → ⊥
from_nowhere who s t c gone alive law =
    let came : IsRegistration c (label.Pass who) t = law [] [] (label.Pass who, t) c refl gone alive in absurd (let wrong = came.is in cc)

-- What a callback was registered for changes.
changes_what_it_watches : (who : Who) (s t : State) (c : ℕ) (r q : Registration) → info_of c s.world.callbacks ≡ Some r
    → info_of c t.world.callbacks ≡ Some q → is_live c s.world.callbacks ≡ true → is_live c t.world.callbacks ≡ true → (r ≡ q → ⊥)
    → StaysAsRegistered s ((label.Pass who, t) ∷ []) → ⊥
changes_what_it_watches who s t c r q first second was alive apart law =
    let same : IsSameCallback c s t = law [] [] (label.Pass who, t) c refl was alive in
    let both : Some r ≡ Some q = sym first ∙ sym same.registration ∙ second in apart (cc)

-- A removal of a live callback that is refused, and one of an object's handle that is answered 1.
removal_refused : (s t : State) (h c : ℕ) → thing_at h s.world.handles ≡ Some (thing.Callback c)
    → RemovesCallbacks s ((label.Do (who_is.Callback 2) (order.Remove (Some h)) (answer.Refused code.E2), t) ∷ []) → ⊥
removal_refused s t h c names law =
    let right : answer.Refused code.E2 ≡ answer.Number 1 =
    (law [] [] (who_is.Callback 2) h (answer.Refused code.E2) t refl).removes c refl names in absurd (cc)

removes_an_object : (who : Who) (s t : State) (h : ℕ) (x : Object) → thing_at h s.world.handles ≡ Some (thing.Object x)
    → RemovesCallbacks s ((label.Do who (order.Remove (Some h)) (answer.Number 1), t) ∷ []) → ⊥
removes_an_object who s t h x names law =
    let found = (law [] [] who h (answer.Number 1) t refl).names refl in
    let both : Some (thing.Object x) ≡ Some (thing.Callback found.0) = sym names ∙ found.1 in absurd (cc)

-- A name that is there and isn't found, and a registration that is refused without a cause.
name_not_found : (s t : State) (text : List ℕ) (x : Object) → object_named text s.world.names ≡ Some x
    → no_handle_more s.world.handles ≡ false
    → FindsNames s ((label.Do (who_is.Callback 1) (order.ByName text None) answer.Null, t) ∷ []) → ⊥
name_not_found s t text x found room law =
    let told : answers_found (object_named text s.world.names) (no_handle_more s.world.handles) answer.Null =
    law [] [] (who_is.Callback 1) text None text answer.Null t refl refl refl in
    let right : answers_found (Some x) false answer.Null =
    subst (λ (b : Bool). answers_found (Some x) b answer.Null) room
    (subst (λ (o : Option Object). answers_found o (no_handle_more s.world.handles) answer.Null) found told) in
    let wrong : answer.Null ≡ answer.Handle right.0 = right.1 in absurd (cc)

relation_not_found : (s t : State) (h : ℕ) (y : Thing) (x : Object) → thing_at h s.world.handles ≡ Some y
    → related (objects_of s.world) relation.VpiScope y ≡ Ok (Some x) → no_handle_more s.world.handles ≡ false
    → FindsRelated s ((label.Do (who_is.Callback 1) (order.Handle relation.VpiScope (Some h)) answer.Null, t) ∷ []) → ⊥
relation_not_found s t h y x names leads room law =
    let told : answers_found (Some x) (no_handle_more s.world.handles) answer.Null =
    law [] [] (who_is.Callback 1) relation.VpiScope h y (Some x) answer.Null t refl refl names leads in
    let right : answers_found (Some x) false answer.Null = subst (λ (b : Bool). answers_found (Some x) b answer.Null) room told in
    let wrong : answer.Null ≡ answer.Handle right.0 = right.1 in absurd (cc)

word_not_found : (s t : State) (h n : ℕ) (y : Thing) (x : Object) → thing_at h s.world.handles ≡ Some y
    → word_in (objects_of s.world) y n ≡ Ok (Some x) → no_handle_more s.world.handles ≡ false
    → FindsWords s ((label.Do (who_is.Callback 1) (order.ByIndex (Some h) n) answer.Null, t) ∷ []) → ⊥
word_not_found s t h n y x names there room law =
    let told : answers_found (Some x) (no_handle_more s.world.handles) answer.Null =
    law [] [] (who_is.Callback 1) h n y (Some x) answer.Null t refl refl names there in
    let right : answers_found (Some x) false answer.Null = subst (λ (b : Bool). answers_found (Some x) b answer.Null) room told in
    let wrong : answer.Null ≡ answer.Handle right.0 = right.1 in absurd (cc)

-- A live handle that isn't freed when that is asked for, and one that is freed by an order that only asks.
freeing_refused : (s t : State) (h : ℕ) → is_some (thing_at h s.world.handles) ≡ true
    → FreesLive s ((label.Do (who_is.Callback 2) (order.Free (Some h)) (answer.Refused code.E1), t) ∷ []) → ⊥
freeing_refused s t h live law =
    let right : answer.Refused code.E1 ≡ answer.Number 1 =
    (law [] [] (who_is.Callback 2) h (answer.Refused code.E1) t refl).frees refl live in absurd (cc)

asking_frees : (s t : State) (h : ℕ) → is_some (thing_at h s.world.handles) ≡ true → thing_at h t.world.handles ≡ None
    → FreedByOrder s ((label.Do (who_is.Callback 2) order.GetTime (answer.Number 1), t) ∷ []) → ⊥
asking_frees s t h live gone law =
    let freed : None ≡ Some h = law [] [] (label.Do (who_is.Callback 2) order.GetTime (answer.Number 1), t) h refl live gone in absurd (cc)

registration_refused : (who : Who) (s t : State) (watched : Option ℕ) (time n : ℕ) (calls : BodyName)
    → IsRegistrable s.world who reason.CbValueChange watched calls
    → RegistersAsked s ((label.Do who (order.Register reason.CbValueChange watched time calls n) (answer.Refused code.E13), t) ∷ []) → ⊥
registration_refused who s t watched time n calls can law =
    let right = law [] [] who reason.CbValueChange watched time calls n (answer.Refused code.E13) t refl can in
    let wrong : answer.Refused code.E13 ≡ answer.Handle right.0 = right.1 in absurd (cc)

-- Somebody watches what is passed over.
some-watch : (o : Occurrence) (passed : List Occurrence) (t : State) (c : ℕ) (cs : List ℕ) → slice_get passed 0 ≡ Some o
    → ((i : ℕ) (p : Occurrence) → slice_get passed i ≡ Some p → set_of p t.world.callbacks ≡ [])
    → set_of o t.world.callbacks ≡ c ∷ cs → ⊥
some-watch o passed t c cs at none watched = absurd (let wrong : [] ≡ c ∷ cs = sym (none 0 o at) ∙ watched in cc)

-- No change is ever told: what was pending is dropped, or what a statement has changed isn't pending.
drops_what_is_pending : (who : Who) (s t : State) (o : Occurrence) (os : List Occurrence) (c : ℕ) (cs : List ℕ)
    → pendings_of s ≡ o ∷ os → pendings_of t ≡ [] → set_of o t.world.callbacks ≡ c ∷ cs → TellsInTurn s ((label.Pass who, t) ∷ []) → ⊥
drops_what_is_pending who s t o os c cs stood none watched law =
    let kept : KeepsPending s (label.Pass who, t) = law [] [] (label.Pass who, t) refl in
    let all : o ∷ os ≡ kept.passed =
    sym stood ∙ sym kept.leaves ∙ ap (λ (made : List Occurrence). made ++ kept.rest) (sym kept.makes) ∙ kept.in_order
    ∙ ap (λ (ps : List Occurrence). kept.passed ++ ps) none ∙ append-nil kept.passed in
    some-watch o kept.passed t c cs (ap (λ (ps : List Occurrence). slice_get ps 0) (sym all)) kept.unwatched watched

drops_what_it_makes : (p : ℕ) (s t : State) (o : Occurrence) (os : List Occurrence) (c : ℕ) (cs : List ℕ)
    → statement_made (performed p s.world.activity) ≡ o ∷ os → pendings_of t ≡ [] → set_of o t.world.callbacks ≡ c ∷ cs
    → TellsInTurn s ((label.Stmt p None, t) ∷ []) → ⊥
drops_what_it_makes p s t o os c cs makes none watched law =
    let kept : KeepsPending s (label.Stmt p None, t) = law [] [] (label.Stmt p None, t) refl in
    let all : o ∷ (os ++ kept.rest) ≡ kept.passed =
    ap (λ (made : List Occurrence). made ++ kept.rest) (sym makes ∙ sym kept.makes) ∙ kept.in_order
    ∙ ap (λ (ps : List Occurrence). kept.passed ++ ps) none ∙ append-nil kept.passed in
    some-watch o kept.passed t c cs (ap (λ (ps : List Occurrence). slice_get ps 0) (sym all)) kept.unwatched watched

-- An occurrence that nothing made is told; and one is told that is still pending then.
tells_what_did_not_happen : (s t : State) (p n : ℕ) (xs : List Control) (why : Reason) (object : Option Object)
    → s.control ≡ top.Process p ∷ xs → pendings_of s ≡ [] → TellsInTurn s ((label.Occ n why object, t) ∷ []) → ⊥
tells_what_did_not_happen s t p n xs why object on none law =
    let kept : KeepsPending s (label.Occ n why object, t) = law [] [] (label.Occ n why object, t) refl in
    elim kept.leaves [
      | inl first ↦ absurd (let wrong : [] ≡ first.0 ∷ kept.rest = sym none ∙ first.2 in cc)
      | inr alone ↦ absurd (let wrong : top.Process p ∷ xs ≡ [] = sym on ∙ alone.0 in cc)
    ]

no-front : (passed : List Occurrence) (o : Occurrence) → [] ≡ passed ++ o ∷ [] → ⊥
no-front [] o same = absurd (cc)
no-front (p ∷ passed) o same = absurd (cc)

tells_again : (s t : State) (o : Occurrence) (n : ℕ) (why : Reason) (object : Option Object) → pendings_of s ≡ o ∷ []
    → pendings_of t ≡ o ∷ [] → TellsInTurn s ((label.Occ n why object, t) ∷ []) → ⊥
tells_again s t o n why object stood stands law =
    let kept : KeepsPending s (label.Occ n why object, t) = law [] [] (label.Occ n why object, t) refl in
    elim kept.leaves [
      | inl first ↦ (let both : o ∷ [] ≡ first.0 ∷ kept.rest = sym stood ∙ first.2 in
          let rest : kept.rest ≡ [] = cc in
          no-front kept.passed o
          (sym rest ∙ ap (λ (made : List Occurrence). made ++ kept.rest) (sym kept.makes) ∙ kept.in_order
          ∙ ap (λ (ps : List Occurrence). kept.passed ++ ps) stands))
      | inr alone ↦ absurd (let wrong : o ∷ [] ≡ [] = sym stood ∙ ap pendings_in alone.0 in cc)
    ]

-- An activation gives another order than its script has next, or returns before its script says so.
orders_another : (s t : State) (act : Activation) (script : ScriptData) (vars : List Answer) (o : Order) (a : Answer)
    → slice_get s.control 0 ≡ Some (top.Activation act) → slice_get s.world.scripts act.script ≡ Some script
    → slice_get s.world.variables act.script ≡ Some vars → ((next_of script act.at vars act.seen).0 ≡ o → ⊥)
    → OrdersNext s ((label.Do act.who o a, t) ∷ []) → ⊥
orders_another s t act script vars o a on script_is vars_are other law =
    let right : Orders s act.who o a t = law [] [] act.who o a t refl in
    let both : Some (top.Activation act) ≡ Some (top.Activation right.stands.activation) = sym on ∙ right.stands.on_top in
    let same : right.stands.activation ≡ act = cc in
    let scripts : Some right.stands.script ≡ Some script =
    sym right.stands.script_is ∙ ap (λ (x : Activation). slice_get s.world.scripts x.script) same ∙ script_is in
    let script_same : right.stands.script ≡ script = cc in
    let variables : Some right.stands.variables ≡ Some vars =
    sym right.stands.variables_are ∙ ap (λ (x : Activation). slice_get s.world.variables x.script) same ∙ vars_are in
    let vars_same : right.stands.variables ≡ vars = cc in
    other
    (ap (λ (x : Activation). (next_of script x.at vars x.seen).0) (sym same)
    ∙ ap (λ (x : ScriptData). (next_of x right.stands.activation.at vars right.stands.activation.seen).0) (sym script_same)
    ∙ ap (λ (x : List Answer). (next_of right.stands.script right.stands.activation.at x right.stands.activation.seen).0) (sym vars_same)
    ∙ right.next)

returns_early : (s t : State) (act : Activation) (script : ScriptData) (vars : List Answer)
    → slice_get s.control 0 ≡ Some (top.Activation act) → slice_get s.world.scripts act.script ≡ Some script
    → slice_get s.world.variables act.script ≡ Some vars → is_return (next_of script act.at vars act.seen).0 ≡ false
    → ReturnsLast s ((label.Ret act.who, t) ∷ []) → ⊥
returns_early s t act script vars on script_is vars_are goes law =
    let right : Returns s act.who = law [] [] act.who t refl in
    let both : Some (top.Activation act) ≡ Some (top.Activation right.activation) = sym on ∙ right.on_top in
    let same : right.activation ≡ act = cc in
    let P : Activation → Type 0 = λ x. (y : ScriptData) (z : List Answer) → slice_get s.world.scripts x.script ≡ Some y
    → slice_get s.world.variables x.script ≡ Some z → is_return (next_of y x.at z x.seen).0 ≡ true in
    not_both (is_return (next_of script act.at vars act.seen).0) ((subst P same right.last) script vars script_is vars_are) goes

-- An occurrence of the run that is told before a startup that comes first; a startup out of its turn; and one whose script does nothing.
tells_before_a_startup : (s t : State) (n k : ℕ) → s.control ≡ [] → slice_get s.agenda 0 ≡ Some (agendum.Startup k)
    → TellsInTurn s ((label.Occ n reason.CbEndOfCompile None, t) ∷ []) → ⊥
tells_before_a_startup s t n k alone first law =
    let kept : KeepsPending s (label.Occ n reason.CbEndOfCompile None, t) = law [] [] (label.Occ n reason.CbEndOfCompile None, t) refl in
    elim kept.leaves [
      | inl there ↦ absurd (let wrong : [] ≡ there.0 ∷ kept.rest = sym (ap pendings_in alone) ∙ there.2 in cc)
      | inr there ↦ absurd (let wrong : Some (agendum.Startup k) ≡ Some (agendum.Occurrence reason.CbEndOfCompile) = sym first ∙ there.1 in cc)
    ]

startup_out_of_turn : (s t : State) → slice_get s.agenda 0 ≡ Some (agendum.Startup 2) → BeginsStartups s ((label.Startup 1, t) ∷ []) → ⊥
startup_out_of_turn s t first law =
    let wrong : Some (agendum.Startup 2) ≡ Some (agendum.Startup 1) = sym first ∙ (law [] [] 1 t refl).next in
    absurd (let two : ◌≡◌ {A = ℕ} 2 1 = cc in cc)

startup_begins_nothing : (s t : State) (script : ScriptData) → slice_get s.world.scripts 0 ≡ Some script → t.control ≡ []
    → BeginsStartups s ((label.Startup 1, t) ∷ []) → ⊥
startup_begins_nothing s t script there none law =
    let begun = (law [] [] 1 t refl).begins script there in
    absurd (let wrong : [] ≡ top.Activation begun.0 ∷ [] = sym none ∙ begun.1 in cc)

-- What a disable does to everybody.
use Rattle.std.proofs.Common.{◌≡◌, ◌∙◌, ℕ, ◌<◌, ◌≤◌, ◌⊎◌, ⊎_elim, inl, inr, List, [], ◌∷◌, ◌++◌, Bool, true, false, ◌||◌, ◌==◌, cond, Option, Some, None, is_some, Ok, refl, ap, sym, subst, arith}
use Rattle.std.specs.Prelude.{nat_eq}
use Rattle.std.specs.List.{find}
use Rattle.std.specs.Option.{option_map}
use Rattle.std.proofs.lemmas.Bool.{eqb-true, eq-eqb, ne_eqb}
use Rattle.vh_callbacks.specs.Callbacks.{Rise, live_at, without}
use Rattle.vh_callbacks.proofs.CallbacksLemmas.{rise_without, live_without_same, live_without_other}
use Rattle.vh_design.specs.Shape.{Shape}
use Rattle.vh_sense.specs.Sensitivity.{Sensitivity, wait_of, without_wait}
use Rattle.vh_queue.specs.declared.entry.Entry.{Entry}
use Rattle.vh_queue.specs.declared.region.Region.{Region}
use Rattle.vh_queue.specs.declared.region.Region.TheVariants as region
use Rattle.vh_queue.specs.declared.work.Work.{Work}
use Rattle.vh_queue.specs.declared.work.Work.TheVariants as work
use Rattle.vh_queue.specs.Events as Q
use Rattle.vh_queue.specs.Events.{Events, entry_of, added, is_full}
use Rattle.vh_queue.proofs.LawsLemmas.{one-is-gone, others-stand}
use Rattle.vh_proc_turn.specs.declared.process.Process.{Process}
use Rattle.vh_design_code.specs.declared.code.Goes.{Goes}
use Rattle.vh_proc_thread.specs.Control.{is_inside, disabled}
use Rattle.vh_proc_turn.specs.Own.{going, arriving}
use Rattle.vh_proc.specs.Disabled.{is_among, without_entry, left_by, ended_in, left_in, all_ended, all_left, resumed_but, all_resumed, stopped, disable_all}
use Rattle.vh_proc.specs.Processes.{Processes, Queued, Scheduled, Step, queued, scheduled, process_at, evaluated_now, noted, with_serial, arrived_in}
use Rattle.vh_proc.specs.Steps.{before_disable, before_disable_of, disabled_by}
use Rattle.vh_proc_laws.specs.Disable.{AreNumbered, Ends, Leaves, IsUntouched, Stops}
use Rattle.vh_proc_laws.specs.Laws.{FindsWhoStops, DisableStops}
use Rattle.vh_proc_laws.proofs.FoundLemmas.{or-cases, finds-all}
use Rattle.vh_proc_laws.proofs.ApartLemmas.{Apart, leaves-apart}
use Rattle.vh_proc.proofs.KinLemmas.{ok-then, unless-then, ok-same}
use Rattle.vh_proc_laws.proofs.NumbersLemmas.{at-changed, changes, passes, ends-one}

or-false : (a b : Bool) → (a || b) ≡ false → (a ≡ false) × (b ≡ false)
or-false true b h = absurd (cc)
or-false false b h = (refl, h)

-- Entries: what is gone stays gone, and what is added has another serial.
gone-stays : (r s : ℕ) (q : Events) → entry_of r q ≡ None → entry_of r (Q.without s q) ≡ None
gone-stays r s q h = by (r == s) refl
  where
    by : (b : Bool) → (r == s) ≡ b → entry_of r (Q.without s q) ≡ None
    by true is = ap (λ (k : ℕ). entry_of k (Q.without s q)) (eqb-true r s is) ∙ one-is-gone q s
    by false is = others-stand q r s is ∙ h

find-push : (test : Entry → Bool) (es : List Entry) (e : Entry) → test e ≡ false → find test (es ++ e ∷ []) ≡ find test es
find-push test [] e h = rw h refl
find-push test (f ∷ es) e h = by (find-push test es e h) (test f) refl
  where
    by : find test (es ++ e ∷ []) ≡ find test es → (b : Bool) → test f ≡ b → find test (f ∷ (es ++ e ∷ [])) ≡ find test (f ∷ es)
    by rest true is = rw is refl
    by rest false is = rw is rest

added-other : (time : Option ℕ) (r : Region) (w : Work) (q : Events) (s : ℕ) → s < q.next → entry_of s (added time r w q) ≡ entry_of s q
added-other time r w q s below = find-push (λ e. e.serial == s) q.entries _ (ne_eqb q.next s (λ same. omega arith))

without-entry-gone : (s : ℕ) (o : Option ℕ) (q : Events) → o ≡ Some s → entry_of s (without_entry o q) ≡ None
without-entry-gone s o q is = ap (λ (x : Option ℕ). entry_of s (without_entry x q)) is ∙ one-is-gone q s

without-entry-stays : (s : ℕ) (o : Option ℕ) (q : Events) → entry_of s q ≡ None → entry_of s (without_entry o q) ≡ None
without-entry-stays s None q h = h
without-entry-stays s (Some k) q h = gone-stays s k q h

without-entry-other : (s : ℕ) (o : Option ℕ) (q : Events) → (o ≡ Some s → ⊥) → entry_of s (without_entry o q) ≡ entry_of s q
without-entry-other s None q h = refl
without-entry-other s (Some k) q h = others-stand q s k (ne_eqb s k (λ same. h (ap Some (sym same))))

without-entry-next : (o : Option ℕ) (q : Events) → (without_entry o q).next ≡ q.next
without-entry-next None q = refl
without-entry-next (Some k) q = refl

-- What has become of things, of those that are handled and of the others.
record Handled (among : ℕ → Bool) (o after : Scheduled) : Type 0 where
  waits : (p : ℕ) → among p ≡ true → is_some (process_at p o.processes) ≡ true → wait_of p after.sense ≡ None
  waiting : (p : ℕ) → among p ≡ false → wait_of p after.sense ≡ wait_of p o.sense
  nobody : (p : ℕ) → wait_of p o.sense ≡ None → wait_of p after.sense ≡ None
  others : (p : ℕ) → among p ≡ false → process_at p after.processes ≡ process_at p o.processes
  gone : (p s : ℕ) (t : Process) → among p ≡ true → process_at p o.processes ≡ Some t → t.entry ≡ Some s → entry_of s after.queue ≡ None
  stays : (s : ℕ) → entry_of s o.queue ≡ None → entry_of s after.queue ≡ None
  standing : (s : ℕ) → ((p : ℕ) (t : Process) → among p ≡ true → process_at p o.processes ≡ Some t → (t.entry ≡ Some s) → ⊥)
      → entry_of s after.queue ≡ entry_of s o.queue
  next : after.queue.next ≡ o.queue.next
  rise : (bound : ℕ) → Rise 0 o.sense.waiting bound → Rise 0 after.sense.waiting bound

-- One that halts, whatever becomes of its process.
halts : (p : ℕ) (t : Process) (o after : Scheduled) (bound : ℕ) → Rise 0 o.sense.waiting bound → process_at p o.processes ≡ Some t
    → after.sense ≡ without_wait p o.sense → after.queue ≡ without_entry t.entry o.queue
    → ((q : ℕ) → nat_eq p q ≡ false → process_at q after.processes ≡ process_at q o.processes) → Handled (λ q. nat_eq p q) o after
halts p t o after bound rise at sense queue rest = record {
  waits = λ q is there. wait q ∙ ap (λ (k : ℕ). live_at k (without p o.sense.waiting)) (sym (eqb-true p q is)) ∙ live_without_same p 0 o.sense.waiting bound rise;
  waiting = λ q is. wait q ∙ live_without_other p q o.sense.waiting is;
  nobody = λ q none. wait q ∙ nobody-in q none (nat_eq p q) refl;
  others = rest;
  gone = λ q s u is there has. ap (λ (x : Events). entry_of s x) queue
      ∙ without-entry-gone s t.entry o.queue (ap (λ (x : Process). x.entry) (same-process t u (sym at ∙ (ap (λ (k : ℕ). process_at k o.processes) (eqb-true p q is) ∙ there))) ∙ has);
  stays = λ s none. ap (λ (x : Events). entry_of s x) queue ∙ without-entry-stays s t.entry o.queue none;
  standing = λ s apart. ap (λ (x : Events). entry_of s x) queue
      ∙ without-entry-other s t.entry o.queue (λ has. apart p t (eq-eqb p p refl) at has);
  next = ap (λ (x : Events). x.next) queue ∙ without-entry-next t.entry o.queue;
  rise = λ limit h. subst (λ (x : Sensitivity). Rise 0 x.waiting limit) (sym sense) (rise_without p 0 o.sense.waiting limit h);
}
  where
    wait : (q : ℕ) → wait_of q after.sense ≡ live_at q (without p o.sense.waiting)
    wait q = ap (λ (x : Sensitivity). wait_of q x) sense

    same-process : (x y : Process) → Some x ≡ Some y → x ≡ y
    same-process x y e = cc

    nobody-in : (q : ℕ) → wait_of q o.sense ≡ None → (b : Bool) → nat_eq p q ≡ b → live_at q (without p o.sense.waiting) ≡ None
    nobody-in q none true is =
        ap (λ (k : ℕ). live_at k (without p o.sense.waiting)) (sym (eqb-true p q is)) ∙ live_without_same p 0 o.sense.waiting bound rise
    nobody-in q none false is = live_without_other p q o.sense.waiting is ∙ none

-- Nobody is handled by a number that nobody has.
nothing : (p : ℕ) (o : Scheduled) → process_at p o.processes ≡ None → Handled (λ q. nat_eq p q) o o
nothing p o none = record {
  waits = λ q is there. let no = sym (ap is_some (ap (λ (k : ℕ). process_at k o.processes) (sym (eqb-true p q is)) ∙ none)) ∙ there in absurd (cc);
  waiting = λ q is. refl;
  nobody = λ q h. h;
  others = λ q is. refl;
  gone = λ q s u is there has. let no = sym (ap (λ (k : ℕ). process_at k o.processes) (sym (eqb-true p q is)) ∙ none) ∙ there in absurd (cc);
  stays = λ s h. h;
  standing = λ s h. refl;
  next = refl;
  rise = λ bound h. h;
}

-- First these, then those, where what the first leave of a process has its entry or none.
both : (one two : ℕ → Bool) (o mid after : Scheduled) → Handled one o mid → Handled two mid after
    → ((p : ℕ) → one p ≡ true → (u : Process) → process_at p mid.processes ≡ Some u → u.entry ≡ None)
    → Handled (λ q. one q || two q) o after
both one two o mid after a b clean = record {
  waits = λ p is there. by p is there (one p) refl;
  waiting = λ p is. let h = or-false (one p) (two p) is in b.waiting p h.1 ∙ a.waiting p h.0;
  nobody = λ p h. b.nobody p (a.nobody p h);
  others = λ p is. let h = or-false (one p) (two p) is in b.others p h.1 ∙ a.others p h.0;
  gone = λ p s t is there has. gone-by p s t is there has (one p) refl;
  stays = λ s h. b.stays s (a.stays s h);
  standing = λ s apart. b.standing s (λ p t is there has. apart-by s apart p t is there has (one p) refl)
      ∙ a.standing s (λ p t is there has. apart p t (left p is) there has);
  next = b.next ∙ a.next;
  rise = λ bound h. b.rise bound (a.rise bound h);
}
  where
    left : (p : ℕ) → one p ≡ true → (one p || two p) ≡ true
    left p is = rw is refl

    second : (p : ℕ) → (one p || two p) ≡ true → one p ≡ false → two p ≡ true
    second p is off = rw off at is

    by : (p : ℕ) → (one p || two p) ≡ true → is_some (process_at p o.processes) ≡ true → (c : Bool) → one p ≡ c → wait_of p after.sense ≡ None
    by p is there true here = b.nobody p (a.waits p here there)
    by p is there false off = b.waits p (second p is off) (ap is_some (a.others p off) ∙ there)

    gone-by : (p s : ℕ) (t : Process) → (one p || two p) ≡ true → process_at p o.processes ≡ Some t → t.entry ≡ Some s → (c : Bool) → one p ≡ c → entry_of s after.queue ≡ None
    gone-by p s t is there has true here = b.stays s (a.gone p s t here there has)
    gone-by p s t is there has false off = b.gone p s t (second p is off) (a.others p off ∙ there) has

    apart-by : (s : ℕ) → ((p : ℕ) (t : Process) → (one p || two p) ≡ true → process_at p o.processes ≡ Some t → (t.entry ≡ Some s) → ⊥)
        → (p : ℕ) (t : Process) → two p ≡ true → process_at p mid.processes ≡ Some t → t.entry ≡ Some s → (c : Bool) → one p ≡ c → ⊥
    apart-by s apart p t is there has true here = let no = sym (clean p here t there) ∙ has in cc
    apart-by s apart p t is there has false off = apart p t (rw off is) (sym (a.others p off) ∙ there) has

none-handled : (o : Scheduled) → Handled (λ q. false) o o
none-handled o = record {
  waits = λ p is there. absurd (cc);
  waiting = λ p is. refl;
  nobody = λ p h. h;
  others = λ p is. refl;
  gone = λ p s t is there has. absurd (cc);
  stays = λ s h. h;
  standing = λ s h. refl;
  next = refl;
  rise = λ bound h. h;
}

-- Those that end.
ends-handled : (p : ℕ) (x : Option Process) (o : Scheduled) (bound : ℕ) → Rise 0 o.sense.waiting bound → process_at p o.processes ≡ x
    → Handled (λ q. nat_eq p q) o (ended_in x p o)
ends-handled p None o bound rise at = nothing p o at
ends-handled p (Some t) o bound rise at =
    halts p t o (ended_in (Some t) p o) bound rise at refl refl (λ q apart. live_without_other p q o.processes.all apart)

ends-gone : (p : ℕ) (x : Option Process) (o : Scheduled) → AreNumbered o.processes → process_at p o.processes ≡ x → process_at p (ended_in x p o).processes ≡ None
ends-gone p None o numbered at = at
ends-gone p (Some t) o numbered at = live_without_same p 0 o.processes.all o.processes.next numbered.rise

record Ended (xs : List ℕ) (o after : Scheduled) : Type 0 where
  handled : Handled (is_among xs) o after
  out : (p : ℕ) → is_among xs p ≡ true → process_at p after.processes ≡ None

ends-all : (xs : List ℕ) (o : Scheduled) (bound : ℕ) → AreNumbered o.processes → Rise 0 o.sense.waiting bound → Ended xs o (all_ended xs o)
unfolding all_ended
ends-all [] o bound numbered rise = record { handled = none-handled o; out = λ p is. absurd (cc) }
ends-all (x ∷ xs) o bound numbered rise =
    let mid = ended_in (process_at x o.processes) x o in
    let first = ends-handled x (process_at x o.processes) o bound rise refl in
    let none : process_at x mid.processes ≡ None = ends-gone x (process_at x o.processes) o numbered refl in
    let rest = ends-all xs mid bound ((ends-one x (process_at x o.processes) o).numbered numbered) (first.rise bound rise) in
    record {
      handled = both (λ q. nat_eq x q) (is_among xs) o mid (all_ended xs mid) first rest.handled
          (λ p is u there. let no = sym (ap (λ (k : ℕ). process_at k mid.processes) (sym (eqb-true x p is)) ∙ none) ∙ there in absurd (cc));
      out = λ p is. by mid none rest p is (is_among xs p) refl;
    }
  where
    by : (mid : Scheduled) → process_at x mid.processes ≡ None → Ended xs mid (all_ended xs mid) → (p : ℕ) → (nat_eq x p || is_among xs p) ≡ true → (b : Bool) → is_among xs p ≡ b
        → process_at p (all_ended xs mid).processes ≡ None
    by mid none rest p is true here = rest.out p here
    by mid none rest p is false off =
        rest.handled.others p off
        ∙ (ap (λ (k : ℕ). process_at k mid.processes) (sym (eqb-true x p (one (nat_eq x p) (rw off at is)))) ∙ none)
      where
        one : (b : Bool) → (b || false) ≡ true → b ≡ true
        one true h = refl
        one false h = h

-- Those that leave.
leaves-handled : (d : Shape) (target p : ℕ) (x : Option Process) (o : Scheduled) (bound : ℕ) → Rise 0 o.sense.waiting bound → process_at p o.processes ≡ x
    → Handled (λ q. nat_eq p q) o (left_in d target x p o)
leaves-handled d target p None o bound rise at = nothing p o at
leaves-handled d target p (Some t) o bound rise at =
    halts p t o (left_in d target (Some t) p o) bound rise at refl refl
    (λ q apart. at-changed p q (left_by d target) o.processes
    ∙ ap (λ (b : Bool). cond b (option_map (left_by d target) (process_at q o.processes)) (process_at q o.processes)) apart)

-- What has become of a process that leaves.
abbrev HasLeft : Shape → ℕ → Process → Option Process → Type 0
HasLeft d target t x = (u : Process) × (x ≡ Some u) × (u.left ≡ 0) × (u.parent ≡ t.parent) × (u.entry ≡ None) × (u.thread ≡ disabled d target t.thread)

leaves-one-at : (d : Shape) (target p : ℕ) (t : Process) (o : Scheduled) → process_at p o.processes ≡ Some t
    → HasLeft d target t (process_at p (left_in d target (Some t) p o).processes)
leaves-one-at d target p t o at = (
  left_by d target t,
  at-changed p p (left_by d target) o.processes
      ∙ (ap (λ (b : Bool). cond b (option_map (left_by d target) (process_at p o.processes)) (process_at p o.processes)) (eq-eqb p p refl)
      ∙ ap (λ (x : Option Process). option_map (left_by d target) x) at),
  refl,
  refl,
  refl,
  refl,
)

record Gone (d : Shape) (target : ℕ) (xs : List ℕ) (o after : Scheduled) : Type 0 where
  handled : Handled (is_among xs) o after
  left : (p : ℕ) (t : Process) → is_among xs p ≡ true → process_at p o.processes ≡ Some t → HasLeft d target t (process_at p after.processes)

leaves-all : (d : Shape) (target : ℕ) (xs : List ℕ) (o : Scheduled) (bound : ℕ) → Apart xs → Rise 0 o.sense.waiting bound → Gone d target xs o (all_left d target xs o)
unfolding all_left
leaves-all d target [] o bound apart rise = record { handled = none-handled o; left = λ p t is there. absurd (cc) }
leaves-all d target (x ∷ xs) o bound apart rise =
    let mid = left_in d target (process_at x o.processes) x o in
    let first = leaves-handled d target x (process_at x o.processes) o bound rise refl in
    let rest = leaves-all d target xs mid bound apart.1 (first.rise bound rise) in
    record {
      handled = both (λ q. nat_eq x q) (is_among xs) o mid (all_left d target xs mid) first rest.handled
          (λ p is u there. clean p is u (process_at x o.processes) refl there);
      left = λ p t is there. by rest first p t is there (is_among xs p) refl (nat_eq x p) refl;
    }
  where
    there-is : (t : Process) → process_at x o.processes ≡ Some t → HasLeft d target t (process_at x (left_in d target (process_at x o.processes) x o).processes)
    there-is t at =
        subst (λ (y : Option Process). HasLeft d target t (process_at x (left_in d target y x o).processes)) (sym at) (leaves-one-at d target x t o at)

    clean : (p : ℕ) → nat_eq x p ≡ true → (u : Process) (y : Option Process) → process_at x o.processes ≡ y
        → process_at p (left_in d target (process_at x o.processes) x o).processes ≡ Some u → u.entry ≡ None
    clean p is u None at there =
        let here = ap (λ (k : ℕ). process_at k (left_in d target (process_at x o.processes) x o).processes) (eqb-true x p is) ∙ there in
        let none : process_at x (left_in d target (process_at x o.processes) x o).processes ≡ None =
        ap (λ (y : Option Process). process_at x (left_in d target y x o).processes) at ∙ at in
        let no = sym none ∙ here in
        absurd (cc)
    clean p is u (Some t) at there =
        let here = ap (λ (k : ℕ). process_at k (left_in d target (process_at x o.processes) x o).processes) (eqb-true x p is) ∙ there in
        let h = there-is t at in
        ap (λ (y : Process). y.entry) (the-same u h.0 (sym here ∙ h.1)) ∙ h.4
      where
        the-same : (y z : Process) → Some y ≡ Some z → y ≡ z
        the-same y z e = cc

    by : Gone d target xs (left_in d target (process_at x o.processes) x o) (all_left d target xs (left_in d target (process_at x o.processes) x o))
        → Handled (λ q. nat_eq x q) o (left_in d target (process_at x o.processes) x o)
        → (p : ℕ) (t : Process) → (nat_eq x p || is_among xs p) ≡ true → process_at p o.processes ≡ Some t
        → (b : Bool) → is_among xs p ≡ b → (c : Bool) → nat_eq x p ≡ c
        → HasLeft d target t (process_at p (all_left d target xs (left_in d target (process_at x o.processes) x o)).processes)
    by rest first p t is there true on true here =
        let once = ap (λ (k : ℕ). is_among xs k) (eqb-true x p here) in
        let no = sym apart.0 ∙ (once ∙ on) in
        absurd (cc)
    by rest first p t is there true on false away = rest.left p t on (first.others p away ∙ there)
    by rest first p t is there false off true here =
        let at : process_at x o.processes ≡ Some t = ap (λ (k : ℕ). process_at k o.processes) (eqb-true x p here) ∙ there in
        let h = there-is t at in
        (h.0, rest.handled.others p off ∙ (ap (λ (k : ℕ). process_at k (left_in d target (process_at x o.processes) x o).processes) (sym (eqb-true x p here)) ∙ h.1), h.2, h.3, h.4, h.5)
    by rest first p t is there false off false away = let none = rw (away, off) at is in absurd (cc)

-- Those that go on.
record Resumes (among : ℕ → Bool) (b c : Queued) : Type 0 where
  others : (p : ℕ) → among p ≡ false → process_at p c.processes ≡ process_at p b.processes
  none : (p : ℕ) → process_at p b.processes ≡ None → process_at p c.processes ≡ None
  keeps : (p : ℕ) (t : Process) → process_at p b.processes ≡ Some t
      → (u : Process) × (process_at p c.processes ≡ Some u) × (u.left ≡ t.left) × (u.parent ≡ t.parent) × (u.thread ≡ t.thread)
  entries : (s : ℕ) → s < b.queue.next → entry_of s c.queue ≡ entry_of s b.queue
  rises : b.queue.next ≤ c.queue.next

stays-so : (among : ℕ → Bool) (b : Queued) → Resumes among b b
stays-so among b = record {
  others = λ p is. refl;
  none = λ p h. h;
  keeps = λ p t h. (t, h, refl, refl, refl);
  entries = λ s h. refl;
  rises = omega arith;
}

noted-so : (p serial : ℕ) (b : Queued) (q : Events) → q ≡ added (Some b.queue.time) region.Active (work.Evaluate p) b.queue
    → Resumes (λ k. nat_eq p k) b (queued (noted p serial b.processes) q)
noted-so p serial b q is = record {
  others = λ k away. at-changed p k (with_serial serial) b.processes
      ∙ ap (λ (c : Bool). cond c (option_map (with_serial serial) (process_at k b.processes)) (process_at k b.processes)) away;
  none = λ k h. at-changed p k (with_serial serial) b.processes ∙ none-by k h (nat_eq p k);
  keeps = λ k t h. keeps-by k t h (nat_eq p k) refl;
  entries = λ s below. ap (λ (x : Events). entry_of s x) is ∙ added-other _ _ _ b.queue s below;
  rises = omega (arith, ap (λ (x : Events). x.next) is);
}
  where
    none-by : (k : ℕ) → process_at k b.processes ≡ None → (c : Bool) → cond c (option_map (with_serial serial) (process_at k b.processes)) (process_at k b.processes) ≡ None
    none-by k h true = ap (λ (x : Option Process). option_map (with_serial serial) x) h
    none-by k h false = h

    keeps-by : (k : ℕ) (t : Process) → process_at k b.processes ≡ Some t → (c : Bool) → nat_eq p k ≡ c
        → (u : Process) × (process_at k (noted p serial b.processes) ≡ Some u) × (u.left ≡ t.left) × (u.parent ≡ t.parent) × (u.thread ≡ t.thread)
    keeps-by k t h true is = (
      with_serial serial t,
      at-changed p k (with_serial serial) b.processes
          ∙ (ap (λ (c : Bool). cond c (option_map (with_serial serial) (process_at k b.processes)) (process_at k b.processes)) is
          ∙ ap (λ (x : Option Process). option_map (with_serial serial) x) h),
      refl,
      refl,
      refl,
    )
    keeps-by k t h false is = (
      t,
      at-changed p k (with_serial serial) b.processes
          ∙ (ap (λ (c : Bool). cond c (option_map (with_serial serial) (process_at k b.processes)) (process_at k b.processes)) is ∙ h),
      refl,
      refl,
      refl,
    )

resumes-one : (own p : ℕ) (b c : Queued) (is : Bool) → (p == own) ≡ is → resumed_but own p b ≡ Ok c → Resumes (λ k. nat_eq p k) b c
resumes-one own p b c true is h =
    subst (Resumes (λ k. nat_eq p k) b) (ok-same b c (rw is at h)) (stays-so (λ k. nat_eq p k) b)
resumes-one own p b c false is h =
    let go = rw is at h in
    let q = ok-then (evaluated_now p b.queue) (λ q. Ok (queued (noted p b.queue.next b.processes) q)) c go in
    let more = unless-then (is_full b.queue) _ _ q.0 q.1 in
    subst (Resumes (λ k. nat_eq p k) b) (ok-same (queued (noted p b.queue.next b.processes) q.0) c q.2)
    (noted-so p b.queue.next b q.0 (sym (ok-same _ q.0 more)))

resumes-all : (own : ℕ) (xs : List ℕ) (b c : Queued) → all_resumed own xs b ≡ Ok c → Resumes (is_among xs) b c
unfolding all_resumed
resumes-all own [] b c h = subst (Resumes (is_among []) b) (ok-same b c h) (stays-so (is_among []) b)
resumes-all own (x ∷ xs) b c h =
    let m = ok-then (resumed_but own x b) (all_resumed own xs) c h in
    let one = resumes-one own x b m.0 (x == own) refl m.1 in
    let rest = resumes-all own xs m.0 c m.2 in
    record {
      others = λ p is. let f = or-false (nat_eq x p) (is_among xs p) is in rest.others p f.1 ∙ one.others p f.0;
      none = λ p h. rest.none p (one.none p h);
      keeps = λ p t h. let u = one.keeps p t h in let v = rest.keeps p u.0 u.1 in (v.0, v.1, v.2 ∙ u.2, v.3 ∙ u.3, v.4 ∙ u.4);
      entries = λ s below. rest.entries s (omega (arith, one.rises)) ∙ one.entries s below;
      rises = omega (arith, one.rises, rest.rises);
    }

-- The whole of it, where the one that executes it may have gone on meanwhile.
all-stopped : (d : Shape) (target own bound : ℕ) (ps : Processes) (before after : Scheduled) → AreNumbered ps → AreNumbered before.processes
    → ((p : ℕ) → is_some (process_at p before.processes) ≡ is_some (process_at p ps))
    → Rise 0 before.sense.waiting bound
    → disable_all d target own (stopped d target ps) before ≡ Ok after → Stops d target ps before after
all-stopped d target own bound ps before after numbered ahead same rise h =
    let E = (stopped d target ps).ends in
    let L = (stopped d target ps).leaves in
    let first = ends-all E before bound ahead rise in
    let mid = all_ended E before in
    let second = leaves-all d target L mid bound (leaves-apart d target ps numbered) (first.handled.rise bound rise) in
    let last = all_left d target L mid in
    let clean : (p : ℕ) → is_among E p ≡ true → (u : Process) → process_at p mid.processes ≡ Some u → u.entry ≡ None =
    λ p is u there. let no = sym (first.out p is) ∙ there in absurd (cc) in
    let all = both (is_among E) (is_among L) before mid last first.handled second.handled clean in
    let b = ok-then (all_resumed own L (queued last.processes last.queue)) _ after h in
    let on = resumes-all own L (queued last.processes last.queue) b.0 b.1 in
    let done = ok-same _ after b.2 in
    let find : (p : ℕ) → FindsWhoStops d target ps p = λ p. finds-all d target ps p numbered in
    let out : (p : ℕ) → Ends d target ps p → is_among L p ≡ false = λ p e. off p (find p) e (is_among L p) refl in
    let in_ : (p : ℕ) → Leaves d target ps p → is_among E p ≡ false = λ p l. off-ends p (find p) l (is_among E p) refl in
    let neither : (p : ℕ) → IsUntouched d target ps p → (is_among E p ≡ false) × (is_among L p ≡ false) =
    λ p u. (no-end p (find p) u (is_among E p) refl, no-leave p (find p) u (is_among L p) refl) in
    let among : (p : ℕ) → Ends d target ps p ⊎ Leaves d target ps p → (is_among E p || is_among L p) ≡ true =
    λ p x. ⊎_elim (λ e. one-true (is_among E p) (is_among L p) ((find p).all_ends e)) (λ l. two-true (is_among E p) (is_among L p) ((find p).all_leaves l)) x in
    let exists : (p : ℕ) → Ends d target ps p ⊎ Leaves d target ps p → is_some (process_at p before.processes) ≡ true =
    λ p x. same p ∙ ⊎_elim (λ (e : Ends d target ps p). ap is_some e.1.2) (λ (l : Leaves d target ps p). ap is_some l.0.1) x in
    let back : (p : ℕ) → (is_among E p || is_among L p) ≡ true → Ends d target ps p ⊎ Leaves d target ps p =
    λ p is. ⊎_elim (λ e. inl ((find p).ends e)) (λ l. inr ((find p).leaves l)) (or-cases (is_among E p) (is_among L p) is) in
    let small : (serial : ℕ) → serial < before.queue.next → serial < last.queue.next = λ serial below. omega (arith, all.next) in
    subst (Stops d target ps before) done (record {
      ended = λ p e. on.none p (second.handled.others p (out p e) ∙ first.out p ((find p).all_ends e));
      left = λ p t l there.
          let g = second.left p t ((find p).all_leaves l) (first.handled.others p (in_ p l) ∙ there) in
          let u = on.keeps p g.0 g.1 in
          (u.0, u.1, u.2 ∙ g.2, u.3 ∙ g.3, u.4 ∙ g.5);
      others = λ p u. let f = neither p u in on.others p f.1 ∙ all.others p (both-false (is_among E p) (is_among L p) f.0 f.1);
      waits = λ p x. all.waits p (among p x) (exists p x);
      waiting = λ p u. let f = neither p u in all.waiting p (both-false (is_among E p) (is_among L p) f.0 f.1);
      entries = λ p serial t x there has below. on.entries serial (small serial below) ∙ all.gone p serial t (among p x) there has;
      standing = λ serial below apart. on.entries serial (small serial below)
          ∙ all.standing serial (λ p t is there has. apart p t (back p is) there has);
    })
  where
    one-true : (a b : Bool) → a ≡ true → (a || b) ≡ true
    one-true true b h = refl
    one-true false b h = cc

    two-true : (a b : Bool) → b ≡ true → (a || b) ≡ true
    two-true true b h = refl
    two-true false b h = h

    both-false : (a b : Bool) → a ≡ false → b ≡ false → (a || b) ≡ false
    both-false true b h k = cc
    both-false false b h k = k

    off : (p : ℕ) → FindsWhoStops d target ps p → Ends d target ps p → (b : Bool) → is_among (stopped d target ps).leaves p ≡ b → is_among (stopped d target ps).leaves p ≡ false
    off p f e true is = absurd ((f.leaves is).1 e)
    off p f e false is = is

    off-ends : (p : ℕ) → FindsWhoStops d target ps p → Leaves d target ps p → (b : Bool) → is_among (stopped d target ps).ends p ≡ b → is_among (stopped d target ps).ends p ≡ false
    off-ends p f l true is = absurd (l.1 (f.ends is))
    off-ends p f l false is = is

    no-end : (p : ℕ) → FindsWhoStops d target ps p → IsUntouched d target ps p → (b : Bool) → is_among (stopped d target ps).ends p ≡ b → is_among (stopped d target ps).ends p ≡ false
    no-end p f u true is = absurd (u.0 (f.ends is))
    no-end p f u false is = is

    no-leave : (p : ℕ) → FindsWhoStops d target ps p → IsUntouched d target ps p → (b : Bool) → is_among (stopped d target ps).leaves p ≡ b → is_among (stopped d target ps).leaves p ≡ false
    no-leave p f u true is = absurd (u.1 (f.leaves is))
    no-leave p f u false is = is

-- The one that executes it is there as before.
passed-there : (d : Shape) (target p q : ℕ) (goes : Goes) (o : Option Process) (ps : Processes)
    → is_some (process_at q (before_disable_of d target p goes o ps)) ≡ is_some (process_at q ps)
passed-there d target p q goes None ps = refl
passed-there d target p q goes (Some t) ps = by (is_inside d target t.thread) refl
  where
    there : (b : Bool) (x : Option Process) → is_some (cond b (option_map (going goes) x) x) ≡ is_some x
    there true None = refl
    there true (Some u) = refl
    there false x = refl

    by : (b : Bool) → is_inside d target t.thread ≡ b → is_some (process_at q (before_disable_of d target p goes (Some t) ps)) ≡ is_some (process_at q ps)
    by true is = rw is refl
    by false is = rw is (ap is_some (at-changed p q (going goes) ps) ∙ there (nat_eq p q) (process_at q ps))

-- The label of a disable.
pub disable-stops : DisableStops
disable-stops d target p goes w s numbered waits h =
    let ps = arrived_in d p w.processes in
    let before = before_disable d target p goes ps in
    let here = (changes p (arriving d) w.processes (λ t. refl)).numbered numbered in
    let ahead = (passes d p target goes (process_at p ps) ps).numbered here in
    let x = ok-then (disabled_by d target p goes (scheduled ps w.sense w.queue)) _ s h in
    subst (λ (y : Step). Stops d target ps (scheduled before w.sense w.queue) (scheduled y.world.processes y.world.sense y.world.queue))
    (ok-same _ s x.2)
    (all-stopped d target p waits.0 ps (scheduled before w.sense w.queue) x.0 here ahead (λ q. passed-there d target p q goes (process_at p ps) ps) waits.1 x.1)

-- Each label keeps the processes by their numbers, and gives a branch the next one.
use Rattle.std.proofs.Common.{◌≡◌, ◌∙◌, ℕ, zero, suc, ◌+◌, ◌<◌, ◌≤◌, ◌⊎◌, ⊎_elim, inl, inr, List, [], ◌∷◌, Bool, true, false, ◌==◌, cond, map, length, Option, Some, None, is_some, Ok, nat_lt, refl, ap, sym, subst, arith}
use Rattle.std.specs.Prelude.{nat_eq, if◌then◌else◌}
use Rattle.std.specs.BTreeMap.{is_at}
use Rattle.std.specs.List.{range_with_len}
use Rattle.std.specs.Option.{option_map}
use Rattle.std.specs.Ordering.{nat_cmp}
use Rattle.std.proofs.lemmas.Bool.{eqb-true}
use Rattle.vh_base.specs.declared.faults.Fault.TheVariants as fault
use Rattle.vh_base.specs.declared.limits.TheConstants.{MOST_NUMBERS}
use Rattle.vh_callbacks.specs.Callbacks.{Rise, live_at, without}
use Rattle.vh_callbacks.specs.Callbacks as C
use Rattle.vh_callbacks.proofs.CallbacksLemmas.{known_below, rise_without, live_without_same, live_without_other, live_insert, rise_insert, rise_to, live_changed_same, live_changed_other, rise_changed}
use Rattle.vh_design_code.specs.declared.code.Goes.{Goes}
use Rattle.vh_design_code.specs.declared.code.Instruction.{Instruction}
use Rattle.vh_design_code.specs.declared.operation.Loop.TheVariants as turn
use Rattle.vh_design.specs.Shape.{Shape}
use Rattle.vh_proc_thread.specs.Control.{next_of, is_inside}
use Rattle.vh_proc_turn.specs.declared.process.Process.{Process}
use Rattle.vh_proc_turn.specs.Own.{Own, Turn, own_of, going, arriving}
use Rattle.vh_proc_turn.specs.Turns.{turn_of}
use Rattle.vh_proc.proofs.KinLemmas.{ok-same, ok-then, turn-kept, unless-then}
use Rattle.vh_proc.specs.Disabled.{Stopped, stopped, left_by, ended_in, left_in, all_ended, all_left, resumed_but, all_resumed, all_stopped, disable_all}
use Rattle.vh_proc.specs.Processes.{Processes, Queued, Scheduled, Step, World, opening, opening_process, queued, process_at, with_process, without_process, changed, changed_in, with_branch, branch, branch_in, branch_begun, branches_begun, evaluated_now, resumed, noted, with_serial, one_less, one_joined, joined_in, joined, gone_on, goes_behind, with_left}
use Rattle.vh_proc.specs.Steps.{step_of}
use Rattle.vh_proc.specs.Steps as S
use Rattle.vh_proc_laws.specs.Disable.{AreNumbered}
use Rattle.vh_proc_laws.specs.Laws.{OpensNumbered, KeepsNumbers, NotesNumbers, GivesFreshNumbers, NextNeverFalls}
use Rattle.vh_proc_laws.proofs.StepsLemmas.{AfterEach, after-step}

-- What some processes come to: they stay numbered, the next number doesn't fall, and each that is there was there before or has a fresh one.
pub record Grows (ps qs : Processes) : Type 0 where
  pub numbered : AreNumbered ps → AreNumbered qs
  pub rises : ps.next ≤ qs.next
  pub fresh : (q : ℕ) (t : Process) → process_at q qs ≡ Some t → (is_some (process_at q ps) ≡ true) ⊎ (ps.next ≤ q)

pub same : (ps : Processes) → Grows ps ps
same ps = record {
  numbered = λ h. h;
  rises = omega arith;
  fresh = λ q t h. inl (ap is_some h);
}

pub then_ : (ps qs rs : Processes) → Grows ps qs → Grows qs rs → Grows ps rs
then_ ps qs rs a b = record {
  numbered = λ h. b.numbered (a.numbered h);
  rises = omega (arith, a.rises, b.rises);
  fresh = λ q t h. ⊎_elim (λ (old : is_some (process_at q qs) ≡ true). known q (process_at q qs) refl old)
      (λ (new : qs.next ≤ q). inr (omega (arith, a.rises))) (b.fresh q t h);
}
  where
    known : (q : ℕ) (o : Option Process) → process_at q qs ≡ o → is_some (process_at q qs) ≡ true → (is_some (process_at q ps) ≡ true) ⊎ (ps.next ≤ q)
    known q None is there = let no = ap is_some (sym is) ∙ there in absurd (cc)
    known q (Some t) is there = a.fresh q t is

-- One is changed, and what has begun it stays.
all-changed : (p : ℕ) (f : Process → Process) (ps : Processes) (o : Option Process) → process_at p ps ≡ o
    → (changed_in o p f ps).all ≡ C.changed_by o f p ps.all
all-changed p f ps None is = refl
all-changed p f ps (Some t) is = refl

next-changed : (p : ℕ) (f : Process → Process) (ps : Processes) (o : Option Process) → (changed_in o p f ps).next ≡ ps.next
next-changed p f ps None = refl
next-changed p f ps (Some t) = refl

pub at-changed : (p q : ℕ) (f : Process → Process) (ps : Processes)
    → process_at q (changed p f ps) ≡ (if nat_eq p q then option_map f (process_at q ps) else process_at q ps)
at-changed p q f ps = ap (λ (es : List (ℕ × Process)). live_at q es) (all-changed p f ps (process_at p ps) refl) ∙ by (nat_eq p q) refl
  where
    by : (b : Bool) → nat_eq p q ≡ b → live_at q (C.changed f p ps.all) ≡ cond b (option_map f (process_at q ps)) (process_at q ps)
    by true is =
        let one : p ≡ q = eqb-true p q is in
        ap (λ (k : ℕ). live_at k (C.changed f p ps.all)) (sym one) ∙ (live_changed_same f p ps.all ∙ ap (λ (k : ℕ). option_map f (process_at k ps)) one)
    by false is = live_changed_other f p q ps.all is

mapped : (f : Process → Process) (o : Option Process) (t : Process) → option_map f o ≡ Some t → (u : Process) × (o ≡ Some u) × (t ≡ f u)
mapped f None t h = absurd (cc)
mapped f (Some u) t h = (u, refl, cc)

pub changes : (p : ℕ) (f : Process → Process) (ps : Processes) → ((t : Process) → (f t).parent ≡ t.parent) → Grows ps (changed p f ps)
changes p f ps keeps = record {
  numbered = λ h. record {
    rise = subst (λ (n : ℕ). Rise 0 (changed p f ps).all n) (sym (next-changed p f ps (process_at p ps)))
        (subst (λ (es : List (ℕ × Process)). Rise 0 es ps.next) (sym (all-changed p f ps (process_at p ps) refl)) (rise_changed f p 0 ps.all ps.next h.rise));
    begun = λ q r t at parent. by h q r t (nat_eq p q) (sym (at-changed p q f ps) ∙ at) parent;
  };
  rises = omega (arith, next-changed p f ps (process_at p ps));
  fresh = λ q t at. inl (known q t (nat_eq p q) (sym (at-changed p q f ps) ∙ at));
}
  where
    by : AreNumbered ps → (q r : ℕ) (t : Process) (b : Bool) → cond b (option_map f (process_at q ps)) (process_at q ps) ≡ Some t → t.parent ≡ Some r → r < q
    by h q r t true at parent =
        let m = mapped f (process_at q ps) t at in
        h.begun q r m.0 m.1 (sym (keeps m.0) ∙ (ap (λ (x : Process). x.parent) (sym m.2) ∙ parent))
    by h q r t false at parent = h.begun q r t at parent

    known : (q : ℕ) (t : Process) (b : Bool) → cond b (option_map f (process_at q ps)) (process_at q ps) ≡ Some t → is_some (process_at q ps) ≡ true
    known q t true at = let m = mapped f (process_at q ps) t at in ap is_some m.1
    known q t false at = ap is_some at

-- Another one in its position, which the same process has begun.
pub puts : (p : ℕ) (t u : Process) (ps : Processes) → process_at p ps ≡ Some t → u.parent ≡ t.parent → Grows ps (with_process p u ps)
puts p t u ps at keeps = record {
  numbered = λ h. record {
    rise = subst (λ (es : List (ℕ × Process)). Rise 0 es ps.next) (as-changed (process_at p ps) at) (rise_changed (λ _. u) p 0 ps.all ps.next h.rise);
    begun = λ q r x here parent. by h q r x (nat_eq p q) refl here parent;
  };
  rises = omega arith;
  fresh = λ q x here. inl (known q x (nat_eq p q) refl here);
}
  where
    as-changed : (o : Option Process) → o ≡ Some t → C.changed_by o (λ _. u) p ps.all ≡ (with_process p u ps).all
    as-changed None is = absurd (cc)
    as-changed (Some x) is = refl

    put-same : (q : ℕ) → nat_eq p q ≡ true → process_at q (with_process p u ps) ≡ Some u
    put-same q is =
        ap (λ (es : List (ℕ × Process)). live_at q es) (sym (as-changed (process_at p ps) at))
        ∙ (ap (λ (k : ℕ). live_at k (C.changed (λ _. u) p ps.all)) (sym (eqb-true p q is))
        ∙ (live_changed_same (λ _. u) p ps.all ∙ ap (λ (o : Option Process). option_map (λ _. u) o) at))

    put-other : (q : ℕ) → nat_eq p q ≡ false → process_at q (with_process p u ps) ≡ process_at q ps
    put-other q is =
        ap (λ (es : List (ℕ × Process)). live_at q es) (sym (as-changed (process_at p ps) at)) ∙ live_changed_other (λ _. u) p q ps.all is

    by : AreNumbered ps → (q r : ℕ) (x : Process) (b : Bool) → nat_eq p q ≡ b → process_at q (with_process p u ps) ≡ Some x → x.parent ≡ Some r → r < q
    by h q r x true is here parent =
        let one : Some u ≡ Some x = sym (put-same q is) ∙ here in
        let as-u : u.parent ≡ Some r = ap (λ (y : Process). y.parent) (the-same u x one) ∙ parent in
        subst (λ (k : ℕ). r < k) (eqb-true p q is) (h.begun p r t at (sym keeps ∙ as-u))
      where
        the-same : (y z : Process) → Some y ≡ Some z → y ≡ z
        the-same y z e = cc
    by h q r x false is here parent = h.begun q r x (sym (put-other q is) ∙ here) parent

    known : (q : ℕ) (x : Process) (b : Bool) → nat_eq p q ≡ b → process_at q (with_process p u ps) ≡ Some x → is_some (process_at q ps) ≡ true
    known q x true is here = ap (λ (k : ℕ). is_some (process_at k ps)) (sym (eqb-true p q is)) ∙ ap is_some at
    known q x false is here = ap is_some (sym (put-other q is) ∙ here)

-- One is gone.
pub removes : (p : ℕ) (ps : Processes) → Grows ps (without_process p ps)
removes p ps = record {
  numbered = λ h. record {
    rise = rise_without p 0 ps.all ps.next h.rise;
    begun = λ q r t at parent. h.begun q r t (stays h.rise q t at (nat_eq p q) refl) parent;
  };
  rises = omega arith;
  fresh = λ q t at. inl (was q t at);
}
  where
    stays : Rise 0 ps.all ps.next → (q : ℕ) (t : Process) → process_at q (without_process p ps) ≡ Some t → (b : Bool) → nat_eq p q ≡ b → process_at q ps ≡ Some t
    stays rise q t at true is =
        let none : process_at p (without_process p ps) ≡ None = live_without_same p 0 ps.all ps.next rise in
        let no = sym (ap (λ (k : ℕ). process_at k (without_process p ps)) (eqb-true p q is)) ∙ none in
        absurd (cc)
    stays rise q t at false is = sym (live_without_other p q ps.all is) ∙ at

    was : (q : ℕ) (t : Process) → process_at q (without_process p ps) ≡ Some t → is_some (process_at q ps) ≡ true
    was q t at = was-in q t ps.all at
      where
        was-in : (q : ℕ) (t : Process) (es : List (ℕ × Process)) → live_at q (without p es) ≡ Some t → is_some (live_at q es) ≡ true
        was-in q t [] at = absurd (cc)
        was-in q t (e ∷ es) at = by (λ h. was-in q t es h) (is_at (nat_cmp p) e.0) refl (is_at (nat_cmp q) e.0) refl
          where
            by : (live_at q (without p es) ≡ Some t → is_some (live_at q es) ≡ true)
                → (b : Bool) → is_at (nat_cmp p) e.0 ≡ b → (c : Bool) → is_at (nat_cmp q) e.0 ≡ c → is_some (live_at q (e ∷ es)) ≡ true
            by rest b isb true isc = rw isc refl
            by rest true isb false isc = rw isc (ap is_some (rw isb at at))
            by rest false isb false isc = rw isc (rest (rw (isb, isc) at at))

-- A branch more, which a process that is there has begun.
pub inserts : (p : ℕ) (t u : Process) (ps : Processes) → process_at p ps ≡ Some t → u.parent ≡ Some p → Grows ps (with_branch ps.next u ps)
inserts p t u ps at parent = record {
  numbered = λ h. record {
    rise = rise_insert ps.next 0 u ps.all (ps.next + 1) (omega arith) (omega arith) (rise_to 0 ps.all ps.next (ps.next + 1) (omega arith) h.rise);
    begun = λ q r x here begun. by h q r x (nat_eq ps.next q) refl (sym (live_insert ps.next q u ps.all) ∙ here) begun;
  };
  rises = omega arith;
  fresh = λ q x here. was q x (nat_eq ps.next q) refl (sym (live_insert ps.next q u ps.all) ∙ here);
}
  where
    by : AreNumbered ps → (q r : ℕ) (x : Process) (b : Bool) → nat_eq ps.next q ≡ b → cond b (Some u) (process_at q ps) ≡ Some x → x.parent ≡ Some r → r < q
    by h q r x true is here begun =
        let one : p ≡ r = number-same p r (sym parent ∙ (ap (λ (y : Process). y.parent) (the-same u x here) ∙ begun)) in
        let below : p < ps.next = known_below p 0 ps.all ps.next h.rise (ap is_some at) in
        let new = eqb-true ps.next q is in
        omega (arith, one, below, new)
      where
        the-same : (y z : Process) → Some y ≡ Some z → y ≡ z
        the-same y z e = cc

        number-same : (m n : ℕ) → Some m ≡ Some n → m ≡ n
        number-same m n e = cc
    by h q r x false is here begun = h.begun q r x here begun

    was : (q : ℕ) (x : Process) (b : Bool) → nat_eq ps.next q ≡ b → cond b (Some u) (process_at q ps) ≡ Some x → (is_some (process_at q ps) ≡ true) ⊎ (ps.next ≤ q)
    was q x true is here = let one = eqb-true ps.next q is in inr (omega (arith, one))
    was q x false is here = inl (ap is_some here)

-- Who goes on by an entry, begins, or joins.
pub resumes : (p : ℕ) (b c : Queued) → resumed p b ≡ Ok c → Grows b.processes c.processes
resumes p b c h =
    let q = ok-then (evaluated_now p b.queue) (λ q. Ok (queued (noted p b.queue.next b.processes) q)) c h in
    subst (λ (x : Queued). Grows b.processes x.processes) (ok-same (queued (noted p b.queue.next b.processes) q.0) c q.2)
    (changes p (with_serial b.queue.next) b.processes (λ t. refl))

begins-in : (o : Option Process) (p serial position : ℕ) (ps : Processes) → process_at p ps ≡ o → Grows ps (branch_in o p serial position ps)
begins-in None p serial position ps at = same ps
begins-in (Some t) p serial position ps at = inserts p t (branch p t serial position) ps at refl

begins-one : (p position : ℕ) (b c : Queued) → branch_begun p position b ≡ Ok c → Grows b.processes c.processes
begins-one p position b c h =
    let go = unless-then (nat_lt MOST_NUMBERS b.processes.next) (Some fault.F3) _ c h in
    let q = ok-then (evaluated_now b.processes.next b.queue)
    (λ q. Ok (queued (branch_in (process_at p b.processes) p b.queue.next position b.processes) q)) c go in
    subst (λ (x : Queued). Grows b.processes x.processes)
    (ok-same (queued (branch_in (process_at p b.processes) p b.queue.next position b.processes) q.0) c q.2)
    (begins-in (process_at p b.processes) p b.queue.next position b.processes refl)

begins : (p : ℕ) (ks : List ℕ) (b c : Queued) → branches_begun p ks b ≡ Ok c → Grows b.processes c.processes
unfolding branches_begun
begins p [] b c h = subst (λ (x : Queued). Grows b.processes x.processes) (ok-same b c h) (same b.processes)
begins p (k ∷ ks) b c h =
    let m = ok-then (branch_begun p k b) (branches_begun p ks) c h in
    then_ b.processes m.0.processes c.processes (begins-one p k b m.0 m.1) (begins p ks m.0 c m.2)

joins-one : (d : Shape) (p : ℕ) (t : Process) (b c : Queued) (more : Bool) → nat_lt 1 t.left ≡ more → one_joined d p t b ≡ Ok c → Grows b.processes c.processes
joins-one d p t b c true is h = subst (λ (x : Queued). Grows b.processes x.processes) (ok-same b c (rw is at h)) (same b.processes)
joins-one d p t b c false is h =
    let goes = goes_behind (next_of d t.thread) in
    then_ b.processes (gone_on p goes b.processes) c.processes
    (changes p (going goes) b.processes (λ x. refl))
    (resumes p (queued (gone_on p goes b.processes) b.queue) c (rw is at h))

joins-in : (d : Shape) (o : Option Process) (p : ℕ) (b c : Queued) → joined_in d o p b ≡ Ok c → Grows b.processes c.processes
joins-in d None p b c h = subst (λ (x : Queued). Grows b.processes x.processes) (ok-same b c h) (same b.processes)
joins-in d (Some t) p b c h =
    then_ b.processes (changed p one_less b.processes) c.processes (changes p one_less b.processes (λ x. refl))
    (joins-one d p t (queued (changed p one_less b.processes) b.queue) c (nat_lt 1 t.left) refl h)

joins : (d : Shape) (o : Option ℕ) (b c : Queued) → joined d o b ≡ Ok c → Grows b.processes c.processes
joins d None b c h = subst (λ (x : Queued). Grows b.processes x.processes) (ok-same b c h) (same b.processes)
joins d (Some p) b c h = joins-in d (process_at p b.processes) p b c h

-- A label that touches no other process leaves its parent.
parent-kept : (d : Shape) (p : ℕ) (i : Instruction) (o : Own) (turn : Turn) → turn_of d p i o ≡ Ok turn
    → turn.own.process.parent ≡ o.process.parent
parent-kept d p i o turn h = ap (λ (k : Option ℕ × ℕ). k.0) (turn-kept d p i o turn h)

-- What a disable does.
pub ends-one : (p : ℕ) (t : Option Process) (o : Scheduled) → Grows o.processes (ended_in t p o).processes
ends-one p None o = same o.processes
ends-one p (Some t) o = removes p o.processes

ends-all : (ps : List ℕ) (o : Scheduled) → Grows o.processes (all_ended ps o).processes
unfolding all_ended
ends-all [] o = same o.processes
ends-all (p ∷ ps) o =
    let mid = ended_in (process_at p o.processes) p o in
    then_ o.processes mid.processes (all_ended ps mid).processes (ends-one p (process_at p o.processes) o) (ends-all ps mid)

pub leaves-one : (d : Shape) (target p : ℕ) (t : Option Process) (o : Scheduled) → Grows o.processes (left_in d target t p o).processes
leaves-one d target p None o = same o.processes
leaves-one d target p (Some t) o = changes p (left_by d target) o.processes (λ x. refl)

leaves-all : (d : Shape) (target : ℕ) (ps : List ℕ) (o : Scheduled) → Grows o.processes (all_left d target ps o).processes
unfolding all_left
leaves-all d target [] o = same o.processes
leaves-all d target (p ∷ ps) o =
    let mid = left_in d target (process_at p o.processes) p o in
    then_ o.processes mid.processes (all_left d target ps mid).processes (leaves-one d target p (process_at p o.processes) o) (leaves-all d target ps mid)

pub resumes-but : (own p : ℕ) (b c : Queued) (is : Bool) → (p == own) ≡ is → resumed_but own p b ≡ Ok c → Grows b.processes c.processes
resumes-but own p b c true is h = subst (λ (x : Queued). Grows b.processes x.processes) (ok-same b c (rw is at h)) (same b.processes)
resumes-but own p b c false is h = resumes p b c (rw is at h)

resumes-all : (own : ℕ) (ps : List ℕ) (b c : Queued) → all_resumed own ps b ≡ Ok c → Grows b.processes c.processes
unfolding all_resumed
resumes-all own [] b c h = subst (λ (x : Queued). Grows b.processes x.processes) (ok-same b c h) (same b.processes)
resumes-all own (p ∷ ps) b c h =
    let m = ok-then (resumed_but own p b) (all_resumed own ps) c h in
    then_ b.processes m.0.processes c.processes (resumes-but own p b m.0 (p == own) refl m.1) (resumes-all own ps m.0 c m.2)

disables : (d : Shape) (target own : ℕ) (found : Stopped) (o after : Scheduled) → disable_all d target own found o ≡ Ok after
    → Grows o.processes after.processes
disables d target own found o after h =
    let mid = all_stopped d target found o in
    let b = ok-then (all_resumed own found.leaves (queued mid.processes mid.queue)) _ after h in
    then_ o.processes mid.processes after.processes
    (then_ o.processes (all_ended found.ends o).processes mid.processes (ends-all found.ends o) (leaves-all d target found.leaves (all_ended found.ends o)))
    (subst (λ (x : Scheduled). Grows mid.processes x.processes) (ok-same _ after b.2) (resumes-all own found.leaves (queued mid.processes mid.queue) b.0 b.1))

-- The process that executes a disable goes on, where it isn't inside itself.
pub passes : (d : Shape) (p target : ℕ) (goes : Goes) (o : Option Process) (ps : Processes) → Grows ps (S.before_disable_of d target p goes o ps)
passes d p target goes None ps = same ps
passes d p target goes (Some u) ps = by (is_inside d target u.thread) refl
  where
    by : (b : Bool) → is_inside d target u.thread ≡ b → Grows ps (S.before_disable_of d target p goes (Some u) ps)
    by true is = subst (Grows ps) (sym (rw is refl)) (same ps)
    by false is = subst (Grows ps) (sym (rw is refl)) (changes p (going goes) ps (λ x. refl))

-- Each label.
module _ (d : Shape) (p : ℕ) (t : Process) (i : Instruction) (w : World) (at : process_at p w.processes ≡ Some t) where
  alone-grows : (s : Step) → S.alone d p t i w ≡ Ok s → Grows w.processes s.world.processes
  alone-grows s h =
      let x = ok-then (S.own_turn d p t i w) _ s h in
      subst (λ (y : Step). Grows w.processes y.world.processes) (ok-same _ s x.2)
      (puts p t x.0.own.process w.processes at (parent-kept d p i (own_of t w.store w.sense w.queue) x.0 x.1))

  initial-grows : (s : Step) → S.initializing d p t i w ≡ Ok s → Grows w.processes s.world.processes
  initial-grows s h =
      let x = ok-then (S.own_turn d p t i w) _ s h in
      let mid = with_process p x.0.own.process w.processes in
      subst (λ (y : Step). Grows w.processes y.world.processes) (ok-same _ s x.2)
      (then_ w.processes mid (without_process p mid)
      (puts p t x.0.own.process w.processes at (parent-kept d p i (own_of t w.store w.sense w.queue) x.0 x.1)) (removes p mid))

  ending-grows : (s : Step) → S.ending d p t w ≡ Ok s → Grows w.processes s.world.processes
  ending-grows s h =
      let gone = without_process p w.processes in
      let x = ok-then (joined d t.parent (queued gone w.queue)) _ s h in
      subst (λ (y : Step). Grows w.processes y.world.processes) (ok-same _ s x.2)
      (then_ w.processes gone x.0.processes (removes p w.processes) (joins d t.parent (queued gone w.queue) x.0 x.1))

  forks : (goes : Goes) (ks : List ℕ) (b c : Queued) → S.forked d p goes ks b ≡ Ok c → Grows b.processes c.processes
  forks goes [] b c h =
      subst (λ (x : Queued). Grows b.processes x.processes) (ok-same _ c h) (changes p (going goes) b.processes (λ x. refl))
  forks goes (k ∷ ks) b c h =
      let mid = changed p (with_left (length (k ∷ ks))) b.processes in
      then_ b.processes mid c.processes (changes p (with_left (length (k ∷ ks))) b.processes (λ x. refl)) (begins p (k ∷ ks) (queued mid b.queue) c h)

  forking-grows : (goes : Goes) (ks : List ℕ) (s : Step) → S.forking d p goes ks w ≡ Ok s → Grows w.processes s.world.processes
  forking-grows goes ks s h =
      let arrived = changed p (arriving d) w.processes in
      let x = ok-then (S.forked d p goes ks (queued arrived w.queue)) _ s h in
      subst (λ (y : Step). Grows w.processes y.world.processes) (ok-same _ s x.2)
      (then_ w.processes arrived x.0.processes (changes p (arriving d) w.processes (λ y. refl)) (forks goes ks (queued arrived w.queue) x.0 x.1))

  disabling-grows : (target : ℕ) (goes : Goes) (s : Step) → S.disabling d target p goes w ≡ Ok s → Grows w.processes s.world.processes
  disabling-grows target goes s h =
      let arrived = changed p (arriving d) w.processes in
      let before = S.before_disable d target p goes arrived in
      let x = ok-then (S.disabled_by d target p goes _) _ s h in
      subst (λ (y : Step). Grows w.processes y.world.processes) (ok-same _ s x.2)
      (then_ w.processes arrived x.0.processes (changes p (arriving d) w.processes (λ y. refl))
      (then_ arrived before x.0.processes (passes d p target goes (process_at p arrived) arrived)
      (disables d target p (stopped d target arrived) _ x.0 x.1)))

  each-grows : AfterEach (λ v. Grows w.processes v.processes) d p t i w
  each-grows = record {
    own = alone-grows;
    initial = initial-grows;
    ends = ending-grows;
    forks = forking-grows;
    disables = disabling-grows;
  }

pub grows : (d : Shape) (p : ℕ) (w : World) (s : Step) → step_of d p w ≡ Ok s → Grows w.processes s.world.processes
grows d p w = after-step (λ v. Grows w.processes v.processes) d p w (λ t at i. each-grows d p t i w at)

pub keeps-numbers : KeepsNumbers
keeps-numbers d p w s numbered h = (grows d p w s h).numbered numbered

pub notes-numbers : NotesNumbers
notes-numbers p serial ps numbered = (changes p (with_serial serial) ps (λ t. refl)).numbered numbered

pub gives-fresh-numbers : GivesFreshNumbers
gives-fresh-numbers d p q t w s numbered h at = (grows d p w s h).fresh q t at

pub next-never-falls : NextNeverFalls
next-never-falls d p w s numbered h = (grows d p w s h).rises

-- The processes of a design.
opening-rise : (d : Shape) (from n : ℕ) → Rise from (map (λ k. (k, opening_process d k)) (range_with_len from n)) (from + n)
opening-rise d from zero = omega arith
opening-rise d from (suc n) =
    let more : from + 1 + n ≡ from + suc n = omega arith in
    (omega arith, subst (Rise (from + 1) (map (λ k. (k, opening_process d k)) (range_with_len (from + 1) n))) more (opening-rise d (from + 1) n))

opening-parent : (d : Shape) (q : ℕ) (t : Process) (ks : List ℕ) → live_at q (map (λ k. (k, opening_process d k)) ks) ≡ Some t → t.parent ≡ None
opening-parent d q t [] at = absurd (cc)
opening-parent d q t (k ∷ ks) at = by (λ h. opening-parent d q t ks h) (is_at (nat_cmp q) k) refl
  where
    the-same : (x y : Process) → Some x ≡ Some y → x ≡ y
    the-same x y e = cc

    by : (live_at q (map (λ k. (k, opening_process d k)) ks) ≡ Some t → t.parent ≡ None) → (b : Bool) → is_at (nat_cmp q) k ≡ b → t.parent ≡ None
    by rest true is = ap (λ (x : Process). x.parent) (sym (the-same (opening_process d k) t (rw is at at)))
    by rest false is = rest (rw is at at)

pub opens-numbered : OpensNumbered
opens-numbered d = record {
  rise = subst (Rise 0 (opening d).all) (zero-plus (length d.codes)) (opening-rise d 0 (length d.codes));
  begun = λ q r t at parent. let none = opening-parent d q t (range_with_len 0 (length d.codes)) at in absurd (cc);
}
  where
    zero-plus : (n : ℕ) → 0 + n ≡ n
    zero-plus n = omega arith

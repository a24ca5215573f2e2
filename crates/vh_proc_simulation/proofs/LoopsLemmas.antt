-- One turn of the loops over changes, processes that are woken and values.
use Rattle.std.proofs.Common.{◌≡◌, ◌≢◌, ◌∙◌, ◌<◌, ◌+◌, ◌&&◌, ℕ, zero, suc, List, [], ◌∷◌, length, drop, get_or, Bool, true, false, Option, None, Result, Ok, refl, sym, ap, arith, nat_le, nat_lt}
use Rattle.std.proofs.lemmas.Bool.{or_from, lt-leb, le-ltb}
use Rattle.std.proofs.lemmas.List.{length-append}
use Rattle.std.proofs.Math.Seq.{drop-cons}
use Rattle.std.specs.Prelude.{filter}
use Rattle.vh_proc_assign.specs.Assigned.{is_same_value}
use Rattle.vh_base.specs.Checks.{with_ok}
use Rattle.vh_base.specs.declared.faults.Fault.{Fault}
use Rattle.vh_base.specs.declared.limits.TheConstants.{MOST_ENTRIES, MOST_NUMBERS}
use Rattle.vh_design_code.specs.declared.change.Made.{Made}
use Rattle.vh_design.specs.Shape.{Shape}
use Rattle.vh_logic.specs.Vector.{Vector}
use Rattle.vh_proc.specs.Processes.{Processes, Queued, Scheduled, queued, scheduled, resumed}
use Rattle.vh_queue.specs.Events.{is_full}
use Rattle.vh_sense.specs.declared.follow.Follow.{Follow}
use Rattle.vh_sense.specs.Laws.{those_behind}
use Rattle.vh_sense.specs.Sensitivity.{is_above, without_wait}
use Rattle.vh_proc_simulation.specs.Activity.{evaluations}
use Rattle.vh_proc_simulation.specs.Follows.{Followed, one_followed, all_followed}
use Rattle.vh_store.specs.Contents.{Contents}
use Rattle.vh_proc_simulation.specs.Entries.{Scheduling, woken_one, all_woken, entered_by, all_entered}
use Rattle.vh_proc_simulation.specs.Labels.{are_same}
use Rattle.vh_proc_turn.specs.declared.fault.StepFault.{StepFault}
use Rattle.vh_proc_turn.specs.declared.fault.StepFault.TheVariants as step
use Rattle.vh_proc_turn.specs.Own.{FailsBy}

-- The element at a place, and those behind it.
pub next-drop : {X : Type 0} (xs : List X) (k : ℕ) (x : X) → k < length xs → drop k xs ≡ get_or xs k x ∷ drop (k + 1) xs
next-drop {X} xs k x inside = drop-cons xs k x inside ∙ ap (λ (n : ℕ). get_or xs k x ∷ drop n xs) next
  where
    next : suc k ≡ k + 1
    next = omega arith

pub next-woken : (p : ℕ) (ps all : List ℕ) (o v : Scheduled) → all ≡ p ∷ ps → woken_one p o ≡ Ok v → all_woken ps v ≡ all_woken all o
unfolding all_woken
next-woken p ps all o v is done =
    sym (ap (λ (r : Result Scheduled (Option Fault)). with_ok r (all_woken ps)) done) ∙ ap (λ (qs : List ℕ). all_woken qs o) (sym is)

pub none-woken : (all : List ℕ) (o : Scheduled) → all ≡ [] → all_woken all o ≡ Ok o
unfolding all_woken
none-woken all o is = ap (λ (qs : List ℕ). all_woken qs o) is

pub next-entered : (d : Shape) (s : Contents) (m : Made) (ms all : List Made) (a b : Scheduling) → all ≡ m ∷ ms → entered_by d s m.change a ≡ Ok b
    → all_entered d s ms b ≡ all_entered d s all a
unfolding all_entered
next-entered d s m ms all a b is done =
    sym (ap (λ (r : Result Scheduling (Option Fault)). with_ok r (all_entered d s ms)) done) ∙ ap (λ (ns : List Made). all_entered d s ns a) (sym is)

-- All that are woken are above none.
pub above-none : (ps : List ℕ) → filter (is_above None) ps ≡ ps
above-none [] = refl
above-none (p ∷ ps) = ap (λ (qs : List ℕ). p ∷ qs) (above-none ps)

-- Values of lists of other lengths aren't the same.
pub not-same : (vs ws : List Vector) → length vs ≢ length ws → are_same vs ws ≡ false
not-same [] [] apart = absurd (apart refl)
not-same [] (w ∷ ws) apart = refl
not-same (v ∷ vs) [] apart = refl
not-same (v ∷ vs) (w ∷ ws) apart =
    ap (λ (b : Bool). is_same_value v w && b) (not-same vs ws (λ same. apart (ap suc same))) ∙ and_no (is_same_value v w)
  where
    and_no : (b : Bool) → (b && false) ≡ false
    and_no true = refl
    and_no false = refl

-- There is room for the entry of one process more.
evaluations-next : (n : ℕ) (ps : Processes) → (evaluations n ps).queue.next ≡ n + 1
evaluations-next zero ps = refl
evaluations-next (suc n) ps = let h = evaluations-next n ps in omega arith

evaluations-length : (n : ℕ) (ps : Processes) → length (evaluations n ps).queue.entries ≡ n
evaluations-length zero ps = refl
evaluations-length (suc n) ps = let h = evaluations-length n ps in length-append (evaluations n ps).queue.entries _ ∙ omega arith

pub evaluations-time : (n : ℕ) (ps : Processes) → (evaluations n ps).queue.time ≡ 0
evaluations-time zero ps = refl
evaluations-time (suc n) ps = evaluations-time n ps

pub evaluations-room : (n : ℕ) (ps : Processes) → n < MOST_ENTRIES → is_full (evaluations n ps).queue ≡ false
evaluations-room n ps below =
    let size = evaluations-length n ps in let next = evaluations-next n ps in
    or_from (nat_le MOST_ENTRIES (length (evaluations n ps).queue.entries)) (nat_lt MOST_NUMBERS (evaluations n ps).queue.next)
    (lt-leb MOST_ENTRIES (length (evaluations n ps).queue.entries) (omega (arith, size, below)))
    (le-ltb MOST_NUMBERS (evaluations n ps).queue.next (omega (arith, next, below)))

-- What isn't done for one isn't done for all.
pub fails-woken : (p : ℕ) (ps all : List ℕ) (o : Scheduled) (e : StepFault) → all ≡ p ∷ ps
    → FailsBy (resumed p (queued o.processes o.queue)) e → FailsBy (all_woken all o) e
unfolding all_woken
fails-woken p ps all o (step.Run f) is fails =
    ap (λ (qs : List ℕ). all_woken qs o) is
    ∙ ap (λ (r : Result Queued (Option Fault)). with_ok (with_ok r (λ b. Ok (scheduled b.processes (without_wait p o.sense) b.queue))) (all_woken ps)) fails
fails-woken p ps all o step.NoMemory is fails = tt

-- Nor are those whose first ones aren't.
pub next-same : (vs ws : List Vector) (i : ℕ) (x y : Vector) → i < length vs → i < length ws
    → are_same (drop i vs) (drop i ws) ≡ (is_same_value (get_or vs i x) (get_or ws i y) && are_same (drop (i + 1) vs) (drop (i + 1) ws))
next-same vs ws i x y in_vs in_ws = rw (next-drop vs i x in_vs, next-drop ws i y in_ws) refl

-- One turn over what follows a change.
pub next-followed : (s : Contents) (f : Follow) (fs all : List Follow) (b c : Followed) → all ≡ f ∷ fs → one_followed s f b ≡ Ok c
    → all_followed s fs c ≡ all_followed s all b
unfolding all_followed
next-followed s f fs all b c is done =
    sym (ap (λ (r : Result Followed (Option Fault)). with_ok r (all_followed s fs)) done) ∙ ap (λ (gs : List Follow). all_followed s gs b) (sym is)

pub none-followed : (s : Contents) (all : List Follow) (b : Followed) → all ≡ [] → all_followed s all b ≡ Ok b
unfolding all_followed
none-followed s all b is = ap (λ (gs : List Follow). all_followed s gs b) is

pub fails-followed : (s : Contents) (f : Follow) (fs all : List Follow) (b : Followed) (e : StepFault) → all ≡ f ∷ fs
    → FailsBy (one_followed s f b) e → FailsBy (all_followed s all b) e
unfolding all_followed
fails-followed s f fs all b (step.Run g) is fails =
    ap (λ (gs : List Follow). all_followed s gs b) is ∙ ap (λ (r : Result Followed (Option Fault)). with_ok r (all_followed s fs)) fails
fails-followed s f fs all b step.NoMemory is fails = tt

pub behind-none : (fs : List Follow) → those_behind None fs ≡ fs
behind-none [] = refl
behind-none (f ∷ fs) = ap (λ (gs : List Follow). f ∷ gs) (behind-none fs)

-- One turn of the loops over the processes that are begun, stopped or resumed.
use Rattle.std.proofs.Common.{◌≡◌, ◌∙◌, ◌<◌, ◌+◌, ℕ, zero, suc, List, [], ◌∷◌, length, map, drop, get_or, Option, None, Result, Ok, sym, ap, arith}
use Rattle.std.proofs.Math.Seq.{drop-cons}
use Rattle.std.specs.BTreeMap.{insert_entry}
use Rattle.std.specs.Cmp.{nat_cmp_is}
use Rattle.std.specs.declared.cmp.Ordering.{Ordering}
use Rattle.std.specs.declared.cmp.Ordering.TheVariants.{Greater}
use Rattle.std.specs.List.{range_with_len}
use Rattle.std.specs.Ordering.{nat_cmp, match_ordering}
use Rattle.vh_base.specs.Checks.{with_ok}
use Rattle.vh_base.specs.declared.faults.Fault.{Fault}
use Rattle.vh_design.specs.Shape.{Shape}
use Rattle.vh_proc.specs.Disabled.{ended_in, left_in, all_ended, all_left, resumed_but, all_resumed}
use Rattle.vh_proc_thread.specs.Control.{Control, process_of}
use Rattle.vh_proc_turn.specs.declared.process.Process.{Process}
use Rattle.vh_proc.specs.Processes.{Queued, Scheduled, process_at, opening_process, branch_begun, branches_begun}

-- The element at a position, and those behind it.
pub next-drop : {X : Type 0} (xs : List X) (k : ℕ) (x : X) → k < length xs → drop k xs ≡ get_or xs k x ∷ drop (k + 1) xs
next-drop {X} xs k x inside = drop-cons xs k x inside ∙ ap (λ (n : ℕ). get_or xs k x ∷ drop n xs) next
  where
    next : suc k ≡ k + 1
    next = omega arith

pub next-ended : (p : ℕ) (ps all : List ℕ) (o v : Scheduled) → all ≡ p ∷ ps → v ≡ ended_in (process_at p o.processes) p o → all_ended ps v ≡ all_ended all o
unfolding all_ended
next-ended p ps all o v is ended = ap (all_ended ps) ended ∙ ap (λ (qs : List ℕ). all_ended qs o) (sym is)

pub next-left : (d : Shape) (target p : ℕ) (ps all : List ℕ) (o v : Scheduled) → all ≡ p ∷ ps → v ≡ left_in d target (process_at p o.processes) p o
    → all_left d target ps v ≡ all_left d target all o
unfolding all_left
next-left d target p ps all o v is left = ap (all_left d target ps) left ∙ ap (λ (qs : List ℕ). all_left d target qs o) (sym is)

pub next-resumed : (own p : ℕ) (ps all : List ℕ) (b c : Queued) → all ≡ p ∷ ps → resumed_but own p b ≡ Ok c → all_resumed own ps c ≡ all_resumed own all b
unfolding all_resumed
next-resumed own p ps all b c is done =
    sym (ap (λ (r : Result Queued (Option Fault)). with_ok r (all_resumed own ps)) done) ∙ ap (λ (qs : List ℕ). all_resumed own qs b) (sym is)

pub next-begun : (p k : ℕ) (ks all : List ℕ) (b c : Queued) → all ≡ k ∷ ks → branch_begun p k b ≡ Ok c → branches_begun p ks c ≡ branches_begun p all b
unfolding branches_begun
next-begun p k ks all b c is done =
    sym (ap (λ (r : Result Queued (Option Fault)). with_ok r (branches_begun p ks)) done) ∙ ap (λ (qs : List ℕ). branches_begun p qs b) (sym is)

-- A key above all others goes to the end.
above : (a m : ℕ) → nat_cmp (a + suc m) a ≡ Greater
above a m = sym (nat_cmp_is (a + suc m) a Greater (omega arith))

pub inserted-last : {X : Type 0} (f : ℕ → X) (a n : ℕ)
    → insert_entry nat_cmp (map (λ k. (k, f k)) (range_with_len a n)) (a + n) (f (a + n)) ≡ map (λ k. (k, f k)) (range_with_len a (suc n))
inserted-last {X} f a zero = ap (λ (k : ℕ). (k, f k) ∷ []) same
  where
    same : a + 0 ≡ a
    same = omega arith
inserted-last {X} f a (suc m) =
    ap (λ (o : Ordering). match_ordering o ((a + suc m, f (a + suc m)) ∷ rest) ((a, f (a + suc m)) ∷ map (λ k. (k, f k)) (range_with_len (a + 1) m))
    ((a, f a) ∷ insert_entry nat_cmp (map (λ k. (k, f k)) (range_with_len (a + 1) m)) (a + suc m) (f (a + suc m)))) (above a m)
    ∙ ap (λ (k : ℕ). (a, f a) ∷ insert_entry nat_cmp (map (λ k. (k, f k)) (range_with_len (a + 1) m)) k (f k)) next
    ∙ ap (λ (es : List (ℕ × X)). (a, f a) ∷ es) (inserted-last f (a + 1) m)
  where
    rest : List (ℕ × X)
    rest = map (λ k. (k, f k)) (range_with_len a (suc m))

    next : a + suc m ≡ (a + 1) + m
    next = omega arith

-- One process more of those of a design.
abbrev beginning : List (ℕ × ℕ) → Control → Process
beginning us t = record { thread = t; parent = None; left = 0; held = None; entry = None; updates = us }

pub one-more : (d : Shape) (k : ℕ) (t : Control) (us : List (ℕ × ℕ)) (es fs : List (ℕ × Process))
    → es ≡ map (λ k. (k, opening_process d k)) (range_with_len 0 k) → t ≡ process_of d k → us ≡ []
    → fs ≡ insert_entry nat_cmp es k (beginning us t)
    → fs ≡ map (λ k. (k, opening_process d k)) (range_with_len 0 (k + 1))
one-more d k t us es fs so_far begins none more =
    more
    ∙ ap (λ (vs : List (ℕ × ℕ)). insert_entry nat_cmp es k (beginning vs t)) none
    ∙ ap (λ (u : Control). insert_entry nat_cmp es k (beginning [] u)) begins
    ∙ ap (λ (gs : List (ℕ × Process)). insert_entry nat_cmp gs k (opening_process d k)) so_far
    ∙ ap (λ (n : ℕ). insert_entry nat_cmp (map (λ k. (k, opening_process d k)) (range_with_len 0 k)) n (opening_process d n)) same
    ∙ inserted-last (opening_process d) 0 k
    ∙ ap (λ (n : ℕ). map (λ k. (k, opening_process d k)) (range_with_len 0 n)) next
  where
    same : k ≡ 0 + k
    same = omega arith

    next : suc k ≡ k + 1
    next = omega arith

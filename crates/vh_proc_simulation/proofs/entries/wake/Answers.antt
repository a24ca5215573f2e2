use Rattle.std.proofs.Common.{◌≡◌, ◌∙◌, ℕ, List, ◌∷◌, length, Option, Some, None, Result, Ok, suc, sym, ap, subst, rules, arith}
use Rattle.vh_base.specs.Checks.{with_ok}
use Rattle.vh_base.specs.declared.faults.Fault.{Fault}
use Rattle.vh_proc.specs.Processes.{Queued, Scheduled, scheduled}
use Rattle.vh_sense.proofs.LawsLemmas.{wakes_in_turn, wakes_to_the_end}
use Rattle.vh_sense.specs.Laws.{woken_above}
use Rattle.vh_sense.specs.Sensitivity.{Sensitivity, woken, next_woken, after_woken, without_wait}
use Rattle.vh_proc_simulation.specs.Entries.{waking, woken_one, all_woken}
use Rattle.vh_proc_simulation.proofs.LoopsLemmas.{next-woken, none-woken, fails-woken, above-none}
use Rattle.vh_proc_simulation.proofs.entries.wake.Goals as goal
use Rattle.vh_proc_turn.specs.Own.{FailsBy}

pub returns-in_err-resume-clause-fails : goal.returns-in_err-resume-clause-fails
returns-in_err-resume-clause-fails c =
    let s = c.woken.sense in let change = c.args.c.now in let p = c.in-Some.p in
    let turn : woken_above c.woken.last s change ≡ p ∷ woken_above (Some p) (without_wait p s) change =
    wakes_in_turn s change c.woken.last p c.next_woken.ensures.rising (sym c.next_woken.ensures.woken ∙ c.in-Some.is) in
    let here = fails-woken p _ _ (scheduled c.woken.threads s c.woken.q) c.in_err-resume.field-0.0 turn c.in_err-resume.ensures.fails in
    let before = scheduled c.args.threads.now c.args.sense.now c.args.q.now in
    let fact : FailsBy (waking change before) c.in_err-resume.field-0.0 =
    subst (λ (r : Result Scheduled (Option Fault)). FailsBy r c.in_err-resume.field-0.0)
    (c.woken.invariant.woken ∙ ap (λ (ps : List ℕ). all_woken ps before) (above-none (woken c.args.sense.now change))) here in
    search (rules, fact)

pub woken-smaller : goal.woken-smaller
woken-smaller c =
    let s = c.woken.sense in let change = c.args.c.now in let p = c.in-Some.p in
    let turn : woken_above c.woken.last s change ≡ p ∷ woken_above (Some p) (without_wait p s) change =
    wakes_in_turn s change c.woken.last p c.next_woken.ensures.rising (sym c.next_woken.ensures.woken ∙ c.in-Some.is) in
    let gone : c.next_woken.new.self ≡ without_wait p s =
    c.next_woken.ensures.gone ∙ ap (λ (o : Option ℕ). after_woken o s) c.in-Some.is in
    let shorter : length (woken_above c.woken.last s change) ≡ suc (length (woken_above (Some p) c.next_woken.new.self change)) =
    ap length turn ∙ ap (λ (t : Sensitivity). suc (length (woken_above (Some p) t change))) (sym gone) in
    omega (arith, shorter)

pub woken-preserved : goal.woken-preserved
woken-preserved c =
    let s = c.woken.sense in let change = c.args.c.now in let p = c.in-Some.p in
    let turn : woken_above c.woken.last s change ≡ p ∷ woken_above (Some p) (without_wait p s) change =
    wakes_in_turn s change c.woken.last p c.next_woken.ensures.rising (sym c.next_woken.ensures.woken ∙ c.in-Some.is) in
    let gone : c.next_woken.new.self ≡ without_wait p s =
    c.next_woken.ensures.gone ∙ ap (λ (o : Option ℕ). after_woken o s) c.in-Some.is in
    let left : woken_above c.woken.last s change ≡ p ∷ woken_above (Some p) c.next_woken.new.self change =
    turn ∙ ap (λ (t : Sensitivity). p ∷ woken_above (Some p) t change) (sym gone) in
    let after = scheduled c.resume.new.self c.next_woken.new.self c.resume.new.q in
    let one : woken_one p (scheduled c.woken.threads s c.woken.q) ≡ Ok after =
    ap (λ (r : Result Queued (Option Fault)). with_ok r (λ b. Ok (scheduled b.processes (without_wait p s) b.queue))) c.in_ok-resume.ensures.done
    ∙ ap (λ (t : Sensitivity). Ok (scheduled c.resume.new.self t c.resume.new.q)) (sym gone) in
    record {
      woken = next-woken p _ _ (scheduled c.woken.threads s c.woken.q) after left one ∙ c.woken.invariant.woken;
      waits = ap (λ (t : Sensitivity). t.waits) gone ∙ c.woken.invariant.waits;
      time = c.in_ok-resume.ensures.now ∙ c.woken.invariant.time;
      runs = λ d before. c.in_ok-resume.ensures.runs d (c.woken.invariant.runs d before);
    }

pub returns-clause-woken : goal.returns-clause-woken
returns-clause-woken c =
    let s = c.woken.sense in let change = c.args.c.now in
    let before = scheduled c.args.threads.now c.args.sense.now c.args.q.now in
    let none : next_woken s change c.woken.last ≡ None = sym c.next_woken.ensures.woken ∙ c.in_default.is in
    let gone : c.next_woken.new.self ≡ s = c.next_woken.ensures.gone ∙ ap (λ (o : Option ℕ). after_woken o s) c.in_default.is in
    ap (λ (ps : List ℕ). all_woken ps before) (sym (above-none (woken c.args.sense.now change)))
    ∙ sym c.woken.invariant.woken
    ∙ none-woken _ _ (wakes_to_the_end s change c.woken.last none)
    ∙ ap (λ (t : Sensitivity). Ok (scheduled c.woken.threads t c.woken.q)) (sym gone)

use Rattle.std.proofs.Common.{◌≡◌, ◌∙◌, List, ◌∷◌, length, Some, None, Result, Option, suc, sym, ap, subst, rules, arith}
use Rattle.vh_base.specs.declared.faults.Fault.{Fault}
use Rattle.vh_sense.proofs.LawsLemmas.{behind_in_turn, behind_to_the_end}
use Rattle.vh_sense.specs.declared.follow.Follow.{Follow}
use Rattle.vh_sense.specs.Laws.{those_behind}
use Rattle.vh_sense.specs.Sensitivity.{readers_of, next_follow}
use Rattle.vh_proc_simulation.specs.Entries.{following}
use Rattle.vh_proc_simulation.specs.Follows.{Followed, followed, all_followed}
use Rattle.vh_proc_simulation.proofs.LoopsLemmas.{next-followed, none-followed, fails-followed, behind-none}
use Rattle.vh_proc_simulation.proofs.follows.follow.Goals as goal
use Rattle.vh_proc_turn.specs.Own.{FailsBy}

pub returns-in_err-follow_one-clause-fails : goal.returns-in_err-follow_one-clause-fails
returns-in_err-follow_one-clause-fails c =
    let fs = readers_of c.args.c.now.object.id c.args.sense.now in let f = c.in-Some.f in let s = c.args.s.now in
    let turn : those_behind c.followed.last fs ≡ f ∷ those_behind (Some f) fs =
    behind_in_turn fs c.followed.last f c.next_follow.ensures.rising (sym c.next_follow.ensures.follow ∙ c.in-Some.is) in
    let before = followed c.args.follows.now c.args.q.now in
    let here = fails-followed s f _ _ (followed c.followed.follows c.followed.q) c.in_err-follow_one.field-0.0 turn c.in_err-follow_one.ensures.fails in
    let fact : FailsBy (following s c.args.sense.now c.args.c.now before) c.in_err-follow_one.field-0.0 =
    subst (λ (r : Result Followed (Option Fault)). FailsBy r c.in_err-follow_one.field-0.0)
    (c.followed.invariant.rest ∙ ap (λ (gs : List Follow). all_followed s gs before) (behind-none fs)) here in
    search (rules, fact)

pub followed-smaller : goal.followed-smaller
followed-smaller c =
    let fs = readers_of c.args.c.now.object.id c.args.sense.now in let f = c.in-Some.f in
    let turn : those_behind c.followed.last fs ≡ f ∷ those_behind (Some f) fs =
    behind_in_turn fs c.followed.last f c.next_follow.ensures.rising (sym c.next_follow.ensures.follow ∙ c.in-Some.is) in
    let shorter : length (those_behind c.followed.last fs) ≡ suc (length (those_behind (Some f) fs)) = ap length turn in
    omega (arith, shorter)

pub followed-preserved : goal.followed-preserved
followed-preserved c =
    let fs = readers_of c.args.c.now.object.id c.args.sense.now in let f = c.in-Some.f in let s = c.args.s.now in
    let turn : those_behind c.followed.last fs ≡ f ∷ those_behind (Some f) fs =
    behind_in_turn fs c.followed.last f c.next_follow.ensures.rising (sym c.next_follow.ensures.follow ∙ c.in-Some.is) in
    record {
      rest = next-followed s f _ _ (followed c.followed.follows c.followed.q) _ turn c.in_ok-follow_one.ensures.done ∙ c.followed.invariant.rest;
      time = c.in_ok-follow_one.ensures.now ∙ c.followed.invariant.time;
    }

pub returns-clause-done : goal.returns-clause-done
returns-clause-done c =
    let fs = readers_of c.args.c.now.object.id c.args.sense.now in let s = c.args.s.now in
    let none : next_follow c.args.sense.now c.args.c.now c.followed.last ≡ None = sym c.next_follow.ensures.follow ∙ c.in_default.is in
    ap (λ (gs : List Follow). all_followed s gs (followed c.args.follows.now c.args.q.now)) (sym (behind-none fs))
    ∙ sym c.followed.invariant.rest
    ∙ none-followed s _ _ (behind_to_the_end fs c.followed.last none)

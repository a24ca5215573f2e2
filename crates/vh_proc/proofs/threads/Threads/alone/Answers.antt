use Rattle.std.proofs.Common.{◌≡◌, ◌∙◌, ℕ, Option, Some, true, sym, ap, subst, rules}
use Rattle.std.specs.Option.{option_copied_mut}
use Rattle.vh_proc_thread.specs.Control.{next_of}
use Rattle.vh_proc.specs.Families.{IsKept, called_by, is_caller}
use Rattle.vh_proc.specs.Processes.{AllRun}
use Rattle.vh_proc.proofs.RunsLemmas.{EachRuns, runs-found, runs-set}
use Rattle.vh_proc.proofs.StandsLemmas.{stands}
use Rattle.vh_proc.proofs.FamiliesLemmas.{kept-turned, kept-found, kept-called, noted-own}
use Rattle.vh_proc.proofs.CallsLemmas.{AllCalls, calls-turned}
use Rattle.vh_proc.proofs.KinLemmas.{turn-kept}
use Rattle.vh_proc.proofs.threads.Threads.alone.Goals as goal

pub turn-requires-clause-runs : goal.turn-requires-clause-runs
turn-requires-clause-runs c =
    runs-found c.args.d.now _ c.self.inside.all.entries c.in-Some.process.now (subst (AllRun c.args.d.now) (sym c.self.view_is) c.requires.stands.runs)
    (sym c.get_mut.ensures.value ∙ ap option_copied_mut c.in-Some.is)

pub turn-requires-clause-there : goal.turn-requires-clause-there
turn-requires-clause-there c =
    let at : next_of c.args.d.now c.in-Some.process.now.thread ≡ Some c.args.i.now = search rules in
    stands c.args.d.now c.in-Some.process.now.thread c.args.i.now c.requires.stands.valid at

pub returns-clause-runs : goal.returns-clause-runs
returns-clause-runs c =
    subst (EachRuns c.args.d.now) (sym (c.get_mut.follows.holds c.turn.new.process).0)
    (runs-set c.args.d.now _ c.self.inside.all.entries c.turn.new.process (subst (AllRun c.args.d.now) (sym c.self.view_is) c.requires.stands.runs) c.in_ok-next.ensures.runs)

pub invariant_of-self-2 : goal.invariant_of-self-2
invariant_of-self-2 c = λ kept.
    let t = c.in-Some.process.now in
    let u = c.turn.new.process in
    let old = c.self.inside.families in
    let new = c.arrive.new.self in
    let es = c.self.inside.all.entries in
    let called = called_by c.args.i.now.operation in
    let at = sym c.get_mut.ensures.value ∙ ap option_copied_mut c.in-Some.is in
    let before = c.self.invariant kept in
    let there : IsKept old c.self.inside.next c.args.p t =
    subst (λ (p : ℕ). IsKept old c.self.inside.next p t) c.number.ensures (kept-found old c.self.inside.next _ es t before.each at) in
    let calls = c.in_ok-arrive.ensures in
    let same = turn-kept c.args.d.now c.args.p c.args.i.now _ _ c.in_ok-next.ensures.done in
    kept-turned new c.self.inside.next _ es _ t u same
    (λ notes. subst (λ k. AllCalls (λ r. is_caller new.callers.entries r k ≡ true) u.thread.calls) (sym (ap (λ (k : Option ℕ × ℕ). k.1) same))
    (calls-turned (λ r. is_caller new.callers.entries r t.thread.root ≡ true) c.args.d.now c.args.p c.args.i.now _ _ c.in_ok-next.ensures.done
    (noted-own old new c.self.inside.next c.args.p called t calls before.exact there) notes))
    (c.get_mut.follows.holds u).0 at
    (kept-called old new c.self.inside.next c.args.p called es calls before)

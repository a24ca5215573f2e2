use Rattle.std.proofs.Common.{◌≡◌, ◌∙◌, ℕ, Bool, cond, Ok, refl, sym, ap, subst, rules}
use Rattle.vh_proc.specs.Processes.{world_of, step_with, Step}
use Rattle.vh_proc.specs.Steps.{step_of}
use Rattle.vh_proc_simulation.specs.Activity.{Activity, activity, stopped_at}
use Rattle.vh_proc_simulation.specs.Entries.{Scheduling, scheduling, watched, all_entered}
use Rattle.vh_proc_simulation.specs.Labels.{performed, displayed, world_in, with_world, scheduling_of}
use Rattle.vh_proc_turn.specs.Own.{FailsBy}
use Rattle.vh_proc_turn.specs.declared.fault.StepFault.{StepFault}
use Rattle.vh_proc_turn.specs.declared.fault.StepFault.TheVariants.{Run, NoMemory}
use Rattle.vh_proc_simulation.proofs.simulation.Simulation.perform.Goals as goal

pub invariant_of-self-2 : goal.invariant_of-self-2
invariant_of-self-2 c = λ _.
    let before = c.self.invariant c.if-self.false in record {
      runs = c.in_ok-enter_all.ensures.runs c.self.inside.design c.in_ok-stepped.ensures.runs;
      waits = c.in_ok-enter_all.ensures.waits ∙ c.in_ok-stepped.ensures.kept ∙ before.waits;
      now = c.in_ok-stepped.ensures.time ∙ before.now
          ∙ sym (c.in_ok-shown.ensures.now ∙ c.in_ok-enter_all.ensures.now ∙ c.in_ok-stepped.ensures.still);
    }

fails-entered : (p : ℕ) (a : Activity) (r : Step) (e : StepFault) → step_of a.design p (world_in a) ≡ Ok r
    → FailsBy (all_entered a.design r.world.store r.made (scheduling_of (with_world r.world a))) e → FailsBy (performed p a) e
fails-entered p a r NoMemory is fails = tt
fails-entered p a r (Run f) is fails = rw (is, fails) refl

fails-shown : (p : ℕ) (a : Activity) (r : Step) (g : Scheduling) (e : StepFault) → step_of a.design p (world_in a) ≡ Ok r
    → all_entered a.design r.world.store r.made (scheduling_of (with_world r.world a)) ≡ Ok g
    → FailsBy (displayed a.design r.world.store r.next (watched g.monitor g.queue)) e → FailsBy (performed p a) e
fails-shown p a r g NoMemory is entered fails = tt
fails-shown p a r g (Run f) is entered fails = rw (is, entered, fails) refl

pub returns-in_err-enter_all-clause-fails : goal.returns-in_err-enter_all-clause-fails
returns-in_err-enter_all-clause-fails c =
    let i = c.self.inside in
    let seen : activity i.design i.threads i.store i.sense i.follows i.queue i.monitor ≡ c.args.self.now =
    sym (ap (λ (b : Bool). cond b (stopped_at i.design i.queue.time) (activity i.design i.threads i.store i.sense i.follows i.queue i.monitor)) c.if-self.false) ∙ c.self.view_is in
    let done : step_of i.design c.args.p (world_of i.threads i.store i.sense i.queue)
    ≡ Ok (step_with (world_of c.step.new.self c.step.new.s c.step.new.sense c.step.new.q) c.in-Some.stepped.made c.in-Some.stepped.next) = search rules in
    let failed : FailsBy (all_entered i.design c.step.new.s c.in-Some.stepped.made
    (scheduling c.step.new.self c.step.new.sense i.follows c.step.new.q i.monitor)) c.in_err-enter_all.field-0.0 = search rules in
    let fact : FailsBy (performed c.args.p c.args.self.now) c.in_err-enter_all.field-0.0 =
    subst (λ (a : Activity). FailsBy (performed c.args.p a) c.in_err-enter_all.field-0.0) seen
    (fails-entered c.args.p _ _ c.in_err-enter_all.field-0.0 done failed) in
    search (rules, fact)

pub returns-in_err-shown-clause-fails : goal.returns-in_err-shown-clause-fails
returns-in_err-shown-clause-fails c =
    let i = c.self.inside in
    let seen : activity i.design i.threads i.store i.sense i.follows i.queue i.monitor ≡ c.args.self.now =
    sym (ap (λ (b : Bool). cond b (stopped_at i.design i.queue.time) (activity i.design i.threads i.store i.sense i.follows i.queue i.monitor)) c.if-self.false) ∙ c.self.view_is in
    let done : step_of i.design c.args.p (world_of i.threads i.store i.sense i.queue)
    ≡ Ok (step_with (world_of c.step.new.self c.step.new.s c.step.new.sense c.step.new.q) c.in-Some.stepped.made c.in-Some.stepped.next) = search rules in
    let entered : all_entered i.design c.step.new.s c.in-Some.stepped.made (scheduling c.step.new.self c.step.new.sense i.follows c.step.new.q i.monitor)
    ≡ Ok (scheduling c.enter_all.new.threads c.enter_all.new.sense c.enter_all.new.follows c.enter_all.new.q c.enter_all.new.monitor) = search rules in
    let failed : FailsBy (displayed i.design c.step.new.s c.in-Some.stepped.next
    (watched c.enter_all.new.monitor c.enter_all.new.q)) c.in_err-shown.field-0.0 = search rules in
    let fact : FailsBy (performed c.args.p c.args.self.now) c.in_err-shown.field-0.0 =
    subst (λ (a : Activity). FailsBy (performed c.args.p a) c.in_err-shown.field-0.0) seen
    (fails-shown c.args.p _ _ _ c.in_err-shown.field-0.0 done entered failed) in
    search (rules, fact)

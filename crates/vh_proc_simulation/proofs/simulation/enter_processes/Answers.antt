use Rattle.std.proofs.Common.{◌≡◌, ◌∙◌, ◌<◌, ◌+◌, ℕ, suc, Some, true, false, sym, ap, subst, arith}
use Rattle.vh_base.specs.declared.limits.TheConstants.{MOST_ENTRIES}
use Rattle.vh_proc.specs.Processes.{Processes, Queued, queued, noted}
use Rattle.vh_queue.specs.declared.region.Region.TheVariants as region
use Rattle.vh_queue.specs.declared.work.Work.TheVariants as work
use Rattle.vh_queue.specs.Events.{Events, added, is_full, HasCause}
use Rattle.vh_proc_simulation.specs.Activity.{evaluations}
use Rattle.vh_proc_simulation.proofs.LoopsLemmas.{evaluations-time, evaluations-room}
use Rattle.vh_proc_simulation.proofs.simulation.enter_processes.Goals as goal

pub add-requires-clause-from : goal.add-requires-clause-from
add-requires-clause-from c =
    let at : c.loop-p.q.time ≡ 0 = ap (λ (b : Queued). b.queue.time) c.loop-p.invariant.entered ∙ evaluations-time c.loop-p.p c.args.threads.now in
    omega (arith, at)

pub add-requires-clause-present : goal.add-requires-clause-present
add-requires-clause-present c =
    ap Some (sym (ap (λ (b : Queued). b.queue.time) c.loop-p.invariant.entered ∙ evaluations-time c.loop-p.p c.args.threads.now))

pub unreachable-requires : goal.unreachable-requires
unreachable-requires c =
    let few = c.requires.few in let less = c.loop-p-test.true in
    let below : c.loop-p.p < MOST_ENTRIES = omega (arith, few, less) in
    let room : is_full c.loop-p.q ≡ false =
    ap (λ (b : Queued). is_full b.queue) c.loop-p.invariant.entered ∙ evaluations-room c.loop-p.p c.args.threads.now below in
    let full : is_full c.loop-p.q ≡ true = subst (HasCause (is_full c.loop-p.q)) c.in-Err-Full.field-0-is c.in-Err-Full.ensures.refused in
    cc

pub loop-p-preserved : goal.loop-p-preserved
loop-p-preserved c =
    let ps = c.args.threads.now in let p = c.loop-p.p in let q = c.loop-p.q in let threads = c.loop-p.threads in
    let next : suc p ≡ p + 1 = omega arith in
    let notes : c.entered.new.self ≡ noted p q.next threads =
    c.entered.ensures.noted ∙ ap (λ (n : ℕ). noted n c.in-Ok.serial threads) c.new-p.ensures ∙ ap (λ (n : ℕ). noted p n threads) c.in-Ok.ensures.serial in
    let adds : c.add.new.self ≡ added (Some 0) region.Active (work.Evaluate p) q =
    c.in-Ok.ensures.added ∙ ap (λ (n : ℕ). added (Some 0) region.Active (work.Evaluate n) q) c.new-p.ensures in
    record {
      entered = ap (λ (ts : Processes). queued ts c.add.new.self) notes
          ∙ ap (λ (es : Events). queued (noted p q.next threads) es) adds
          ∙ ap (λ (b : Queued). queued (noted p b.queue.next b.processes) (added (Some 0) region.Active (work.Evaluate p) b.queue)) c.loop-p.invariant.entered
          ∙ ap (λ (n : ℕ). evaluations n ps) next;
      runs = λ d before. c.entered.ensures.runs d (c.loop-p.invariant.runs d before);
    }

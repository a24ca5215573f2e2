use Rattle.std.proofs.Common.{◌∙◌, sym, ap, subst}
use Rattle.vh_design.specs.Shape.{Shape}
use Rattle.vh_proc.specs.Processes.{AllRun, Queued}
use Rattle.vh_queue.specs.Events.{Events}
use Rattle.vh_proc_simulation.proofs.LoopsLemmas.{evaluations-time}
use Rattle.vh_proc_simulation.proofs.simulation.Simulation.new.Goals as goal
use Rattle.vh_proc_simulation.proofs.simulation.Simulation.new.Goals.{then-count-le-MOST_ENTRIES+in_ok-enter_processes, else-count-le-MOST_ENTRIES}

pub invariant_of-result : goal.invariant_of-result
invariant_of-result c = λ _.
    let d = c.in_ok-layout.layout in
    let opened = subst (λ (e : Shape). AllRun e c.in_ok-threads.threads) c.design-design.ensures c.in_ok-threads.ensures.runs in record {
      runs = elim c.if-count-le-MOST_ENTRIES.branch [
        | then-count-le-MOST_ENTRIES+in_ok-enter_processes w ↦
            subst (AllRun d) (sym w.threads-is) (w.in_ok-enter_processes.ensures.runs d opened)
        | else-count-le-MOST_ENTRIES w ↦ subst (AllRun d) (sym w.threads-is) opened
      ];
      waits = c.in_ok-sense.ensures.made.waits ∙ ap (λ (e : Shape). e.waits) c.design-design.ensures;
      now = c.in_ok-store.ensures.time ∙ sym (elim c.if-count-le-MOST_ENTRIES.branch [
        | then-count-le-MOST_ENTRIES+in_ok-enter_processes w ↦
            ap (λ (q : Events). q.time) w.queue-is
            ∙ ap (λ (b : Queued). b.queue.time) w.in_ok-enter_processes.ensures.entered
            ∙ evaluations-time w.from.result c.in_ok-threads.threads
        | else-count-le-MOST_ENTRIES w ↦ ap (λ (q : Events). q.time) w.queue-is ∙ ap (λ (q : Events). q.time) c.in_ok-queue.ensures
      ]);
    }

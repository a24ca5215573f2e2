use Rattle.vh_proc_thread.specs.Control.{Runs}
use Rattle.vh_cases_design.proofs.thread.after.Given as goal

abbrev pub invariant-loop-action : goal.invariant-loop-action
invariant-loop-action l = Runs l.d l.thread

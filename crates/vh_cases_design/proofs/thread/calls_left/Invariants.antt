use Rattle.vh_proc_thread.specs.Control.{Runs}
use Rattle.vh_cases_design.proofs.thread.calls_left.Given as goal

abbrev pub invariant-loop-k : goal.invariant-loop-k
invariant-loop-k l = Runs l.d l.thread

use Rattle.std.proofs.Common.{subst}
use Rattle.vh_design.specs.Shape.{Shape}
use Rattle.vh_proc.specs.Processes.{AllRun}
use Rattle.vh_proc.proofs.threads.Threads.perform.Goals as goal

pub returns-in_ok-stepped-in-Initial-clause-runs : goal.returns-in_ok-stepped-in-Initial-clause-runs
returns-in_ok-stepped-in-Initial-clause-runs c =
    c.take_out.ensures.runs c.args.d.now (subst (λ (d : Shape). AllRun d c.alone.new.self) c.design-design.ensures c.in_ok-stepped-in-Initial.ensures.runs)

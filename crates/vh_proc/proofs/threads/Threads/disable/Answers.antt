use Rattle.std.proofs.Common.{subst}
use Rattle.vh_design.specs.Shape.{Shape}
use Rattle.vh_proc.specs.Processes.{AllRun}
use Rattle.vh_proc.proofs.threads.Threads.disable.Goals as goal

pub leave_all-requires : goal.leave_all-requires
leave_all-requires c = c.end_all.ensures.runs c.design-design.result.now c.pass.ensures.runs

pub returns-clause-runs : goal.returns-clause-runs
returns-clause-runs c =
    c.in_ok-resume_all.ensures.runs c.args.d.now (subst (λ (d : Shape). AllRun d c.leave_all.new.self) c.design-design.ensures c.leave_all.ensures.runs)

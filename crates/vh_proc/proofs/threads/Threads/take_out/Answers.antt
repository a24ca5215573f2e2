use Rattle.std.proofs.Common.{sym, subst}
use Rattle.vh_design.specs.Shape.{Shape}
use Rattle.vh_proc.specs.Processes.{AllRun}
use Rattle.vh_proc.proofs.FamiliesLemmas.{kept-left}
use Rattle.vh_proc.proofs.RunsLemmas.{EachRuns, runs-removed}
use Rattle.vh_proc.proofs.threads.Threads.take_out.Goals as goal

pub invariant_of-self-2 : goal.invariant_of-self-2
invariant_of-self-2 c = λ kept.
    kept-left c.self.inside.families c.leave.new.self c.self.inside.next c.args.p c.self.inside.all.entries _ c.leave.ensures c.remove.ensures.entries
    c.remove.ensures.updates.1 (c.self.invariant kept)

pub returns-clause-runs : goal.returns-clause-runs
returns-clause-runs c =
    λ (d : Shape) runs.
    subst (EachRuns d) (sym c.remove.ensures.entries)
    (runs-removed d _ c.self.inside.all.entries (subst (AllRun d) (sym c.self.view_is) runs))

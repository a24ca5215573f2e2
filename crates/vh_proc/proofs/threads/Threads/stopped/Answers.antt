use Rattle.std.proofs.Common.{sym, subst}
use Rattle.vh_design.specs.Shape.{Shape}
use Rattle.vh_proc.specs.Processes.{AllRun}
use Rattle.vh_proc.proofs.RunsLemmas.{EachRuns}
use Rattle.vh_proc.proofs.threads.Threads.stopped.Goals as goal

pub stopped_of_family-requires-clause-runs : goal.stopped_of_family-requires-clause-runs
stopped_of_family-requires-clause-runs c =
    subst (λ (d : Shape). EachRuns d c.self.inside.all.entries) (sym c.design-design.ensures) (subst (AllRun c.args.d.now) (sym c.self.view_is) c.requires)

pub stopped_of_family-requires-in-Some-2-clause-runs : goal.stopped_of_family-requires-in-Some-2-clause-runs
stopped_of_family-requires-in-Some-2-clause-runs c =
    subst (λ (d : Shape). EachRuns d c.self.inside.all.entries) (sym c.design-design.ensures) (subst (AllRun c.args.d.now) (sym c.self.view_is) c.requires)

pub stopped_of_all-requires : goal.stopped_of_all-requires
stopped_of_all-requires c =
    subst (λ (d : Shape). EachRuns d c.self.inside.all.entries) (sym c.design-design.ensures) (subst (AllRun c.args.d.now) (sym c.self.view_is) c.requires)

use Rattle.std.proofs.Common.{◌∙◌, sym, ap, subst}
use Rattle.std.specs.Prelude.{option_copied}
use Rattle.vh_proc.specs.Processes.{AllRun}
use Rattle.vh_proc.proofs.RunsLemmas.{runs-found}
use Rattle.vh_proc.proofs.threads.Threads.pass.Goals as goal

pub is_inside-requires : goal.is_inside-requires
is_inside-requires c =
    runs-found c.args.d.now _ c.self.inside.all.entries c.in-Some.process.now (subst (AllRun c.args.d.now) (sym c.self.view_is) c.requires)
    (sym c.get.ensures.value ∙ ap option_copied c.in-Some.is)

pub returns-then-not-is_inside-clause-runs : goal.returns-then-not-is_inside-clause-runs
returns-then-not-is_inside-clause-runs c = c.go_on.ensures.runs c.args.d.now c.requires

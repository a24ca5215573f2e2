use Rattle.std.proofs.Common.{◌∙◌, sym, ap, subst}
use Rattle.std.specs.Prelude.{option_copied}
use Rattle.vh_proc.specs.Processes.{AllRun}
use Rattle.vh_proc.proofs.RunsLemmas.{runs-found}
use Rattle.vh_proc.proofs.threads.Threads.join.Goals as goal

pub next-requires : goal.next-requires
next-requires c =
    runs-found c.args.d.now _ c.self.inside.all.entries c.in-Some-get.process.now (subst (AllRun c.args.d.now) (sym c.self.view_is) c.requires.runs)
    (sym c.get.ensures.value ∙ ap option_copied c.in-Some-get.is)

pub returns-then-not-is_last-clause-runs : goal.returns-then-not-is_last-clause-runs
returns-then-not-is_last-clause-runs c = c.lose_one.ensures.runs c.args.d.now c.requires.runs

pub returns-clause-runs : goal.returns-clause-runs
returns-clause-runs c =
    c.resume.ensures.runs c.args.d.now (c.go_on.ensures.runs c.args.d.now (c.lose_one.ensures.runs c.args.d.now c.requires.runs))

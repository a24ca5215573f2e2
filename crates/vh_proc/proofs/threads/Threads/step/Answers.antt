use Rattle.std.proofs.Common.{◌∙◌, sym, ap, subst}
use Rattle.std.specs.Prelude.{option_copied}
use Rattle.vh_design.specs.Shape.{Shape}
use Rattle.vh_proc_thread.specs.Control.{Runs}
use Rattle.vh_proc.specs.Processes.{AllRun}
use Rattle.vh_proc.proofs.RunsLemmas.{runs-found}
use Rattle.vh_proc.proofs.threads.Threads.step.Goals as goal

pub next-requires : goal.next-requires
next-requires c =
    subst (λ (d : Shape). Runs d c.in-Some.process.now.thread) (sym c.design-design.ensures)
    (runs-found c.args.d.now _ c.self.inside.all.entries c.in-Some.process.now (subst (AllRun c.args.d.now) (sym c.self.view_is) c.requires.runs)
    (sym c.get.ensures.value ∙ ap option_copied c.in-Some.is))

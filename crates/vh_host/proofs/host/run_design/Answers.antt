use Rattle.vh_kernel_laws.proofs.LawsLemmas.{runs-keep-laws, opens-fresh}
use Rattle.vh_host.specs.Acceptance.{accepts}
use Rattle.vh_host.proofs.JudgingLemmas.{no_memory}
use Rattle.vh_host.proofs.host.run_design.Goals as goal

pub transcribe-requires-clause-lawful : goal.transcribe-requires-clause-lawful
transcribe-requires-clause-lawful g c =
    runs-keep-laws _ (opens-fresh c.args.design c.args.scripts.items _ c.in-Ok.ensures.opens) c.args.chooser

pub returns-in-Ok-clause-answers : goal.returns-in-Ok-clause-answers
returns-in-Ok-clause-answers g c =
    let w = c.transcribe.ensures.wrote in
    record { written = w.0; appends = w.1; answers = record { opening = _; opens = c.in-Ok.ensures.opens; wrote = w.2 } }

pub returns-in-Err-clause-answers : goal.returns-in-Err-clause-answers
returns-in-Err-clause-answers g c = no_memory c.args.chooser c.args.budget (accepts c.args.design c.args.scripts.items) (g.K.Sink.written c.args.out.now)

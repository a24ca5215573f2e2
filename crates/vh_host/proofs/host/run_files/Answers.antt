use Rattle.vh_host.specs.Acceptance.{by_texts}
use Rattle.vh_host.specs.Reading.{files_seen}
use Rattle.vh_host.proofs.JudgingLemmas.{refused_texts}
use Rattle.vh_host.proofs.host.run_files.Goals as goal

pub returns-in-Err-clause-answers : goal.returns-in-Err-clause-answers
returns-in-Err-clause-answers g c =
    rw c.status_of.ensures
    (refused_texts c.args.chooser c.args.budget c.in-Err.refusal (by_texts (files_seen c.args.files.now)) (g.K.Sink.written c.args.out.now) c.in-Err.ensures.refused)

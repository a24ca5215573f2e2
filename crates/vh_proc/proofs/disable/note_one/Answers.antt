use Rattle.std.proofs.Common.{◌∙◌, sym, ap}
use Rattle.std.specs.Prelude.{option_copied}
use Rattle.vh_proc.proofs.RunsLemmas.{runs-found}
use Rattle.vh_proc.proofs.disable.note_one.Goals as goal

pub note-requires-clause-runs : goal.note-requires-clause-runs
note-requires-clause-runs c =
    runs-found c.args.d.now _ c.args.all.now.entries c.in-Some.process.now c.requires.runs (sym c.get.ensures.value ∙ ap option_copied c.in-Some.is)

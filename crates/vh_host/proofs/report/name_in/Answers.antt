use Rattle.std.proofs.Common.{◌-◌, ◌∙◌, arith}
use Rattle.vh_host.proofs.FileWords.{word-texts}
use Rattle.vh_host.proofs.report.name_in.Goals as goal

pub returns : goal.returns
returns c = c.word_at.ensures ∙ word-texts c.args.files.now c.args.n (c.args.n - 1) (omega arith)

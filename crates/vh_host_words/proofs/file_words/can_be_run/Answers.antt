use Rattle.std.proofs.Common.{sym, ◌∙◌, arith}
use Rattle.vh_host_words.proofs.FileWordsLemmas.{no_file, by_design}
use Rattle.vh_host_words.proofs.file_words.can_be_run.Goals as goal

pub returns-then-not-all_files : goal.returns-then-not-all_files
returns-then-not-all_files c = no_file c.args.files.now (omega arith) (sym c.all_files.ensures ∙ c.if-not-all_files.true)

pub returns : goal.returns
returns c =
    c.any_design.ensures ∙ by_design c.args.files.now (omega arith) (sym c.all_files.ensures ∙ c.if-not-all_files.false)

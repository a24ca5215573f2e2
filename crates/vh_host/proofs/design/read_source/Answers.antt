use Rattle.std.proofs.Common.{sym, ap, ◌∙◌}
use Rattle.std.proofs.lemmas.Result.{err_from_is_err_and}
use Rattle.vh_lex.specs.Lexed.{Lexed, files_after}
use Rattle.vh_host.specs.Acceptance.{design_files, lexed_answer}
use Rattle.vh_host.specs.Reading.{files_seen}
use Rattle.vh_host.proofs.Sources.{ended-refused}
use Rattle.vh_host.proofs.design.read_source.Goals as goal

pub returns-in_err-end : goal.returns-in_err-end
returns-in_err-end c =
    let p = err_from_is_err_and c.from_residual-in_err-end.result c.from_residual-in_err-end.ensures.1 in
    let seen = files_seen c.args.files.now in
    let read = c.in_ok-is_begun.ensures.read ∙ ap (λ (l : Lexed). files_after l (design_files 1 seen)) c.in_ok-lexer.ensures in
    rw p.1
    (ended-refused c.lex_files.new.lexer _ c.in_err-end.field-0.0 p.0 p.2
    (ap (λ (l : Lexed). lexed_answer l) (sym read)) (sym c.in_err-end.ensures.answer))

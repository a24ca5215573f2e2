use Rattle.std.proofs.Common.{◌≡◌, ◌∙◌, ◌+◌, length, drop, ap, sym, arith}
use Rattle.std.proofs.lemmas.Result.{err_from_is_err_and}
use Rattle.vh_lex.specs.declared.fault.LexFault.TheVariants.{NoMemory}
use Rattle.vh_host.specs.declared.file.TextFile.{TextFile}
use Rattle.vh_host_words.specs.Words.{is_design_word}
use Rattle.vh_host.specs.Acceptance.{design_files}
use Rattle.vh_host.specs.Reading.{files_seen}
use Rattle.vh_host.proofs.Sources.{bytes-at, files-more, file-stops}
use Rattle.vh_host.proofs.design.lex_files.Goals as goal

pub file-requires : goal.file-requires
file-requires c =
    let short = bytes-at c.args.files.now c.loop-file.file-index c.file-item.result c.requires.short c.loop-file-test.true in
    let same = ap length c.as_slice.ensures.value ∙ ap (λ (f : TextFile). length f.bytes.items) c.file-item.is in
    omega (arith, same, short)

pub returns-in_err-file-clause-read : goal.returns-in_err-file-clause-read
returns-in_err-file-clause-read c =
    let p = err_from_is_err_and c.from_residual.result c.from_residual.ensures.1 in
    let files = c.args.files.now in
    let i = c.loop-file.file-index in
    let d = c.file-item.result in
    let rest = design_files (i + 1 + 1) (files_seen (drop (i + 1) files)) in
    let fault = c.in_err-file.field-0.0 in
    let design = ap (λ (f : TextFile). is_design_word f.word.now) (sym c.file-item.is) ∙ sym c.is_design_word.ensures ∙ c.if-not-is_design_word.false in
    let held = c.as_slice.ensures.value ∙ ap (λ (f : TextFile). f.bytes.items) c.file-item.is in
    rw p.1
    (file-stops c.file.new.self _ rest fault p.0 p.2 (sym c.in_err-file.ensures.answer)
    (λ other.
    files-more files i d c.loop-file.lexer c.file.new.self _ c.loop-file-test.true c.loop-file.invariant.0
    (c.loop-file.number + 1) c.as_slice.result.now (omega (arith, c.loop-file.invariant.1)) held design
    (c.in_err-file.ensures.read (λ e. other (let same : fault ≡ NoMemory = cc in same)))))

use Rattle.std.proofs.Common.{refl, sym, ap, ◌∙◌, Ok}
use Rattle.vh_lex.specs.declared.piece.Piece.TheVariants.{Blank}
use Rattle.vh_lex.specs.Beginning.{word_at}
use Rattle.vh_lex.proofs.SpellingLemmas.{beginning-blank, beginning-word, step-skips, step-read, step-piece}
use Rattle.vh_lex.proofs.reader.Reader.step.Goals as goal

pub returns-then-skips : goal.returns-then-skips
returns-then-skips c = step-skips c.args.bytes.now c.args.self.now c.skipped.new.self c.skipped.result (sym c.if-skips.ensures) c.skipped.ensures

pub returns : goal.returns
returns c = step-read c.args.bytes.now c.args.self.now c.piece.new.self c.piece.result (sym c.if-skips.ensures) c.piece.ensures

pub returns-then-is_name_start : goal.returns-then-is_name_start
returns-then-is_name_start c =
    step-piece c.args.bytes.now c.args.self.now c.word.new.self (word_at c.args.bytes.now) c.word.result (sym c.if-skips.ensures)
    (beginning-word c.in-Some.first.now c.in-Some.field-0-1.now c.args.bytes.now c.in-Some.ensures.cases.0 (sym c.if-is_space.ensures) (sym c.if-is_name_start.ensures))
    c.word.ensures

pub returns-then-is_space : goal.returns-then-is_space
returns-then-is_space c =
    step-piece c.args.bytes.now c.args.self.now c.args.self.now (Blank c.run_len.result) (Ok c.run_len.result) (sym c.if-skips.ensures)
    (beginning-blank c.in-Some.first.now c.in-Some.field-0-1.now c.args.bytes.now c.in-Some.ensures.cases.0 (sym c.if-is_space.ensures) ∙ ap Blank (sym c.run_len.ensures.value)) refl

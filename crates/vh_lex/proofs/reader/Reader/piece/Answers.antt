use Rattle.std.proofs.Common.{sym, subst, ◌∙◌}
use Rattle.vh_lex.specs.Gathered.{Gathered}
use Rattle.vh_lex.specs.Outcomes.{Went}
use Rattle.vh_lex.specs.Spelling.{part_read}
use Rattle.vh_lex.specs.declared.piece.Piece.TheVariants.{Kept}
use Rattle.vh_lex.proofs.SpellingLemmas.{beginning-read}
use Rattle.vh_lex.proofs.reader.Reader.piece.Goals as goal

pub returns-in-Kept : goal.returns-in-Kept
returns-in-Kept c =
    beginning-read c.args.bytes.now c.args.self.now c.part_read.new.self (Kept c.in-Kept.part c.in-Kept.len) c.part_read.result
    (sym c.in_ok-len.ensures.value ∙ c.in-Kept.is)
    (subst (λ (m : Gathered). Went (part_read c.in-Kept.part c.in-Kept.len c.args.bytes.now (record c.args.self.now { made = m })) c.part_read.result c.part_read.new.self)
    c.beginning.ensures.kept c.part_read.ensures)

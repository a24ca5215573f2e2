use Rattle.std.proofs.Common.{sym, ap, ◌∙◌}
use Rattle.vh_lex.specs.declared.piece.Piece.TheVariants.{Blank}
use Rattle.vh_lex.specs.MacroTexts.{parts_of}
use Rattle.vh_lex.proofs.MacroTextsLemmas.{blank-more, part-more}
use Rattle.vh_lex.proofs.SpellingLemmas.{beginning-blank}
use Rattle.vh_lex.proofs.macro_text.parts_of.Goals as goal

pub loop-first-preserved-in-Blank : goal.loop-first-preserved-in-Blank
loop-first-preserved-in-Blank c =
    rw (c.after-rest-in-Blank.ensures, c.saturating_sub-in-Blank.ensures) (
      blank-more (parts_of c.args.text.now) c.loop-first.parts.items c.in-Some.first.now c.in-Some.behind.now c.loop-first.rest.now c.in-Blank.len
          c.in-Some.ensures.cases.0 (sym c.in-Blank.is ∙ c.in_ok-len.ensures.value) c.loop-first.invariant.0,
      c.beginning.ensures.kept ∙ c.loop-first.invariant.1,
    )

pub loop-first-preserved : goal.loop-first-preserved
loop-first-preserved c =
    rw (c.after-rest-in-Kept.ensures, c.saturating_sub-in-Kept.ensures, c.in_ok-push-in-Kept.ensures.items) (
      part-more (parts_of c.args.text.now) c.loop-first.parts.items c.in-Kept.part c.in-Some.first.now c.in-Some.behind.now c.loop-first.rest.now c.in-Kept.len
          c.in-Some.ensures.cases.0 (sym c.in-Kept.is ∙ c.in_ok-len.ensures.value) c.loop-first.invariant.0,
      c.beginning.ensures.kept ∙ c.loop-first.invariant.1,
    )

pub loop-first-preserved-then-is_space : goal.loop-first-preserved-then-is_space
loop-first-preserved-then-is_space c =
    rw (c.after-rest.ensures, c.saturating_sub.ensures) (
      blank-more (parts_of c.args.text.now) c.loop-first.parts.items c.in-Some.first.now c.in-Some.behind.now c.loop-first.rest.now c.run_len.result
          c.in-Some.ensures.cases.0
          (ap Blank c.run_len.ensures.value ∙ sym (beginning-blank c.in-Some.first.now c.in-Some.behind.now c.loop-first.rest.now c.in-Some.ensures.cases.0 (sym c.if-is_space.ensures)))
          c.loop-first.invariant.0,
      c.loop-first.invariant.1,
    )

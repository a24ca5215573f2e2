use Rattle.std.proofs.Common.{length, sym, arith, length-drop}
use Rattle.vh_lex.specs.Directives.{gap_len}
use Rattle.vh_lex.proofs.DirectivesLemmas.{gap-more}
use Rattle.vh_lex.proofs.gap.gap_len.Goals as goal

pub loop-behind-preserved : goal.loop-behind-preserved
loop-behind-preserved c =
    let n = c.in-Some.ensures.cases.1 in
    let d = length-drop c.in-Some-blank_at.skip c.in-Some.behind.now in
    rw c.after-rest.ensures (
      omega arith,
      gap-more c.in-Some.field-0-0.now c.in-Some.behind.now c.loop-behind.rest.now c.in-Some-blank_at.skip (gap_len c.args.bytes.now) (length c.args.bytes.now)
          c.in-Some.ensures.cases.0 (sym c.in-Some-blank_at.ensures) c.loop-behind.invariant.1,
    )

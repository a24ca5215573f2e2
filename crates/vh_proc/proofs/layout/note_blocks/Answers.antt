use Rattle.std.proofs.Common.{◌∙◌, Some, sym, ap}
use Rattle.vh_proc.proofs.HomesLemmas.{next-noted}
use Rattle.vh_proc.proofs.SetsLemmas.{at-position}
use Rattle.vh_proc.proofs.layout.note_blocks.Goals as goal

pub loop-block-preserved : goal.loop-block-preserved
loop-block-preserved c = record {
  noted = next-noted c.loop-block.homes.entries _ c.args.owner.now c.args.blocks.now c.loop-block.block-index c.block-item.result
      (at-position c.args.blocks.now c.loop-block.block-index c.block-item.result c.loop-block-test.true ∙ ap Some (sym c.block-item.is)) c.loop-block.invariant.noted
      c.in_ok-note.ensures.kept c.in_ok-note.ensures.noted;
  kept = λ k o told. c.in_ok-note.ensures.kept k o (c.loop-block.invariant.kept k o told);
}

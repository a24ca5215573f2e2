use Rattle.std.proofs.Common.{◌≡◌, ◌<◌, ℕ, Some, slice_get}
use Rattle.vh_design_code.specs.declared.code.Block.{Block}
use Rattle.vh_proc.specs.Homes.{Says, Grow}
use Rattle.vh_proc.proofs.layout.note_blocks.Given as goal

-- Those so far are noted.
abbrev pub invariant-loop-block : goal.invariant-loop-block
invariant-loop-block l = record {
  noted : (i : ℕ) (b : Block) → i < l.block-index → slice_get l.blocks i ≡ Some b → Says l.homes.entries l.owner b.object;
  kept : Grow l.initial.homes.entries l.homes.entries;
}

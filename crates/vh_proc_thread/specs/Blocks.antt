-- The named blocks that a position of a code stands in. (IEEE 1364-2005, 9.8)
use Rattle.std.specs.Prelude.{ℕ, zero, suc, List, true, false, ◌==◌, Option, Some, None, slice_get, if◌then◌else◌}
use Rattle.std.specs.Option.{option_and_then}
use Rattle.vh_design_code.specs.declared.code.Block.{Block}

-- The block itself, where it is this object's; else what is found around it. (own)
abbrev pub block_or : (Option ℕ → Option Block) → ℕ → Block → Option Block
block_or outward target b = if b.object == target then Some b else outward b.around

-- Of an object, the block of that number or the one around it; what is around a block has a lesser number. (own)
unfoldable pub block_below : ℕ → List Block → ℕ → ℕ → Option Block
block_below zero bs target k = None
block_below (suc n) bs target k =
    elim (k == n) [
      | true ↦ option_and_then (block_or (option_and_then (block_below n bs target)) target) (slice_get bs k)
      | false ↦ block_below n bs target k
    ]

-- Of an object, the block that a position stands in, by the innermost block there. (own)
abbrev pub block_of : List Block → ℕ → Option ℕ → Option Block
block_of bs target inner = option_and_then (λ k. block_below (suc k) bs target k) inner

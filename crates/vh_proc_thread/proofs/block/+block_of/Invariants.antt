use Rattle.std.proofs.Common.{◌+◌}
use Rattle.std.specs.Option.{option_map_or}
use Rattle.vh_proc_thread.proofs.block.+block_of.Given as goal

-- The number of the block falls.
abbrev pub decreases-block_of : goal.decreases-block_of
decreases-block_of l = option_map_or (λ n. n + 1) l.inner 0

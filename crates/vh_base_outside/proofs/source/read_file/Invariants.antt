use Rattle.std.proofs.Common.{◌≤◌, vec_len}
use Rattle.vh_base_outside.proofs.source.read_file.Given as goal

abbrev pub invariant-chunks : goal.invariant-chunks
invariant-chunks g l = vec_len l.bytes ≤ l.limit

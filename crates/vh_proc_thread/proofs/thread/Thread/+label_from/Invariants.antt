use Rattle.std.proofs.Common.{length}
use Rattle.vh_proc_thread.proofs.thread.Thread.+label_from.Given as goal

-- The calls get fewer.
abbrev pub decreases-label_from : goal.decreases-label_from
decreases-label_from l = length l.calls.now

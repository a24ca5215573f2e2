use Rattle.std.proofs.Common.{length}
use Rattle.vh_proc_thread.proofs.thread.Thread.+walk.Given as goal

-- The calls get fewer.
abbrev pub decreases-walk : goal.decreases-walk
decreases-walk l = length l.self.now.calls

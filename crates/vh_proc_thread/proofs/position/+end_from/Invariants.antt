use Rattle.vh_proc_thread.proofs.position.+end_from.Given as goal

-- The steps that are left.
abbrev pub decreases-end_from : goal.decreases-end_from
decreases-end_from l = l.steps

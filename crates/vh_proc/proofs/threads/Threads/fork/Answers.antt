use Rattle.vh_proc.proofs.threads.Threads.fork.Goals as goal

pub returns-clause-runs : goal.returns-clause-runs
returns-clause-runs c = c.begin_branches.ensures.runs c.args.d.now (c.wait_for.ensures.runs c.args.d.now c.requires.runs)

pub returns-then-is_empty-clause-runs : goal.returns-then-is_empty-clause-runs
returns-then-is_empty-clause-runs c = c.go_on.ensures.runs c.args.d.now c.requires.runs

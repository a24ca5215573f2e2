use Rattle.vh_proc.proofs.threads.Threads.end.Goals as goal

pub join-requires : goal.join-requires
join-requires c = record { runs = c.take_out.ensures.runs c.args.d.now c.requires.runs }

pub returns-in_default-clause-runs : goal.returns-in_default-clause-runs
returns-in_default-clause-runs c = c.take_out.ensures.runs c.args.d.now c.requires.runs

use Rattle.vh_kernel_laws.proofs.LawsLemmas.{paths-keep-laws, runs-keep-laws, opens-fresh}
use Rattle.vh_kernel_laws.proofs.theorem.laws.Goals as goal

pub returns-clause-paths : goal.returns-clause-paths
returns-clause-paths c = paths-keep-laws

pub returns-clause-runs : goal.returns-clause-runs
returns-clause-runs c = runs-keep-laws

pub returns-clause-opens : goal.returns-clause-opens
returns-clause-opens c = opens-fresh

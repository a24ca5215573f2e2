use Rattle.vh_kernel.proofs.OneAfterLemmas.{one-state-after}
use Rattle.vh_kernel.proofs.NotedLemmas.{opens-noted, stays-noted, tells-standing, stands-once}
use Rattle.vh_kernel.proofs.RunLemmas.{one-run}
use Rattle.vh_kernel.proofs.SoundLemmas.{opens-sound, stays-sound}
use Rattle.vh_kernel.proofs.TableLemmas.{steps-by-table, table-by-steps}
use Rattle.vh_kernel.proofs.laws.step_laws.Goals as goal

pub returns-clause-by_table : goal.returns-clause-by_table
returns-clause-by_table c = steps-by-table

pub returns-clause-by_choice : goal.returns-clause-by_choice
returns-clause-by_choice c = table-by-steps

pub returns-clause-opens : goal.returns-clause-opens
returns-clause-opens c = opens-sound

pub returns-clause-stays : goal.returns-clause-stays
returns-clause-stays c = stays-sound

pub returns-clause-one_after : goal.returns-clause-one_after
returns-clause-one_after c = one-state-after

pub returns-clause-one_run : goal.returns-clause-one_run
returns-clause-one_run c = one-run

pub returns-clause-opens_noted : goal.returns-clause-opens_noted
returns-clause-opens_noted c = opens-noted

pub returns-clause-stays_noted : goal.returns-clause-stays_noted
returns-clause-stays_noted c = stays-noted

pub returns-clause-tells_standing : goal.returns-clause-tells_standing
returns-clause-tells_standing c = tells-standing

pub returns-clause-stands_once : goal.returns-clause-stands_once
returns-clause-stands_once c = stands-once

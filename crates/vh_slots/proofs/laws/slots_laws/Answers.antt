use Rattle.vh_slots.proofs.LawsLemmas.{over, bounded, room}
use Rattle.vh_slots.proofs.laws.slots_laws.Goals as goal

pub returns-clause-over : goal.returns-clause-over
returns-clause-over g c = over

pub returns-clause-bounded : goal.returns-clause-bounded
returns-clause-bounded g c = bounded

pub returns-clause-room : goal.returns-clause-room
returns-clause-room g c = room

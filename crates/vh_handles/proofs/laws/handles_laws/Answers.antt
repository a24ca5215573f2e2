use Rattle.vh_handles.proofs.LawsLemmas.{opens-sound, opens-one, frees-one, advances-one}
use Rattle.vh_handles.proofs.laws.handles_laws.Goals as goal

pub returns-clause-none : goal.returns-clause-none
returns-clause-none c = opens-sound

pub returns-clause-opens : goal.returns-clause-opens
returns-clause-opens c = opens-one

pub returns-clause-frees : goal.returns-clause-frees
returns-clause-frees c = frees-one

pub returns-clause-advances : goal.returns-clause-advances
returns-clause-advances c = advances-one

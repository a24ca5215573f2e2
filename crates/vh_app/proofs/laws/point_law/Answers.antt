use Rattle.vh_app.proofs.TodoLemmas.{startup-begins, procedure-begins, orders-in-turn}
use Rattle.vh_app.proofs.laws.point_law.Goals as goal

pub returns-clause-begins : goal.returns-clause-begins
returns-clause-begins c = startup-begins

pub returns-clause-starts : goal.returns-clause-starts
returns-clause-starts c = procedure-begins

pub returns-clause-goes : goal.returns-clause-goes
returns-clause-goes c = orders-in-turn

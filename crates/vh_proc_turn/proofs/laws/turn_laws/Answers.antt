use Rattle.vh_proc_turn.proofs.LawsLemmas.{comes-to-its-value}
use Rattle.vh_proc_turn.proofs.laws.turn_laws.Goals as goal

pub returns : goal.returns
returns c = record { drivers = comes-to-its-value }

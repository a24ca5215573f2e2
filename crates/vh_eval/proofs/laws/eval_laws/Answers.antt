use Rattle.vh_eval.proofs.LawsLemmas.{has_value_of_parts}
use Rattle.vh_eval.proofs.laws.eval_laws.Goals as goal

pub returns : goal.returns
returns c = record { parts = has_value_of_parts }

use Rattle.vh_sense.proofs.LawsLemmas.{wakes_who_is_met, leaves_who_is_not_met, leaves_others, wakes_in_turn, wakes_to_the_end, follows_in_turn, follows_to_the_end}
use Rattle.vh_sense.proofs.laws.sense_laws.Goals as goal

pub returns : goal.returns
returns c = record {
  met = wakes_who_is_met;
  left = leaves_who_is_not_met;
  others = leaves_others;
  turn = wakes_in_turn;
  end = wakes_to_the_end;
  follows = follows_in_turn;
  follows_end = follows_to_the_end;
}

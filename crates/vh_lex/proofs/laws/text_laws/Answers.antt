use Rattle.vh_lex.proofs.CoverLemmas.{covers, never_both}
use Rattle.vh_lex.proofs.ChainLemmas.{spelled_has_text, text_or_refused, fault_stops}
use Rattle.vh_lex.proofs.ReachedLemmas.{text_is_spelled, one_text}
use Rattle.vh_lex.proofs.LongestLemmas.{longest}
use Rattle.vh_lex.proofs.laws.text_laws.Goals as goal

pub returns : goal.returns
returns c =
    record {
      covers = covers;
      spelled = spelled_has_text;
      text = text_is_spelled;
      one = one_text;
      refused = text_or_refused;
      never = never_both;
      stops = fault_stops;
      longest = longest;
    }

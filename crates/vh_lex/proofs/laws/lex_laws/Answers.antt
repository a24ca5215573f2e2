use Rattle.vh_lex.proofs.LawsLemmas.{one_list, spelled_or_refused, never_both, fault_stays}
use Rattle.vh_lex.proofs.laws.lex_laws.Goals as goal

pub returns-clause-one_list : goal.returns-clause-one_list
returns-clause-one_list c = one_list

pub returns-clause-spelled_or_refused : goal.returns-clause-spelled_or_refused
returns-clause-spelled_or_refused c = spelled_or_refused

pub returns-clause-never_both : goal.returns-clause-never_both
returns-clause-never_both c = never_both

pub returns-clause-fault_stays : goal.returns-clause-fault_stays
returns-clause-fault_stays c = fault_stays

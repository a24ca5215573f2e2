use Rattle.vh_display.proofs.LawsLemmas.{shows_bytes, wants_values, shows_names, shows_percents, ends_with_nothing}
use Rattle.vh_display.proofs.laws.display_laws.Goals as goal

pub returns-clause-bytes : goal.returns-clause-bytes
returns-clause-bytes c = shows_bytes

pub returns-clause-values : goal.returns-clause-values
returns-clause-values c = wants_values

pub returns-clause-names : goal.returns-clause-names
returns-clause-names c = shows_names

pub returns-clause-percents : goal.returns-clause-percents
returns-clause-percents c = shows_percents

pub returns-clause-ends : goal.returns-clause-ends
returns-clause-ends c = ends_with_nothing

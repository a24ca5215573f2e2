use Rattle.vh_design.proofs.LawsLemmas.{parts_come_before, reads_fit, nodes_are_measured, units_fit, scopes_come_before, drivers_are_of_nets, precision_fits}
use Rattle.vh_design.proofs.CodeLawsLemmas.{codes_may_stand, bodies_may_stand, positions_are_there, expressions_are_there, changes_fit, delays_fit, cases_are_measured, waits_fit, shows_fit, statements_fit}
use Rattle.vh_design.proofs.laws.design_laws.Goals as goal

pub returns-clause-parts : goal.returns-clause-parts
returns-clause-parts c = parts_come_before

pub returns-clause-reads : goal.returns-clause-reads
returns-clause-reads c = reads_fit

pub returns-clause-measured : goal.returns-clause-measured
returns-clause-measured c = nodes_are_measured

pub returns-clause-units : goal.returns-clause-units
returns-clause-units c = units_fit

pub returns-clause-precision : goal.returns-clause-precision
returns-clause-precision c = precision_fits

pub returns-clause-scopes : goal.returns-clause-scopes
returns-clause-scopes c = scopes_come_before

pub returns-clause-drivers : goal.returns-clause-drivers
returns-clause-drivers c = drivers_are_of_nets

pub returns-clause-codes : goal.returns-clause-codes
returns-clause-codes c = codes_may_stand

pub returns-clause-bodies : goal.returns-clause-bodies
returns-clause-bodies c = bodies_may_stand

pub returns-clause-positions : goal.returns-clause-positions
returns-clause-positions c = positions_are_there

pub returns-clause-changes : goal.returns-clause-changes
returns-clause-changes c = changes_fit

pub returns-clause-delays : goal.returns-clause-delays
returns-clause-delays c = delays_fit

pub returns-clause-cases : goal.returns-clause-cases
returns-clause-cases c = cases_are_measured

pub returns-clause-waits : goal.returns-clause-waits
returns-clause-waits c = waits_fit

pub returns-clause-shows : goal.returns-clause-shows
returns-clause-shows c = shows_fit

pub returns-clause-statements : goal.returns-clause-statements
returns-clause-statements c = statements_fit

pub returns-clause-expressions : goal.returns-clause-expressions
returns-clause-expressions c = expressions_are_there

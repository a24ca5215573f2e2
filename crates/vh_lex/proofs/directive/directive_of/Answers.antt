use Rattle.vh_lex.specs.Directives.{directive_rows}
use Rattle.vh_lex.proofs.directive.directive_of.Goals as goal

pub returns : goal.returns
unfolding directive_rows
returns c = c.spelled.ensures

-- Names go on by one.
use Rattle.std.proofs.Common.{sym, ◌∙◌}
use Rattle.vh_base.specs.Lists.{names_seen}
use Rattle.vh_app_script.specs.Views.{terminals}
use Rattle.vh_app_script.proofs.Loops.{names_go_on}
use Rattle.vh_app_script.proofs.app.further_names.Goals as goal

pub names-preserved : goal.names-preserved
names-preserved c = c.names.invariant ∙ names_go_on c.args.levels c.args.rules (names_seen c.names.names.keys) _ (terminals c.names.rest.now) _ _ (sym c.names-test.ensures) c.in_ok-more.ensures c.in_ok-rest.ensures

-- What is read from the start on is what is read from here on.
use Rattle.std.proofs.Common.{◌≡◌, length}
use Rattle.vh_parse_syntax.specs.Items.{more_delayed}
use Rattle.vh_parse_expr.specs.Views.{read_from}
use Rattle.vh_parse_parts.specs.Views.{delayed_tree}
use Rattle.vh_parse_parts.proofs.nets.more_delayed.Given as goal

abbrev pub invariant-nets : goal.invariant-nets
invariant-nets l = read_from l.depth (more_delayed (delayed_tree l.initial.all)) l.initial.rest ≡ read_from l.depth (more_delayed (delayed_tree l.all)) l.rest

abbrev pub decreases-nets : goal.decreases-nets
decreases-nets l = length l.rest.tokens.now

-- What is read from the start on is what is read from here on.
use Rattle.std.proofs.Common.{◌≡◌, length}
use Rattle.vh_parse_expr.specs.Views.{read_from}
use Rattle.vh_parse_parts.specs.Pieces.{more_targs}
use Rattle.vh_parse_parts.specs.Views.{targs_tree}
use Rattle.vh_parse_parts.proofs.targs.more_targs.Given as goal

abbrev pub invariant-targs : goal.invariant-targs
invariant-targs l = read_from l.depth (more_targs (targs_tree l.initial.all)) l.initial.rest ≡ read_from l.depth (more_targs (targs_tree l.all)) l.rest

abbrev pub decreases-targs : goal.decreases-targs
decreases-targs l = length l.rest.tokens.now

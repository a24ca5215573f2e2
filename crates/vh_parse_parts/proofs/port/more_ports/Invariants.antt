-- What is read from the start on is what is read from here on.
use Rattle.std.proofs.Common.{◌≡◌, length}
use Rattle.vh_parse_expr.specs.Views.{read_from}
use Rattle.vh_parse_parts.specs.Pieces.{more_ports}
use Rattle.vh_parse_parts.specs.Views.{header_tree}
use Rattle.vh_parse_parts.proofs.port.more_ports.Given as goal

abbrev pub invariant-ports : goal.invariant-ports
invariant-ports l = read_from l.depth (more_ports (header_tree l.initial.header)) l.initial.rest ≡ read_from l.depth (more_ports (header_tree l.header)) l.rest

abbrev pub decreases-ports : goal.decreases-ports
decreases-ports l = length l.rest.tokens.now

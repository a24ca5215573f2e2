-- The range is left out as the table says.
use Rattle.vh_parse_parts.proofs.targs.targ_id.Goals as goal

pub returns : goal.returns
returns c = rw c.targ_bare.ensures at c.bare_id.ensures

-- Each identifier is its own tree.
use Rattle.vh_parse_parts.proofs.Same.{ids_same}
use Rattle.vh_parse_parts.proofs.ids.ids.Goals as goal

pub returns : goal.returns
returns c = ids_same _ _ c.list.ensures

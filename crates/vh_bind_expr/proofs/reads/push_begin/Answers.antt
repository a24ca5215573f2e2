use Rattle.vh_bind_expr.proofs.NamesLemmas.{later-below}
use Rattle.vh_bind_expr.proofs.reads.push_begin.Goals as goal

pub returns-clause-below : goal.returns-clause-below
returns-clause-below c = later-below c.args.given _ _ c.requires.given c.in_ok-push_call.ensures.grows

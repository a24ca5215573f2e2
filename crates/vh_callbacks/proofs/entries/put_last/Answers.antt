use Rattle.std.proofs.Common.{◌∙◌}
use Rattle.vh_callbacks.proofs.CallbacksLemmas.{insert_last}
use Rattle.vh_callbacks.proofs.KeepingLemmas.{live_kept}
use Rattle.vh_callbacks.proofs.entries.put_last.Goals as goal

pub returns-in-Ok-clause-ok : goal.returns-in-Ok-clause-ok
returns-in-Ok-clause-ok g c = c.in-Ok.ensures.entries ∙ insert_last 1 c.args.entries.now.entries c.args.number (live_kept c.args.live) c.requires

use Rattle.vh_callbacks.specs.Callbacks.{has_reason}
use Rattle.vh_kernel.proofs.OccurrencesLemmas.{any-some}
use Rattle.vh_kernel.proofs.occurrence.Occurrence.is_watched.Goals as goal

pub returns : goal.returns
returns c = rw (← c.self.view_is, c.matches.ensures) (any-some (has_reason c.self.inside.reason c.self.inside.object) (λ e. e.0) c.args.callbacks.now.callbacks.live)

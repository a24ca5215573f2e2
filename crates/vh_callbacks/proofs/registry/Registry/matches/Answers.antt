use Rattle.std.proofs.Common.{length, not, nat_eq, ◌∙◌, ap}
use Rattle.vh_callbacks.specs.declared.index.Watch.{Watch}
use Rattle.vh_callbacks.specs.Callbacks.{matches}
use Rattle.vh_callbacks.specs.Keeping.{live_of}
use Rattle.vh_callbacks.specs.Marks.{Registered}
use Rattle.vh_callbacks.specs.Watching.{numbers_under}
use Rattle.vh_callbacks.proofs.WatchingLemmas.{any_listed}
use Rattle.vh_callbacks.proofs.registry.Registry.matches.Goals as goal

pub returns : goal.returns
returns g c =
    let index = c.self.inside.index.entries in
    c.is_watched.ensures ∙ ap (λ (w : Watch). not (nat_eq (length (numbers_under w index)) 0)) c.watch_of.ensures
    ∙ any_listed c.args.reason c.args.o (live_of c.self.inside.entries.entries) index c.self.invariant.indexed
    ∙ ap (λ (r : Registered g.row.B.Denot). matches c.args.reason c.args.o r.callbacks) c.self.view_is

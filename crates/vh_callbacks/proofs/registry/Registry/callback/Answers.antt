use Rattle.std.proofs.Common.{◌≡◌, ℕ, Option, Some, None, Bor, refl, sym, ap, ◌∙◌}
use Rattle.std.specs.Option.{option_copied, option_map}
use Rattle.vh_callbacks.specs.declared.live.Live.{Live}
use Rattle.vh_callbacks.specs.Callbacks.{live_at}
use Rattle.vh_callbacks.specs.Keeping.{is_live_one, only}
use Rattle.vh_callbacks.specs.Marks.{Registered}
use Rattle.vh_callbacks.proofs.KeepingLemmas.{passing_at}
use Rattle.vh_callbacks.proofs.registry.Registry.callback.Goals as goal

-- What is read through a reference.
through : {X Y : Type 0} (f : X → Y) (r : Option (Bor X)) → option_map (λ (x : Bor X). f x.now) r ≡ option_map f (option_copied r)
through f None = refl
through f (Some x) = refl

pub returns-clause-live : goal.returns-clause-live
returns-clause-live g c =
    let es = c.self.inside.entries.entries in
    c.live_one.ensures ∙ ap (λ (n : ℕ). only is_live_one (live_at n es)) c.number.ensures
    ∙ sym (passing_at is_live_one c.args.c 1 es c.self.inside.next c.self.invariant.rise)
    ∙ ap (λ (r : Registered g.row.B.Denot). live_at c.args.c r.callbacks.live) c.self.view_is

pub returns-clause-info : goal.returns-clause-info
returns-clause-info g c =
    through (λ (l : Live g.row.B.Denot). l.registration) c.live_one.result
    ∙ ap (option_map (λ (l : Live g.row.B.Denot). l.registration)) (returns-clause-live g c)

pub returns-clause-body : goal.returns-clause-body
returns-clause-body g c =
    through (λ (l : Live g.row.B.Denot). l.body) c.live_one.result
    ∙ ap (option_map (λ (l : Live g.row.B.Denot). l.body)) (returns-clause-live g c)

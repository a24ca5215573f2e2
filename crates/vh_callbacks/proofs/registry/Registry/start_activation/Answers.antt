use Rattle.std.proofs.Common.{◌≡◌, ◌<◌, ℕ, refl, sym, ap, subst, ◌∙◌}
use Rattle.vh_callbacks.specs.Callbacks.{live_at, one_more, activations_of}
use Rattle.vh_callbacks.specs.Keeping.{activations_in}
use Rattle.vh_callbacks.specs.Marks.{Registered}
use Rattle.vh_callbacks.proofs.LawsLemmas.{running_more}
use Rattle.vh_callbacks.proofs.KeepingLemmas.{kept_changed}
use Rattle.vh_callbacks.proofs.Views.{activations_are, seen_changed}
use Rattle.vh_callbacks.proofs.registry.Registry.start_activation.Goals as goal

pub start-requires : goal.start-requires
start-requires g c =
    let es = c.self.inside.entries.entries in
    let are : activations_of c.args.c c.args.self.now.callbacks ≡ activations_in (live_at c.number.result es) =
    ap (λ (r : Registered g.row.B.Denot). activations_of c.args.c r.callbacks) (sym c.self.view_is)
    ∙ activations_are c.args.c c.self.inside.next es c.self.invariant.rise
    ∙ ap (λ (n : ℕ). activations_in (live_at n es)) (sym c.number.ensures) in
    let P : ℕ → Type 0 = λ n. n < 64 in
    subst P are c.requires.few

pub invariant_of-self : goal.invariant_of-self
invariant_of-self g c =
    rw c.start.ensures
    (kept_changed one_more c.number.result c.self.inside.entries.entries c.self.inside.index.entries c.self.inside.next c.self.inside.count c.self.inside.sets.items
    c.self.invariant (λ w l. refl) (λ l at. running_more l))

pub returns : goal.returns
returns g c =
    rw (c.start.ensures, ← c.self.view_is, ← c.number.ensures, seen_changed one_more c.number.result c.self.inside.next c.self.inside.entries.entries c.self.invariant.rise) refl

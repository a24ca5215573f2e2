use Rattle.std.proofs.Common.{◌≡◌, ◌<◌, ℕ, List, Some, is_some, refl, sym, ap, subst, ◌∙◌}
use Rattle.std.specs.Option.{option_map}
use Rattle.vh_callbacks.specs.declared.live.Kept.{Kept}
use Rattle.vh_callbacks.specs.Callbacks.{live_at, one_less, activations_of}
use Rattle.vh_callbacks.specs.Keeping.{activations_in}
use Rattle.vh_callbacks.specs.Marks.{Registered}
use Rattle.vh_callbacks.proofs.LawsLemmas.{running_less}
use Rattle.vh_callbacks.proofs.KeepingLemmas.{kept_changed, kept_forgotten}
use Rattle.vh_callbacks.proofs.Views.{activations_are, ending, ending_live, seen_forgotten, seen_less, given_back, nothing_back, not_last, body_is}
use Rattle.vh_callbacks.proofs.registry.Registry.end_activation.Goals as goal

pub end-requires : goal.end-requires
end-requires g c =
    let es = c.self.inside.entries.entries in
    let are : activations_of c.args.c c.args.self.now.callbacks ≡ activations_in (live_at c.number-number.result es) =
    ap (λ (r : Registered g.row.B.Denot). activations_of c.args.c r.callbacks) (sym c.self.view_is)
    ∙ activations_are c.args.c c.self.inside.next es c.self.invariant.rise
    ∙ ap (λ (n : ℕ). activations_in (live_at n es)) (sym c.number-number.ensures) in
    let P : ℕ → Type 0 = λ n. 0 < n in
    subst P are c.requires

-- By whether the last ends
pub invariant_of-self : goal.invariant_of-self
invariant_of-self g c =
    let es = c.self.inside.entries.entries in
    let n = c.number-number.result in
    rw c.if-not-end.ensures.entries
    (kept_changed one_less n es c.self.inside.index.entries c.self.inside.next c.self.inside.count c.self.inside.sets.items
    c.self.invariant (λ w l. refl)
    (λ l at. running_less l (c.self.invariant.runs n l at) (not_last n c.self.inside.next es l c.self.invariant.rise (sym c.if-not-end.ensures.last) at)))

pub returns-then-not-end-clause-body : goal.returns-then-not-end-clause-body
returns-then-not-end-clause-body g c =
    rw (← c.self.view_is, ← c.number-number.ensures)
    (nothing_back c.number-number.result c.self.inside.next c.self.inside.entries.entries c.self.invariant.rise (sym c.if-not-end.ensures.last))

pub returns-then-not-end-clause-ended : goal.returns-then-not-end-clause-ended
returns-then-not-end-clause-ended g c =
    rw (
      c.if-not-end.ensures.entries,
      ← c.self.view_is,
      ← c.number-number.ensures,
      seen_less c.number-number.result c.self.inside.next c.self.inside.entries.entries c.self.invariant.rise (sym c.if-not-end.ensures.last),
    ) refl

pub take_body-requires : goal.take_body-requires
take_body-requires g c =
    let n = c.number-number.result in
    ap (λ (xs : List (ℕ × Kept g.row.B.Denot)). is_some (live_at n xs)) c.if-not-end.ensures.entries
    ∙ ap is_some (ending (live_at n c.self.inside.entries.entries) (sym c.if-not-end.ensures.last)).is

pub invariant_of-self-2 : goal.invariant_of-self-2
invariant_of-self-2 g c =
    let es = c.self.inside.entries.entries in
    let n = c.number-number.result in
    rw (c.take_body.ensures.entries, c.if-not-end.ensures.entries)
    (kept_forgotten n es c.self.inside.index.entries c.self.inside.next c.self.inside.count c.self.inside.sets.items c.self.invariant
    (ending_live n c.self.inside.next es c.self.invariant.rise (ending (live_at n es) (sym c.if-not-end.ensures.last))))

pub returns-clause-body : goal.returns-clause-body
returns-clause-body g c =
    let es = c.self.inside.entries.entries in
    let n = c.number-number.result in
    let e = ending (live_at n es) (sym c.if-not-end.ensures.last) in
    let is : c.take_body.result ≡ e.kept.callback.body =
    body_is (live_at n es) e.kept c.take_body.result e.is
    (ap (λ (xs : List (ℕ × Kept g.row.B.Denot)). option_map (λ (k : Kept g.row.B.Denot). k.callback.body) (live_at n xs)) (sym c.if-not-end.ensures.entries) ∙ c.take_body.ensures.body) in
    rw (← c.self.view_is, ← c.number-number.ensures)
    (ap (λ (b : g.row.B.Denot). Some b) is ∙ given_back n c.self.inside.next es c.self.invariant.rise e)

pub returns-clause-ended : goal.returns-clause-ended
returns-clause-ended g c =
    let es = c.self.inside.entries.entries in
    let n = c.number-number.result in
    rw (
      c.take_body.ensures.entries,
      c.if-not-end.ensures.entries,
      ← c.self.view_is,
      ← c.number-number.ensures,
      seen_forgotten n c.self.inside.next es c.self.invariant.rise (ending (live_at n es) (sym c.if-not-end.ensures.last)),
    ) refl

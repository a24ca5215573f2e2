use Rattle.std.proofs.Common.{◌≡◌, ℕ, Some, None, is_some, sym, ap, ◌∙◌}
use Rattle.std.specs.Option.{option_copied, option_map}
use Rattle.vh_callbacks.specs.declared.live.Kept.{Kept}
use Rattle.vh_callbacks.specs.declared.live.Live.{Live}
use Rattle.vh_callbacks.specs.Callbacks.{live_at, known_at}
use Rattle.vh_callbacks.specs.Marks.{Registered}
use Rattle.vh_callbacks.proofs.KeepingLemmas.{known_is}
use Rattle.vh_callbacks.proofs.MarksLemmas.{not_both}
use Rattle.vh_callbacks.proofs.registry.Registry.body.Goals as goal

pub unreachable-requires : goal.unreachable-requires
unreachable-requires g c =
    let es = c.self.inside.entries.entries in
    let none : live_at c.args.c es ≡ None = ap (λ (n : ℕ). live_at n es) (sym c.number.ensures) ∙ sym c.get.ensures.value ∙ ap option_copied c.in_default.is in
    let known : known_at c.args.c c.args.self.now.callbacks ≡ None =
    ap (λ (r : Registered g.row.B.Denot). known_at c.args.c r.callbacks) (sym c.self.view_is)
    ∙ known_is c.args.c es c.self.inside.next c.self.invariant.rise ∙ ap (option_map (λ (k : Kept g.row.B.Denot). k.callback)) none in
    not_both (is_some (known_at c.args.c c.args.self.now.callbacks)) c.requires.known (ap is_some known)

pub returns : goal.returns
returns g c =
    let es = c.self.inside.entries.entries in
    let at : live_at c.args.c es ≡ Some c.in-Some.kept.now = ap (λ (n : ℕ). live_at n es) (sym c.number.ensures) ∙ sym c.get.ensures.value ∙ ap option_copied c.in-Some.is in
    ap (option_map (λ (l : Live g.row.B.Denot). l.body))
    (ap (λ (r : Registered g.row.B.Denot). known_at c.args.c r.callbacks) (sym c.self.view_is)
    ∙ known_is c.args.c es c.self.inside.next c.self.invariant.rise ∙ ap (option_map (λ (k : Kept g.row.B.Denot). k.callback)) at)

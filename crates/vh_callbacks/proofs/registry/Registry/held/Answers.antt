use Rattle.std.proofs.Common.{◌≡◌, ℕ, List, Bool, Option, Some, None, cond, not, sym, ap, ◌∙◌}
use Rattle.std.specs.Option.{option_copied, option_map}
use Rattle.vh_callbacks.specs.declared.live.Kept.{Kept}
use Rattle.vh_callbacks.specs.declared.live.Live.{Live}
use Rattle.vh_callbacks.specs.Callbacks.{Rise, live_at, held_of}
use Rattle.vh_callbacks.specs.Keeping.{is_held_one, only, shown}
use Rattle.vh_callbacks.specs.Marks.{Registered}
use Rattle.vh_callbacks.proofs.KeepingLemmas.{passing_at}
use Rattle.vh_callbacks.proofs.registry.Registry.held.Goals as goal

-- What is held under a number, by what the map has there.
held_is : {B : Type 0} (n c next : ℕ) (o : Option (Kept B)) (es : List (ℕ × Kept B)) (sets : List (List ℕ)) (s : Registered B) → Rise 1 es next → n ≡ c → o ≡ live_at n es
    → shown es next sets ≡ s → option_map (λ (l : Live B). l.registration) (only is_held_one o) ≡ held_of c s.callbacks
held_is {B} n c next o es sets s h same at view =
    ap (λ (p : Option (Kept B)). option_map (λ (l : Live B). l.registration) (only is_held_one p)) (at ∙ ap (λ (m : ℕ). live_at m es) same)
    ∙ ap (option_map (λ (l : Live B). l.registration)) (sym (passing_at is_held_one c 1 es next h))
    ∙ ap (λ (r : Registered B). held_of c r.callbacks) view

pub returns-in_err-kept : goal.returns-in_err-kept
returns-in_err-kept g c =
    c.from_residual.ensures
    ∙ held_is c.number.result c.args.c c.self.inside.next None c.self.inside.entries.entries c.self.inside.sets.items c.args.self.now c.self.invariant.rise c.number.ensures
    (sym (ap option_copied c.in_err-kept.was) ∙ c.get.ensures.value) c.self.view_is

pub returns-then-kept : goal.returns-then-kept
returns-then-kept g c =
    ap (λ (b : Bool). option_map (λ (l : Live g.row.B.Denot). l.registration) (cond (not b) (Some c.in_ok-kept.kept.now.callback) None)) (sym c.if-kept.true)
    ∙ held_is c.number.result c.args.c c.self.inside.next (Some c.in_ok-kept.kept.now) c.self.inside.entries.entries c.self.inside.sets.items c.args.self.now c.self.invariant.rise c.number.ensures
    (sym (ap option_copied c.in_ok-kept.was) ∙ c.get.ensures.value) c.self.view_is

pub returns : goal.returns
returns g c =
    ap (λ (b : Bool). option_map (λ (l : Live g.row.B.Denot). l.registration) (cond (not b) (Some c.in_ok-kept.kept.now.callback) None)) (sym c.if-kept.false)
    ∙ held_is c.number.result c.args.c c.self.inside.next (Some c.in_ok-kept.kept.now) c.self.inside.entries.entries c.self.inside.sets.items c.args.self.now c.self.invariant.rise c.number.ensures
    (sym (ap option_copied c.in_ok-kept.was) ∙ c.get.ensures.value) c.self.view_is

use Rattle.std.proofs.Common.{◌≡◌, ◌+◌, ℕ, List, length, None, true, false, refl, sym, ap, ◌∙◌, arith}
use Rattle.std.specs.Prelude.{is_some}
use Rattle.std.specs.Option.{option_map}
use Rattle.vh_callbacks.specs.declared.live.Kept.{Kept}
use Rattle.vh_callbacks.specs.declared.registration.Removed.TheVariants as removal
use Rattle.vh_callbacks.specs.Callbacks.{live_at, without, changed}
use Rattle.vh_callbacks.specs.Keeping.{is_live_one, live_of, unmarked}
use Rattle.vh_callbacks.specs.Marks.{set_at, without_number}
use Rattle.vh_callbacks.specs.Watching.{Indexes}
use Rattle.vh_callbacks.proofs.CallbacksLemmas.{rise_changed, rise_without, length_less}
use Rattle.vh_callbacks.proofs.MarksLemmas.{without_none, not_among, not_both}
use Rattle.vh_callbacks.proofs.KeepingLemmas.{rise_passing, passing_without, live_unmarked, kept_gone, runs_unmarked, runs_without}
use Rattle.vh_callbacks.proofs.WatchingLemmas.{indexed_removed}
use Rattle.vh_callbacks.proofs.Views.{found, none_live, live_is, runs_of, seen_none, seen_running, seen_gone, gone_running, gone_quiet, body_is}
use Rattle.vh_callbacks.proofs.registry.Registry.remove.Goals as goal

-- ---- it isn't live

pub returns-in_default-clause-answer : goal.returns-in_default-clause-answer
returns-in_default-clause-answer g c =
    let none = none_live c.number-number.result c.self.inside.next c.self.inside.entries.entries c.self.invariant.rise (sym c.watched.ensures ∙ c.in_default.is) in
    rw (← c.self.view_is, ← c.number-number.ensures, none) refl

pub returns-in_default-clause-callbacks : goal.returns-in_default-clause-callbacks
returns-in_default-clause-callbacks g c =
    let none = none_live c.number-number.result c.self.inside.next c.self.inside.entries.entries c.self.invariant.rise (sym c.watched.ensures ∙ c.in_default.is) in
    rw (← c.self.view_is, ← c.number-number.ensures) (seen_none c.number-number.result c.self.inside.next c.self.inside.entries.entries c.self.invariant.rise none)

pub returns-in_default-clause-sets : goal.returns-in_default-clause-sets
returns-in_default-clause-sets g c =
    let n = c.number-number.result in
    let es = c.self.inside.entries.entries in
    let none : live_at n (live_of es) ≡ None = none_live n c.self.inside.next es c.self.invariant.rise (sym c.watched.ensures ∙ c.in_default.is) in
    rw (← c.self.view_is, ← c.number-number.ensures)
    (λ d.
    sym (without_none n (set_at d c.self.inside.sets.items)
    (not_among n (set_at d c.self.inside.sets.items)
    (λ among. not_both (is_some (live_at n (live_of es))) (c.self.invariant.live d n among) (ap is_some none)))))

-- ---- it is

pub overflow_sub-self : goal.overflow_sub-self
overflow_sub-self g c =
    let n = c.number-number.result in
    let es = c.self.inside.entries.entries in
    let f = found (live_at n es) c.in-Some.w (sym c.watched.ensures ∙ c.in-Some.is) in
    let more : length (without n (live_of es)) + 1 ≡ length (live_of es) =
    length_less n (live_of es) (ap is_some (live_is n c.self.inside.next c.in-Some.w es c.self.invariant.rise f)) in
    let many = c.self.invariant.count in
    omega arith

pub invariant_of-self : goal.invariant_of-self
invariant_of-self g c =
    let n = c.number-number.result in
    let es = c.self.inside.entries.entries in
    let next = c.self.inside.next in
    let rise = c.self.invariant.rise in
    let f = found (live_at n es) c.in-Some.w (sym c.watched.ensures ∙ c.in-Some.is) in
    let here = live_is n next c.in-Some.w es rise f in
    let indexed : Indexes c.take.new.index.entries (without n (live_of es)) =
    indexed_removed c.in-Some.w c.args.c n f.kept.callback (live_of es) next c.self.inside.index.entries c.take.new.index.entries c.number-number.ensures f.watched
    (rise_passing is_live_one 1 es next rise) here c.self.invariant.indexed c.take.ensures in
    rw c.if-hold.ensures.entries
    (kept_gone n es (changed unmarked n es) c.take.new.index.entries c.self.inside.index.entries next c.self.inside.count c.self.inside.sets.items c.drop_everywhere.new.sets.items
    c.self.invariant (rise_changed unmarked n 1 es next rise) (live_unmarked n es next rise) (ap is_some here)
    (runs_unmarked n f.kept es next rise f.is (runs_of (live_at n es) c.in-Some.w true f c.if-hold.ensures.running) c.self.invariant.runs)
    indexed
    (λ d. c.drop_everywhere.ensures d ∙ ap (λ (m : ℕ). without_number m (set_at d c.self.inside.sets.items)) (sym c.number-number.ensures)))

pub returns-then-hold-clause-answer : goal.returns-then-hold-clause-answer
returns-then-hold-clause-answer g c =
    let n = c.number-number.result in
    let es = c.self.inside.entries.entries in
    let f = found (live_at n es) c.in-Some.w (sym c.watched.ensures ∙ c.in-Some.is) in
    rw (← c.self.view_is, ← c.number-number.ensures, live_is n c.self.inside.next c.in-Some.w es c.self.invariant.rise f)
    (gone_running f.kept.callback (runs_of (live_at n es) c.in-Some.w true f c.if-hold.ensures.running))

pub returns-then-hold-clause-callbacks : goal.returns-then-hold-clause-callbacks
returns-then-hold-clause-callbacks g c =
    let n = c.number-number.result in
    let es = c.self.inside.entries.entries in
    let f = found (live_at n es) c.in-Some.w (sym c.watched.ensures ∙ c.in-Some.is) in
    rw (c.if-hold.ensures.entries, ← c.self.view_is, ← c.number-number.ensures)
    (seen_running n c.self.inside.next c.in-Some.w es c.self.invariant.rise f (runs_of (live_at n es) c.in-Some.w true f c.if-hold.ensures.running))

-- ---- no activation of it runs

pub invariant_of-self-2 : goal.invariant_of-self-2
invariant_of-self-2 g c =
    let n = c.number-number.result in
    let es = c.self.inside.entries.entries in
    let next = c.self.inside.next in
    let rise = c.self.invariant.rise in
    let f = found (live_at n es) c.in-Some.w (sym c.watched.ensures ∙ c.in-Some.is) in
    let here = live_is n next c.in-Some.w es rise f in
    let indexed : Indexes c.take.new.index.entries (without n (live_of es)) =
    indexed_removed c.in-Some.w c.args.c n f.kept.callback (live_of es) next c.self.inside.index.entries c.take.new.index.entries c.number-number.ensures f.watched
    (rise_passing is_live_one 1 es next rise) here c.self.invariant.indexed c.take.ensures in
    rw (c.take_body.ensures.entries, c.if-hold.ensures.entries)
    (kept_gone n es (without n es) c.take.new.index.entries c.self.inside.index.entries next c.self.inside.count c.self.inside.sets.items c.drop_everywhere.new.sets.items
    c.self.invariant (rise_without n 1 es next rise) (passing_without is_live_one n es next rise) (ap is_some here)
    (runs_without n es next rise c.self.invariant.runs)
    indexed
    (λ d. c.drop_everywhere.ensures d ∙ ap (λ (m : ℕ). without_number m (set_at d c.self.inside.sets.items)) (sym c.number-number.ensures)))

pub returns-clause-answer : goal.returns-clause-answer
returns-clause-answer g c =
    let n = c.number-number.result in
    let es = c.self.inside.entries.entries in
    let f = found (live_at n es) c.in-Some.w (sym c.watched.ensures ∙ c.in-Some.is) in
    let is : c.take_body.result ≡ f.kept.callback.body =
    body_is (live_at n es) f.kept c.take_body.result f.is
    (ap (λ (xs : List (ℕ × Kept g.row.B.Denot)). option_map (λ (k : Kept g.row.B.Denot). k.callback.body) (live_at n xs)) (sym c.if-hold.ensures.entries) ∙ c.take_body.ensures.body) in
    rw (← c.self.view_is, ← c.number-number.ensures, live_is n c.self.inside.next c.in-Some.w es c.self.invariant.rise f)
    (ap (λ (b : g.row.B.Denot). removal.Gone b) is ∙ gone_quiet f.kept.callback (runs_of (live_at n es) c.in-Some.w false f c.if-hold.ensures.running))

pub returns-clause-callbacks : goal.returns-clause-callbacks
returns-clause-callbacks g c =
    let n = c.number-number.result in
    let es = c.self.inside.entries.entries in
    let f = found (live_at n es) c.in-Some.w (sym c.watched.ensures ∙ c.in-Some.is) in
    rw (c.take_body.ensures.entries, c.if-hold.ensures.entries, ← c.self.view_is, ← c.number-number.ensures)
    (seen_gone n c.self.inside.next c.in-Some.w es c.self.invariant.rise f (runs_of (live_at n es) c.in-Some.w false f c.if-hold.ensures.running))

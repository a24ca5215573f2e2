use Rattle.std.proofs.Common.{◌≡◌, ℕ, List, [], Result, Ok, Err, OnOk, cond, nat_eq, sym, ap, subst, ◌∙◌}
use Rattle.std.specs.Option.{option_copied}
use Rattle.vh_callbacks.specs.declared.index.Watch.{Watch}
use Rattle.vh_callbacks.specs.Callbacks.{numbers_of}
use Rattle.vh_callbacks.specs.Keeping.{live_of}
use Rattle.vh_callbacks.specs.Marks.{Registered, IsSet, is_among, set_at, marked}
use Rattle.vh_callbacks.specs.Watching.{listed, numbers_under}
use Rattle.vh_callbacks.proofs.KeepingLemmas.{kept_filled, matching_set, matching_live}
use Rattle.vh_callbacks.proofs.MarksLemmas.{empty_stays}
use Rattle.vh_callbacks.proofs.WatchingLemmas.{listed_all}
use Rattle.vh_callbacks.proofs.registry.Registry.mark_all.Goals as goal

on_ok : {T E : Type 0} (r : Result T E) (P Q : Type 0) → (P → Q) → OnOk r P → OnOk r Q
on_ok (Ok x) P Q f p = f p
on_ok (Err e) P Q f p = tt

-- ---- nobody watches it

pub returns-in_default-clause-sets : goal.returns-in_default-clause-sets
returns-in_default-clause-sets g c =
    let es = c.self.inside.entries.entries in
    let index = c.self.inside.index.entries in
    let none : [] ≡ numbers_of c.args.reason c.args.o (live_of es) =
    ap listed (sym (ap option_copied c.in_default.is) ∙ c.numbers_for.ensures) ∙ ap (λ (w : Watch). numbers_under w index) c.watch_of.ensures
    ∙ listed_all c.args.reason c.args.o (live_of es) index c.self.invariant.indexed in
    let there : set_at c.args.depth c.self.inside.sets.items ≡ [] = ap (λ (r : Registered g.row.B.Denot). marked c.args.depth r) c.self.view_is ∙ c.requires.empty in
    rw (← c.self.view_is) (λ d. empty_stays c.args.depth d (numbers_of c.args.reason c.args.o (live_of es)) c.self.inside.sets.items (sym none) there)

-- ---- somebody does

pub invariant_of-self : goal.invariant_of-self
invariant_of-self g c =
    let es = c.self.inside.entries.entries in
    let index = c.self.inside.index.entries in
    let is : c.in-Some.numbers.now ≡ numbers_of c.args.reason c.args.o (live_of es) =
    ap listed (sym (ap option_copied c.in-Some.is) ∙ c.numbers_for.ensures) ∙ ap (λ (w : Watch). numbers_under w index) c.watch_of.ensures
    ∙ listed_all c.args.reason c.args.o (live_of es) index c.self.invariant.indexed in
    kept_filled c.args.depth c.fill_at.result c.in-Some.numbers.now es index c.self.inside.next c.self.inside.count c.self.inside.sets.items c.fill_at.new.sets.items
    (subst IsSet (sym is) (matching_set c.args.reason c.args.o es index c.self.inside.next c.self.inside.count c.self.inside.sets.items c.self.invariant))
    (λ n among. matching_live c.args.reason c.args.o es c.self.inside.next n c.self.invariant.rise (ap (is_among n) (sym is) ∙ among))
    c.fill_at.ensures.ok c.fill_at.ensures.kept c.self.invariant

pub returns-clause-sets : goal.returns-clause-sets
returns-clause-sets g c =
    let es = c.self.inside.entries.entries in
    let index = c.self.inside.index.entries in
    let is : c.in-Some.numbers.now ≡ numbers_of c.args.reason c.args.o (live_of es) =
    ap listed (sym (ap option_copied c.in-Some.is) ∙ c.numbers_for.ensures) ∙ ap (λ (w : Watch). numbers_under w index) c.watch_of.ensures
    ∙ listed_all c.args.reason c.args.o (live_of es) index c.self.invariant.indexed in
    rw (← c.self.view_is)
    (on_ok c.fill_at.result _ _
    (λ all d. all d ∙ ap (λ (xs : List ℕ). cond (nat_eq d c.args.depth) xs (set_at d c.self.inside.sets.items)) is)
    c.fill_at.ensures.ok)

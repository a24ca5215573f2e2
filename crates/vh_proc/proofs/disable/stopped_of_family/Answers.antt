use Rattle.std.proofs.Common.{◌≡◌, ◌∙◌, List, ◌∷◌, ℕ, sym, ap, subst, rules}
use Rattle.std.specs.List.Sorted.{IsStrictlySortedBy}
use Rattle.std.specs.Ordering.{nat_cmp}
use Rattle.std.proofs.lemmas.Map.Keys.{sorted_head, sorted_tail}
use Rattle.vh_proc.specs.Disabled.{Stopped, stopped_of}
use Rattle.vh_proc.specs.Views.{nobody, found_seen}
use Rattle.vh_proc.proofs.WalkLemmas.{those, family-enough, next-of, ended}
use Rattle.vh_proc.proofs.disable.stopped_of_family.Goals as goal

pub loop-p-init : goal.loop-p-init
loop-p-init c =
    let d = c.args.d.now in
    let es = c.args.all.now.entries in
    let is : c.into_iter-p-iterator.result ≡ c.args.family.now.keys = search rules in record {
      found = ap (λ (s : Stopped). stopped_of d c.args.target s (those c.into_iter-p-iterator.result es)) c.none-found.ensures.none
          ∙ ap (λ (ks : List ℕ). stopped_of d c.args.target nobody (those ks es)) is ∙ family-enough d c.args.target c.args.family.now es c.requires.has_all;
      rise = subst (IsStrictlySortedBy nat_cmp) (sym is) c.iter-p-items.ensures.ordered;
      all = c.none-found.ensures.all;
    }

pub loop-p-preserved : goal.loop-p-preserved
loop-p-preserved c =
    let d = c.args.d.now in
    let es = c.args.all.now.entries in
    let p = c.in-Some.p.now in
    let rest = c.next.new.self in
    let before = found_seen c.loop-p.found in
    let step : c.loop-p.p-iterator ≡ p ∷ rest = search rules in
    let sorted = subst (IsStrictlySortedBy nat_cmp) step c.loop-p.invariant.rise in record {
      found = ap (λ (s : Stopped). stopped_of d c.args.target s (those rest es)) c.in_ok-note_one.ensures.noted
          ∙ next-of d c.args.target p rest es before (sorted_head nat_cmp p rest sorted) c.rise.ensures
          ∙ ap (λ (ks : List ℕ). stopped_of d c.args.target before (those ks es)) (sym step) ∙ c.loop-p.invariant.found;
      rise = sorted_tail nat_cmp p rest sorted;
      all = c.in_ok-note_one.ensures.all;
    }

pub returns-clause-found : goal.returns-clause-found
returns-clause-found c =
    sym (ended c.args.d.now c.args.target (found_seen c.loop-p.found) c.loop-p.p-iterator c.args.all.now.entries c.in-None.ensures.steps.0) ∙ c.loop-p.invariant.found

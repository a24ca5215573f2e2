use Rattle.std.proofs.Common.{◌≡◌, ◌∙◌, ◌++◌, ◌∷◌, [], ℕ, List, sym, ap, Result, Ok, Err, OnErr, Some, rules}
use Rattle.std.specs.Option.{option_copied_mut}
use Rattle.vh_callbacks.specs.declared.index.Watch.{Watch}
use Rattle.vh_callbacks.specs.Watching.{listed, list_under, numbers_under}
use Rattle.vh_callbacks.proofs.WatchingLemmas.{list_changed, list_same}
use Rattle.vh_callbacks.proofs.index.push_at.Goals as goal

on_err : {A E : Type 0} (r : Result A E) (P : Type 0) → P → OnErr r P
on_err (Ok x) P p = tt
on_err (Err e) P p = p

pub returns-in_err-push-clause-kept : goal.returns-in_err-push-clause-kept
returns-in_err-push-clause-kept c =
    let v = c.push.new.self in
    let items = c.in-Some.numbers.now in
    let was : list_under c.args.w c.args.index.now.entries ≡ Some items = sym c.get_mut.ensures.value ∙ ap option_copied_mut c.in-Some.is in
    let upd = ((c.get_mut.follows.holds v).3 (search rules)).0 in
    let kept : (q : Watch) → list_under q (c.get_mut.follows.lender v).entries ≡ list_under q c.args.index.now.entries =
    λ q.
    list_changed c.args.w c.args.index.now.entries (c.get_mut.follows.lender v).entries (Some v) (Some items)
    upd (ap (λ (ns : List ℕ). Some ns) c.in_err-push.ensures.kept) q
    ∙ sym (list_same c.args.w c.args.index.now.entries (Some items) was q) in
    on_err _ _ kept

pub returns-clause-ok : goal.returns-clause-ok
returns-clause-ok c =
    let v = c.push.new.self in
    let items = c.in-Some.numbers.now in
    let was : numbers_under c.args.w c.args.index.now.entries ≡ items = ap listed (sym c.get_mut.ensures.value ∙ ap option_copied_mut c.in-Some.is) in
    list_changed c.args.w c.args.index.now.entries (c.get_mut.follows.lender v).entries (Some v) (Some (numbers_under c.args.w c.args.index.now.entries ++ c.args.number ∷ []))
    ((c.get_mut.follows.holds v).3 (search rules)).0
    (ap (λ (ns : List ℕ). Some ns) (c.in_ok-push.ensures.ok ∙ ap (λ (ns : List ℕ). ns ++ c.args.number ∷ []) (sym was)))

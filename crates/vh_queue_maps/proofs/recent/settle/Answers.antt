use Rattle.std.proofs.Common.{◌≡◌, ◌∷◌, ◌++◌, ◌∙◌, [], ℕ, List, Result, Ok, Err, true, OnOk, Some, slice_get, drop, sym, ap, subst}
use Rattle.std.specs.List.Sorted.{IsStrictlySortedBy}
use Rattle.std.specs.Map.{keys_of}
use Rattle.std.specs.Ordering.{nat_cmp}
use Rattle.std.specs.Result.{is_ok}
use Rattle.vh_queue_maps.proofs.RecentLemmas.{first-behind, one-behind}
use Rattle.vh_queue_maps.proofs.recent.settle.Goals as goal

on-ok : {X Y : Type 0} (r : Result X Y) (P : Type 0) → is_ok r ≡ true → OnOk r P → P
on-ok (Ok x) P is holds = holds
on-ok (Err y) P is holds = absurd (cc)

-- A row is its first entry and the others
split : {V : Type 0} (row : List (ℕ × V)) (e : ℕ × V) → Some e ≡ slice_get row 0 → row ≡ e ∷ drop 1 row
split [] e is = absurd (cc)
split (x ∷ row) e is = let same : e ≡ x = cc in ap (λ (y : ℕ × _). y ∷ row) (sym same)

pub returns-then-is_ok : goal.returns-then-is_ok
returns-then-is_ok g c =
    let tree = c.args.tree.now.entries in let row = c.args.row.now.items in let e = c.in-Some.first.now in
    let is : row ≡ e ∷ drop 1 row = split row e (c.in-Some.ensures.value ∙ ap (λ xs. slice_get xs 0) c.deref.ensures.value) in
    ap (λ xs. c.insert.new.self.entries ++ xs) c.remove.ensures.items
    ∙ ap (λ xs. xs ++ drop 1 row)
    (on-ok c.insert.result _ (sym c.is_ok.ensures.value ∙ c.if-is_ok.true) c.insert.ensures.entries
    ∙ first-behind e.0 e.1 tree (drop 1 row) (subst (λ xs. IsStrictlySortedBy nat_cmp (keys_of (tree ++ xs))) is c.requires))
    ∙ one-behind tree (drop 1 row) e ∙ ap (λ xs. tree ++ xs) (sym is)

use Rattle.std.proofs.Common.{◌++◌, ◌∙◌, false, cond, BTreeSet, sym, ap, subst}
use Rattle.std.specs.BTreeMap.{is_at}
use Rattle.std.specs.List.{list_any}
use Rattle.std.specs.List.Sorted.{IsStrictlySortedBy}
use Rattle.vh_queue_maps.proofs.RowsLemmas.{rises-removed, removed-has}
use Rattle.vh_queue_maps.proofs.near.Near.remove.Goals as goal

pub invariant_of-self : goal.invariant_of-self
invariant_of-self c c' =
    let R = c.K.Ord.cmp in
    subst (IsStrictlySortedBy R) (sym c'.take.ensures)
    (rises-removed R c.met.K.Ord.total (is_at (R c'.args.key.now)) (c'.self.inside.near.items ++ c'.self.inside.far.keys) c'.self.invariant)

pub returns-clause-updates : goal.returns-clause-updates
returns-clause-updates c c' q =
    let R = c.K.Ord.cmp in let k = c'.args.key.now in
    let old = c'.self.inside.near.items ++ c'.self.inside.far.keys in
    ap (list_any (is_at (R q))) c'.take.ensures ∙ removed-has R c.met.K.Ord.total old k q c'.self.invariant
    ∙ ap (λ (s : BTreeSet c.row.K.Denot). cond (is_at (R k) q) false (list_any (is_at (R q)) s.keys)) c'.self.view_is

pub returns-clause-ordered : goal.returns-clause-ordered
returns-clause-ordered c c' =
    let R = c.K.Ord.cmp in
    subst (IsStrictlySortedBy R) (sym c'.take.ensures)
    (rises-removed R c.met.K.Ord.total (is_at (R c'.args.key.now)) (c'.self.inside.near.items ++ c'.self.inside.far.keys) c'.self.invariant)

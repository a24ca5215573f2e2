use Rattle.std.proofs.Common.{◌++◌, ◌∙◌, List, true, cond, BTreeSet, sym, ap, subst}
use Rattle.std.specs.BTreeMap.{is_at}
use Rattle.std.specs.BTreeSet.{insert_key}
use Rattle.std.specs.List.{list_any}
use Rattle.std.specs.List.Sorted.{IsStrictlySortedBy}
use Rattle.vh_queue_maps.proofs.RowsLemmas.{rises-inserted, inserted-has}
use Rattle.vh_queue_maps.proofs.near.Near.insert.Goals as goal

pub spill-requires : goal.spill-requires
spill-requires c c' =
    let R = c.K.Ord.cmp in
    let drawn = c'.draw.new.near.items ++ c'.draw.new.far.keys in
    subst (IsStrictlySortedBy R) (sym c'.in_ok-place.ensures.added)
    (rises-inserted R c.met.K.Ord.total drawn c'.args.key (subst (IsStrictlySortedBy R) (sym c'.draw.ensures) c'.self.invariant))

pub invariant_of-self-2 : goal.invariant_of-self-2
invariant_of-self-2 c c' =
    let R = c.K.Ord.cmp in
    let drawn = c'.draw.new.near.items ++ c'.draw.new.far.keys in
    subst (IsStrictlySortedBy R) (sym (c'.spill.ensures ∙ c'.in_ok-place.ensures.added))
    (rises-inserted R c.met.K.Ord.total drawn c'.args.key (subst (IsStrictlySortedBy R) (sym c'.draw.ensures) c'.self.invariant))

pub returns-clause-updates : goal.returns-clause-updates
returns-clause-updates c c' q =
    let R = c.K.Ord.cmp in let k = c'.args.key in
    let old = c'.self.inside.near.items ++ c'.self.inside.far.keys in
    ap (list_any (is_at (R q))) (c'.spill.ensures ∙ c'.in_ok-place.ensures.added ∙ ap (λ (ks : List c.row.K.Denot). insert_key R ks k) c'.draw.ensures)
    ∙ inserted-has R c.met.K.Ord.total old k q
    ∙ ap (λ (s : BTreeSet c.row.K.Denot). cond (is_at (R k) q) true (list_any (is_at (R q)) s.keys)) c'.self.view_is

pub returns-clause-ordered : goal.returns-clause-ordered
returns-clause-ordered c c' =
    let R = c.K.Ord.cmp in
    let drawn = c'.draw.new.near.items ++ c'.draw.new.far.keys in
    subst (IsStrictlySortedBy R) (sym (c'.spill.ensures ∙ c'.in_ok-place.ensures.added))
    (rises-inserted R c.met.K.Ord.total drawn c'.args.key (subst (IsStrictlySortedBy R) (sym c'.draw.ensures) c'.self.invariant))

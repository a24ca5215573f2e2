use Rattle.std.proofs.Common.{rules, ◌≡◌, ◌∙◌, BTreeSet, filter, length, ap, arith}
use Rattle.vh_queue_maps.specs.Rows.{before_len, from_to}
use Rattle.vh_queue_maps.proofs.RowsLemmas.{rises-front, counts-are, none-of, before-most, between}
use Rattle.vh_queue_maps.proofs.near.Near.count_between.Goals as goal

pub row_from-requires : goal.row_from-requires
row_from-requires c c' =
    rw (c'.deref.ensures.value) (rises-front c.K.Ord.cmp c.met.K.Ord.total c'.self.inside.near.items c'.self.inside.far.keys c'.self.invariant)

pub row_from-requires-2 : goal.row_from-requires-2
row_from-requires-2 c c' =
    rw (c'.deref-2.ensures.value) (rises-front c.K.Ord.cmp c.met.K.Ord.total c'.self.inside.near.items c'.self.inside.far.keys c'.self.invariant)

pub overflow_add-result : goal.overflow_add-result
overflow_add-result c c' =
    let R = c.K.Ord.cmp in
    let xs = c'.self.inside.near.items in
    let most = before-most R c.met.K.Ord.total c'.args.end.now xs in
    let a_is : c'.row_from.result ≡ before_len R c'.args.end.now xs = c'.row_from.ensures ∙ ap (before_len R c'.args.end.now) c'.deref.ensures.value in
    let count : c'.count.result ≡ length c'.range.result = search rules in
    let cut = c'.saturating_sub-near.ensures in let ok = c'.self.inside.near.ok in let size = ok.0 in let room = ok.1 in
    let small = c'.self.inside.near.small in let fits = c'.range.ensures.fits in
    omega (arith, most, a_is, count, cut, size, room, small, fits)

pub returns-then-is_empty : goal.returns-then-is_empty
returns-then-is_empty c c' =
    let R = c.K.Ord.cmp in let o = c.met.K.Ord.total in
    let xs = c'.self.inside.near.items in let ys = c'.self.inside.far.keys in
    let end_is = c'.row_from.ensures ∙ ap (before_len R c'.args.end.now) c'.deref.ensures.value in
    let first_is = c'.row_from-2.ensures ∙ ap (before_len R c'.args.first.now) c'.deref-2.ensures.value in
    let none = none-of R o c'.args.first.now c'.args.end.now ys (c'.is_empty.ensures.0 (search rules)) in
    let cut = c'.saturating_sub-near.ensures in
    counts-are R o _ _ xs ys _ c'.requires c'.self.invariant (omega (arith, end_is, first_is, none, cut))
    ∙ ap (λ (s : BTreeSet c.row.K.Denot). length (from_to R c'.args.first.now c'.args.end.now s)) c'.self.view_is

pub returns : goal.returns
returns c c' =
    let R = c.K.Ord.cmp in let o = c.met.K.Ord.total in
    let ys = c'.self.inside.far.keys in
    let end_is = c'.row_from.ensures ∙ ap (before_len R c'.args.end.now) c'.deref.ensures.value in
    let first_is = c'.row_from-2.ensures ∙ ap (before_len R c'.args.first.now) c'.deref-2.ensures.value in
    let count : c'.count.result ≡ length c'.range.result = search rules in
    let far : c'.count.result ≡ length (filter (between R o c'.args.first.now c'.args.end.now) ys) = count ∙ ap length (c'.range.ensures.between (search rules)) in
    let cut = c'.saturating_sub-near.ensures in
    counts-are R o _ _ c'.self.inside.near.items ys _ c'.requires c'.self.invariant (omega (arith, end_is, first_is, far, cut))
    ∙ ap (λ (s : BTreeSet c.row.K.Denot). length (from_to R c'.args.first.now c'.args.end.now s)) c'.self.view_is

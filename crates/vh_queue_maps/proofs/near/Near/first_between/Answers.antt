use Rattle.std.proofs.Common.{rules, ◌≡◌, ◌∙◌, List, Some, None, true, false, BTreeSet, is_lt, slice_get, sym, ap, ltb-true, ltb-false}
use Rattle.std.proofs.lemmas.Option.{slice_get-get_or}
use Rattle.std.specs.Option.{option_copied}
use Rattle.vh_queue_maps.specs.Rows.{before_len, from_to}
use Rattle.vh_queue_maps.proofs.RowsLemmas.{rises-front, first-in, first-none, first-far, gt-lt, past-end}
use Rattle.vh_queue_maps.proofs.near.Near.first_between.Goals as goal

pub row_from-requires : goal.row_from-requires
row_from-requires c c' =
    rw (c'.deref-2.ensures.value) (rises-front c.K.Ord.cmp c.met.K.Ord.total c'.self.inside.near.items c'.self.inside.far.keys c'.self.invariant)

pub returns-in-Some : goal.returns-in-Some
returns-in-Some c c' =
    let R = c.K.Ord.cmp in let o = c.met.K.Ord.total in
    let xs = c'.self.inside.near.items in let ys = c'.self.inside.far.keys in let x = c'.in-Some.key.now in
    let first = c'.args.first.now in let end = c'.args.end.now in
    let n_is : c'.row_from.result ≡ before_len R first xs = c'.row_from.ensures ∙ ap (before_len R first) c'.deref-2.ensures.value in
    let got : slice_get xs (before_len R first xs) ≡ Some x =
    ap (slice_get xs) (sym n_is) ∙ ap (λ (zs : List c.row.K.Denot). slice_get zs c'.row_from.result) (sym c'.deref.ensures.value)
    ∙ slice_get-get_or c'.deref.result.now c'.row_from.result x (ltb-true _ _ (sym c'.in-Some.ensures.lookup.0)) ∙ ap Some (sym c'.in-Some.ensures.lookup.1) in
    let less : is_lt (R x end) ≡ true = search rules in
    sym (first-in R o first end xs ys x got (gt-lt R o end x ∙ less)) ∙ ap (λ (s : BTreeSet c.row.K.Denot). slice_get (from_to R first end s) 0) c'.self.view_is

pub returns-in-Some-2 : goal.returns-in-Some-2
returns-in-Some-2 c c' =
    let R = c.K.Ord.cmp in let o = c.met.K.Ord.total in
    let xs = c'.self.inside.near.items in let ys = c'.self.inside.far.keys in let x = c'.in-Some.key.now in
    let first = c'.args.first.now in let end = c'.args.end.now in
    let n_is : c'.row_from.result ≡ before_len R first xs = c'.row_from.ensures ∙ ap (before_len R first) c'.deref-2.ensures.value in
    let got : slice_get xs (before_len R first xs) ≡ Some x =
    ap (slice_get xs) (sym n_is) ∙ ap (λ (zs : List c.row.K.Denot). slice_get zs c'.row_from.result) (sym c'.deref.ensures.value)
    ∙ slice_get-get_or c'.deref.result.now c'.row_from.result x (ltb-true _ _ (sym c'.in-Some.ensures.lookup.0)) ∙ ap Some (sym c'.in-Some.ensures.lookup.1) in
    let not_less : is_lt (R x end) ≡ false = search rules in
    sym (ap (λ (ks : List c.row.K.Denot). slice_get ks 0) (first-none R o first end xs ys x c'.self.invariant got (gt-lt R o end x ∙ not_less)))
    ∙ ap (λ (s : BTreeSet c.row.K.Denot). slice_get (from_to R first end s) 0) c'.self.view_is

pub returns-in-None : goal.returns-in-None
returns-in-None c c' =
    let R = c.K.Ord.cmp in let o = c.met.K.Ord.total in
    let xs = c'.self.inside.near.items in let ys = c'.self.inside.far.keys in
    let first = c'.args.first.now in let end = c'.args.end.now in
    let n_is : c'.row_from.result ≡ before_len R first xs = c'.row_from.ensures ∙ ap (before_len R first) c'.deref-2.ensures.value in
    let none : slice_get xs (before_len R first xs) ≡ None =
    ap (slice_get xs) (sym n_is) ∙ ap (λ (zs : List c.row.K.Denot). slice_get zs c'.row_from.result) (sym c'.deref.ensures.value)
    ∙ past-end c'.deref.result.now c'.row_from.result (ltb-false _ _ (sym c'.in-None.ensures.lookup.0)) in
    let next : option_copied c'.next.result ≡ slice_get c'.range.result 0 = search rules in
    next ∙ ap (λ (ks : List c.row.K.Denot). slice_get ks 0) (c'.range.ensures.between (search rules) ∙ sym (first-far R o first end xs ys none))
    ∙ ap (λ (s : BTreeSet c.row.K.Denot). slice_get (from_to R first end s) 0) c'.self.view_is

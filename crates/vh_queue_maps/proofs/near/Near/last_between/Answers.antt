use Rattle.std.proofs.Common.{rules, ◌≡◌, ◌++◌, ◌∷◌, ◌-◌, ◌∙◌, [], suc, List, Some, true, false, BTreeSet, filter, is_gt, length, slice_get, sym, ap, arith, ltb-true, ltb-false}
use Rattle.std.proofs.lemmas.Option.{slice_get-get_or}
use Rattle.vh_queue_maps.specs.Rows.{before_len, from_to, last_key}
use Rattle.vh_queue_maps.proofs.RowsLemmas.{rises-front, filter-append, last-behind, last-none, last-in, last-past, last-row, before-most, between}
use Rattle.vh_queue_maps.proofs.near.Near.last_between.Goals as goal

pub returns-in-Some : goal.returns-in-Some
returns-in-Some c c' =
    let R = c.K.Ord.cmp in let o = c.met.K.Ord.total in
    let xs = c'.self.inside.near.items in let ys = c'.self.inside.far.keys in
    let first = c'.args.first.now in let end = c'.args.end.now in let x = c'.in-Some.key.now in let t = c'.next_back.new.self in
    let F : List c.row.K.Denot = filter (between R o first end) xs in
    let all : filter (between R o first end) ys ≡ t ++ x ∷ [] = sym (c'.range.ensures.between (search rules)) ∙ c'.in-Some.ensures.steps in
    sym (last-behind R o F t x) ∙ ap (λ (ks : List c.row.K.Denot). last_key (F ++ ks)) (sym all)
    ∙ ap last_key (sym (filter-append (between R o first end) xs ys))
    ∙ ap (λ (s : BTreeSet c.row.K.Denot). last_key (from_to R first end s)) c'.self.view_is

pub row_from-before-requires : goal.row_from-before-requires
row_from-before-requires c c' =
    rw (c'.deref.ensures.value) (rises-front c.K.Ord.cmp c.met.K.Ord.total c'.self.inside.near.items c'.self.inside.far.keys c'.self.invariant)

pub returns-then-before-eq0 : goal.returns-then-before-eq0
returns-then-before-eq0 c c' =
    let R = c.K.Ord.cmp in let o = c.met.K.Ord.total in
    let xs = c'.self.inside.near.items in let ys = c'.self.inside.far.keys in let first = c'.args.first.now in let end = c'.args.end.now in
    let none : filter (between R o first end) ys ≡ [] = sym (c'.range.ensures.between (search rules)) ∙ search rules in
    let n_is : c'.row_from-before.result ≡ before_len R end xs = c'.row_from-before.ensures ∙ ap (before_len R end) c'.deref.ensures.value in
    sym (ap last_key (last-none R o first end xs (rises-front R o xs ys c'.self.invariant) (sym n_is ∙ c'.if-before-eq0.true)))
    ∙ ap last_key (sym (last-row R o first end xs ys none))
    ∙ ap (λ (s : BTreeSet c.row.K.Denot). last_key (from_to R first end s)) c'.self.view_is

pub returns-in_err-last : goal.returns-in_err-last
returns-in_err-last c c' =
    let R = c.K.Ord.cmp in let o = c.met.K.Ord.total in
    let xs = c'.self.inside.near.items in let ys = c'.self.inside.far.keys in let first = c'.args.first.now in let end = c'.args.end.now in
    let none : filter (between R o first end) ys ≡ [] = sym (c'.range.ensures.between (search rules)) ∙ search rules in
    let n_is : c'.row_from-before.result ≡ before_len R end xs = c'.row_from-before.ensures ∙ ap (before_len R end) c'.deref.ensures.value in
    let most = before-most R o end xs in
    let past = ltb-false _ _ (sym c'.in_err-last.ensures.lookup.0) in
    let apart = c'.if-before-eq0.false in
    let size : length c'.deref-2.result.now ≡ length xs = ap length c'.deref-2.ensures.value in
    absurd (omega (arith, most, past, apart, n_is, size))

pub returns-then-le : goal.returns-then-le
returns-then-le c c' =
    let R = c.K.Ord.cmp in let o = c.met.K.Ord.total in
    let xs = c'.self.inside.near.items in let ys = c'.self.inside.far.keys in let first = c'.args.first.now in let end = c'.args.end.now in
    let none : filter (between R o first end) ys ≡ [] = sym (c'.range.ensures.between (search rules)) ∙ search rules in
    let n_is : c'.row_from-before.result ≡ before_len R end xs = c'.row_from-before.ensures ∙ ap (before_len R end) c'.deref.ensures.value in
    let x = c'.in_ok-last.last.now in let n = c'.row_from-before.result in
    let got : slice_get xs (n - 1) ≡ Some x =
    ap (λ (zs : List c.row.K.Denot). slice_get zs (n - 1)) (sym c'.deref-2.ensures.value)
    ∙ slice_get-get_or c'.deref-2.result.now (n - 1) x (ltb-true _ _ (sym c'.in_ok-last.ensures.lookup.0)) ∙ ap Some (sym c'.in_ok-last.ensures.lookup.1) in
    let some : before_len R end xs ≡ suc (n - 1) = (let apart = c'.if-before-eq0.false in omega (arith, n_is, apart)) in
    let up : is_gt (R first x) ≡ false = search rules in
    sym (last-in R o first end xs (n - 1) x (rises-front R o xs ys c'.self.invariant) some got up)
    ∙ ap last_key (sym (last-row R o first end xs ys none))
    ∙ ap (λ (s : BTreeSet c.row.K.Denot). last_key (from_to R first end s)) c'.self.view_is

pub returns-else-le : goal.returns-else-le
returns-else-le c c' =
    let R = c.K.Ord.cmp in let o = c.met.K.Ord.total in
    let xs = c'.self.inside.near.items in let ys = c'.self.inside.far.keys in let first = c'.args.first.now in let end = c'.args.end.now in
    let none : filter (between R o first end) ys ≡ [] = sym (c'.range.ensures.between (search rules)) ∙ search rules in
    let n_is : c'.row_from-before.result ≡ before_len R end xs = c'.row_from-before.ensures ∙ ap (before_len R end) c'.deref.ensures.value in
    let x = c'.in_ok-last.last.now in let n = c'.row_from-before.result in
    let got : slice_get xs (n - 1) ≡ Some x =
    ap (λ (zs : List c.row.K.Denot). slice_get zs (n - 1)) (sym c'.deref-2.ensures.value)
    ∙ slice_get-get_or c'.deref-2.result.now (n - 1) x (ltb-true _ _ (sym c'.in_ok-last.ensures.lookup.0)) ∙ ap Some (sym c'.in_ok-last.ensures.lookup.1) in
    let some : before_len R end xs ≡ suc (n - 1) = (let apart = c'.if-before-eq0.false in omega (arith, n_is, apart)) in
    let down : is_gt (R first x) ≡ true = search rules in
    sym (ap last_key (last-past R o first end xs (n - 1) x (rises-front R o xs ys c'.self.invariant) some got down))
    ∙ ap last_key (sym (last-row R o first end xs ys none))
    ∙ ap (λ (s : BTreeSet c.row.K.Denot). last_key (from_to R first end s)) c'.self.view_is

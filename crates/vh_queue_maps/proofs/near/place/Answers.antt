use Rattle.std.proofs.Common.{◌≡◌, ◌++◌, ◌∙◌, ℕ, List, Some, None, Bool, true, false, not, is_eq, slice_get, sym, ap, refl, ltb-true, ltb-false}
use Rattle.std.proofs.lemmas.Option.{slice_get-get_or}
use Rattle.std.specs.List.{insert}
use Rattle.vh_queue_maps.specs.Rows.{before_len}
use Rattle.vh_queue_maps.proofs.RowsLemmas.{rises-front, put-is, there-is, behind-is, leading-is, back-is, past-end, one-behind}
use Rattle.vh_queue_maps.proofs.near.place.Goals as goal

not-true : (b : Bool) → not b ≡ true → b ≡ false
not-true true is = absurd (cc)
not-true false is = refl

not-false : (b : Bool) → not b ≡ false → b ≡ true
not-false true is = refl
not-false false is = absurd (cc)

pub row_from-at-requires : goal.row_from-at-requires
row_from-at-requires c c' =
    rw (c'.deref.ensures.value) (rises-front c.K.Ord.cmp c.met.K.Ord.total c'.args.near.now.items c'.args.far.now.keys c'.requires)

pub returns-in_ok-insert-in-Some-clause-added : goal.returns-in_ok-insert-in-Some-clause-added
returns-in_ok-insert-in-Some-clause-added c c' =
    let R = c.K.Ord.cmp in let o = c.met.K.Ord.total in
    let xs = c'.args.near.now.items in let ys = c'.args.far.now.keys in let k = c'.args.key in let x = c'.in-Some.there.now in
    let n_is : c'.row_from-at.result ≡ before_len R k xs = c'.row_from-at.ensures ∙ ap (before_len R k) c'.deref.ensures.value in
    let got : slice_get xs (before_len R k xs) ≡ Some x =
    ap (slice_get xs) (sym n_is) ∙ ap (λ (zs : List c.row.K.Denot). slice_get zs c'.row_from-at.result) (sym c'.deref-2.ensures.value)
    ∙ slice_get-get_or c'.deref-2.result.now c'.row_from-at.result x (ltb-true _ _ (sym c'.in-Some.ensures.lookup.0)) ∙ ap Some (sym c'.in-Some.ensures.lookup.1) in
    let apart : is_eq (R k x) ≡ false = back-is R o k x ∙ sym (c.met.K.Ord.matches_eq x k) ∙ not-true _ (sym c'.ne.ensures ∙ c'.if-ne.true) in
    ap (λ (zs : List c.row.K.Denot). zs ++ ys) (c'.in_ok-insert-in-Some.ensures.items ∙ ap (λ (m : ℕ). insert xs m k) n_is) ∙ sym (put-is R o k xs ys x got apart)

pub returns-else-ne-clause-added : goal.returns-else-ne-clause-added
returns-else-ne-clause-added c c' =
    let R = c.K.Ord.cmp in let o = c.met.K.Ord.total in
    let xs = c'.args.near.now.items in let ys = c'.args.far.now.keys in let k = c'.args.key in let x = c'.in-Some.there.now in
    let n_is : c'.row_from-at.result ≡ before_len R k xs = c'.row_from-at.ensures ∙ ap (before_len R k) c'.deref.ensures.value in
    let got : slice_get xs (before_len R k xs) ≡ Some x =
    ap (slice_get xs) (sym n_is) ∙ ap (λ (zs : List c.row.K.Denot). slice_get zs c'.row_from-at.result) (sym c'.deref-2.ensures.value)
    ∙ slice_get-get_or c'.deref-2.result.now c'.row_from-at.result x (ltb-true _ _ (sym c'.in-Some.ensures.lookup.0)) ∙ ap Some (sym c'.in-Some.ensures.lookup.1) in
    let same : is_eq (R k x) ≡ true = back-is R o k x ∙ sym (c.met.K.Ord.matches_eq x k) ∙ not-false _ (sym c'.ne.ensures ∙ c'.if-ne.false) in
    sym (there-is R o k xs ys x got same)

pub returns-in_ok-push-in-None-clause-added : goal.returns-in_ok-push-in-None-clause-added
returns-in_ok-push-in-None-clause-added c c' =
    let R = c.K.Ord.cmp in let o = c.met.K.Ord.total in
    let xs = c'.args.near.now.items in let ys = c'.args.far.now.keys in let k = c'.args.key in
    let n_is : c'.row_from-at.result ≡ before_len R k xs = c'.row_from-at.ensures ∙ ap (before_len R k) c'.deref.ensures.value in
    let none : slice_get xs (before_len R k xs) ≡ None =
    ap (slice_get xs) (sym n_is) ∙ ap (λ (zs : List c.row.K.Denot). slice_get zs c'.row_from-at.result) (sym c'.deref-2.ensures.value)
    ∙ past-end c'.deref-2.result.now c'.row_from-at.result (ltb-false _ _ (sym c'.in-None.ensures.lookup.0)) in
    ap (λ (zs : List c.row.K.Denot). zs ++ ys) c'.in_ok-push-in-None.ensures.items ∙ one-behind R o xs ys k
    ∙ ap (λ (zs : List c.row.K.Denot). xs ++ zs) (sym (leading-is R o k ys (sym c'.leads.ensures ∙ c'.if-leads.true))) ∙ sym (behind-is R o k xs ys none)

pub returns-in_ok-insert-in-None-clause-added : goal.returns-in_ok-insert-in-None-clause-added
returns-in_ok-insert-in-None-clause-added c c' =
    let R = c.K.Ord.cmp in let o = c.met.K.Ord.total in
    let xs = c'.args.near.now.items in let ys = c'.args.far.now.keys in let k = c'.args.key in
    let n_is : c'.row_from-at.result ≡ before_len R k xs = c'.row_from-at.ensures ∙ ap (before_len R k) c'.deref.ensures.value in
    let none : slice_get xs (before_len R k xs) ≡ None =
    ap (slice_get xs) (sym n_is) ∙ ap (λ (zs : List c.row.K.Denot). slice_get zs c'.row_from-at.result) (sym c'.deref-2.ensures.value)
    ∙ past-end c'.deref-2.result.now c'.row_from-at.result (ltb-false _ _ (sym c'.in-None.ensures.lookup.0)) in
    ap (λ (zs : List c.row.K.Denot). xs ++ zs) c'.in_ok-insert-in-None.ensures.keys ∙ sym (behind-is R o k xs ys none)

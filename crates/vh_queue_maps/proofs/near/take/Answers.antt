use Rattle.std.proofs.Common.{◌≡◌, ◌++◌, ◌∙◌, ℕ, List, Some, None, true, false, is_eq, slice_get, sym, ap, ltb-true, ltb-false}
use Rattle.std.proofs.lemmas.Option.{slice_get-get_or}
use Rattle.std.specs.List.{remove}
use Rattle.vh_queue_maps.specs.Rows.{before_len}
use Rattle.vh_queue_maps.proofs.RowsLemmas.{rises-front, taken-is, stays-is, past-is, back-is, past-end}
use Rattle.vh_queue_maps.proofs.near.take.Goals as goal

pub row_from-at-requires : goal.row_from-at-requires
row_from-at-requires c c' =
    rw (c'.deref.ensures.value) (rises-front c.K.Ord.cmp c.met.K.Ord.total c'.args.near.now.items c'.args.far.now.keys c'.requires)

pub returns-then-eq : goal.returns-then-eq
returns-then-eq c c' =
    let R = c.K.Ord.cmp in let o = c.met.K.Ord.total in
    let xs = c'.args.near.now.items in let ys = c'.args.far.now.keys in let k = c'.args.key.now in let x = c'.in-Some.there.now in
    let n_is : c'.row_from-at.result ≡ before_len R k xs = c'.row_from-at.ensures ∙ ap (before_len R k) c'.deref.ensures.value in
    let got : slice_get xs (before_len R k xs) ≡ Some x =
    ap (slice_get xs) (sym n_is) ∙ ap (λ (zs : List c.row.K.Denot). slice_get zs c'.row_from-at.result) (sym c'.deref-2.ensures.value)
    ∙ slice_get-get_or c'.deref-2.result.now c'.row_from-at.result x (ltb-true _ _ (sym c'.in-Some.ensures.lookup.0)) ∙ ap Some (sym c'.in-Some.ensures.lookup.1) in
    let same : is_eq (R k x) ≡ true = back-is R o k x ∙ sym (c.met.K.Ord.matches_eq x k) ∙ sym c'.eq.ensures ∙ c'.if-eq.true in
    ap (λ (zs : List c.row.K.Denot). zs ++ ys) (c'.remove.ensures.items ∙ ap (λ (m : ℕ). remove xs m) n_is) ∙ sym (taken-is R o k xs ys x got same)

pub returns-else-eq : goal.returns-else-eq
returns-else-eq c c' =
    let R = c.K.Ord.cmp in let o = c.met.K.Ord.total in
    let xs = c'.args.near.now.items in let ys = c'.args.far.now.keys in let k = c'.args.key.now in let x = c'.in-Some.there.now in
    let n_is : c'.row_from-at.result ≡ before_len R k xs = c'.row_from-at.ensures ∙ ap (before_len R k) c'.deref.ensures.value in
    let got : slice_get xs (before_len R k xs) ≡ Some x =
    ap (slice_get xs) (sym n_is) ∙ ap (λ (zs : List c.row.K.Denot). slice_get zs c'.row_from-at.result) (sym c'.deref-2.ensures.value)
    ∙ slice_get-get_or c'.deref-2.result.now c'.row_from-at.result x (ltb-true _ _ (sym c'.in-Some.ensures.lookup.0)) ∙ ap Some (sym c'.in-Some.ensures.lookup.1) in
    let apart : is_eq (R k x) ≡ false = back-is R o k x ∙ sym (c.met.K.Ord.matches_eq x k) ∙ sym c'.eq.ensures ∙ c'.if-eq.false in
    sym (stays-is R o k xs ys x c'.requires got apart)

pub returns-in-None : goal.returns-in-None
returns-in-None c c' =
    let R = c.K.Ord.cmp in let o = c.met.K.Ord.total in
    let xs = c'.args.near.now.items in let ys = c'.args.far.now.keys in let k = c'.args.key.now in
    let n_is : c'.row_from-at.result ≡ before_len R k xs = c'.row_from-at.ensures ∙ ap (before_len R k) c'.deref.ensures.value in
    let none : slice_get xs (before_len R k xs) ≡ None =
    ap (slice_get xs) (sym n_is) ∙ ap (λ (zs : List c.row.K.Denot). slice_get zs c'.row_from-at.result) (sym c'.deref-2.ensures.value)
    ∙ past-end c'.deref-2.result.now c'.row_from-at.result (ltb-false _ _ (sym c'.in-None.ensures.lookup.0)) in
    ap (λ (zs : List c.row.K.Denot). xs ++ zs) c'.remove-in-None.ensures.keys ∙ sym (past-is R o k xs ys none)

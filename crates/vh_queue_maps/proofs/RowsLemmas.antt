-- Lemmas on keys in their order, of which the first stand in a row `xs` and the others behind it in `ys`.
use Rattle.std.proofs.Common.{◌≡◌, ◌∙◌, ℕ, zero, suc, ◌+◌, ◌-◌, ◌<◌, ◌≤◌, List, [], ◌∷◌, ◌++◌, filter, length, Bool, true, false, not, ◌&&◌, ◌||◌, cond, Option, Some, None, slice_get, refl, sym, ap, subst, arith, Ordering, Less, Equal, Greater, is_eq, is_lt, is_le, is_gt, ⊎_elim}
use Rattle.std.proofs.lemmas.Bool.{cases_lt}
use Rattle.std.proofs.lemmas.List.{length-append}
use Rattle.std.proofs.lemmas.Map.Keys.{Less-from_sorted}
use Rattle.std.specs.BTreeMap.{is_at}
use Rattle.std.specs.BTreeMap.Range.{range_contains, IsLeBy}
use Rattle.std.specs.BTreeSet.{insert_key}
use Rattle.std.specs.Cmp.{IsTotalOrder, alike_right, tied_itself, upto}
use Rattle.std.specs.List.{All, AllByRecursion, list_any, insert, remove, slice_index_or}
use Rattle.std.specs.Option.{IsSome, option_to_list}
use Rattle.std.specs.List.Sorted.{IsStrictlySortedBy, IsPartitionPoint, IsPartitionedBy}
use Rattle.std.specs.Ordering.{match_ordering, ordering_reverse}
use Rattle.std.specs.Set.{remove_key}
use Rattle.std.specs.declared.ops.Bound.TheVariants.{Included, Excluded}
use Rattle.vh_queue_maps.specs.Rows.{is_before, before_len, leads, last_key}

-- What is answered at a place of a list.
module _ {K : Type 0} where
  -- all but what is behind
  all-front : (P : K → Type 0) (xs ys : List K) → AllByRecursion P (xs ++ ys) → AllByRecursion P xs
  all-front P [] ys all = tt
  all-front P (x ∷ xs) ys all = (all.0, all-front P xs ys all.1)

  all-map : (P Q : K → Type 0) (xs : List K) → ((x : K) → P x → Q x) → AllByRecursion P xs → AllByRecursion Q xs
  all-map P Q [] f all = tt
  all-map P Q (x ∷ xs) f all = (f x all.0, all-map P Q xs f all.1)

  filter-none : (keep : K → Bool) (xs : List K) → AllByRecursion (λ x. keep x ≡ false) xs → filter keep xs ≡ []
  filter-none keep [] none = refl
  filter-none keep (x ∷ xs) none = rw none.0 (filter-none keep xs none.1)

  any-none : (test : K → Bool) (xs : List K) → AllByRecursion (λ x. test x ≡ false) xs → list_any test xs ≡ false
  any-none test [] none = refl
  any-none test (x ∷ xs) none = rw none.0 (any-none test xs none.1)

  pub past-end : (xs : List K) (n : ℕ) → length xs ≤ n → slice_get xs n ≡ None
  past-end [] n past = refl
  past-end (x ∷ xs) zero past = absurd (omega (arith, past))
  past-end (x ∷ xs) (suc n) past = past-end xs n (omega (arith, past))

  pub filter-append : (keep : K → Bool) (xs ys : List K) → filter keep (xs ++ ys) ≡ filter keep xs ++ filter keep ys
  filter-append keep [] ys = refl
  filter-append keep (x ∷ xs) ys = by (keep x) (filter-append keep xs ys)
    where
      by : (b : Bool) → filter keep (xs ++ ys) ≡ filter keep xs ++ filter keep ys
          → cond b (x ∷ filter keep (xs ++ ys)) (filter keep (xs ++ ys)) ≡ cond b (x ∷ filter keep xs) (filter keep xs) ++ filter keep ys
      by true rest = ap (λ (t : List K). x ∷ t) rest
      by false rest = rest

  -- a search by halves finds how many stand before
  pub prefix-of : (R : K → K → Ordering) (k : K) (xs : List K) (i : ℕ) → i ≤ length xs
      → IsPartitionPoint (λ y. is_before R k y ≡ true) (λ y. is_before R k y ≡ false) xs i → i ≡ before_len R k xs
  prefix-of R k [] i within point = omega (arith, within)
  prefix-of R k (x ∷ xs) zero within point = rw (point.1 0 x (omega arith) (omega arith)) refl
  prefix-of R k (x ∷ xs) (suc i) within point =
      rw (point.0 0 x (omega arith) (omega arith))
      (ap suc (prefix-of R k xs i (omega (arith, within))
      ((λ j d low high. point.0 (suc j) d (omega arith) (omega (arith, high))), (λ j d low high. point.1 (suc j) d (omega (arith, low)) (omega (arith, high))))))

module _ {K : Type 0} (R : K → K → Ordering) (o : IsTotalOrder R) where
  turn : (x y : K) (r : Ordering) → R x y ≡ r → R y x ≡ ordering_reverse r
  turn x y r is = o.antisymm y x ∙ ap ordering_reverse is

  abbrev Rises : List K → Type 0
  Rises xs = IsStrictlySortedBy R xs

  pub rises-front : (xs ys : List K) → Rises (xs ++ ys) → Rises xs
  unfolding IsStrictlySortedBy
  rises-front [] ys rises = tt
  rises-front (x ∷ xs) ys rises = (all-front _ xs ys rises.0, rises-front xs ys rises.1)

  pub rises-back : (xs ys : List K) → Rises (xs ++ ys) → Rises ys
  unfolding IsStrictlySortedBy
  rises-back [] ys rises = rises
  rises-back (x ∷ xs) ys rises = rises-back xs ys rises.1

  pub rises-head : (x : K) (xs : List K) → Rises (x ∷ xs) → AllByRecursion (λ y. R x y ≡ Less) xs
  unfolding IsStrictlySortedBy
  rises-head x xs rises = rises.0

  rises-tail : (x : K) (xs : List K) → Rises (x ∷ xs) → Rises xs
  unfolding IsStrictlySortedBy
  rises-tail x xs rises = rises.1

  -- those before a key stand before the others
  pub parted : (k : K) (xs : List K) → Rises xs → IsPartitionedBy (is_before R k) xs
  parted k xs rises i j d below within so = by (R k (slice_index_or xs j d)) refl so
    where
      by : (r : Ordering) → R k (slice_index_or xs j d) ≡ r → is_gt r ≡ true → is_gt (R k (slice_index_or xs i d)) ≡ true
      by Less is so = absurd (cc)
      by Equal is so = absurd (cc)
      by Greater is so =
          ⊎_elim
          (λ (less : i < j).
          ap is_gt (turn (slice_index_or xs i d) k Less
          (o.trans (slice_index_or xs i d) (slice_index_or xs j d) k (Less-from_sorted R xs i j d rises less within) (turn k (slice_index_or xs j d) Greater is))))
          (λ (more : j ≤ i). let same : i ≡ j = omega (arith, below, more) in rw (same, is) refl)
          (cases_lt i j)

  -- ---- one more
  pub put-is : (k : K) (xs ys : List K) (x : K) → slice_get xs (before_len R k xs) ≡ Some x → is_eq (R k x) ≡ false
      → insert_key R (xs ++ ys) k ≡ insert xs (before_len R k xs) k ++ ys
  put-is k [] ys x is apart = absurd (cc)
  put-is k (y ∷ xs) ys x is apart = by (R k y) refl is (λ at. put-is k xs ys x at apart)
    where
      n : ℕ
      n = before_len R k xs

      by : (r : Ordering) → R k y ≡ r → slice_get (y ∷ xs) (cond (is_gt r) (suc n) 0) ≡ Some x
          → (slice_get xs n ≡ Some x → insert_key R (xs ++ ys) k ≡ insert xs n k ++ ys)
          → match_ordering r (k ∷ y ∷ xs ++ ys) (y ∷ xs ++ ys) (y ∷ insert_key R (xs ++ ys) k) ≡ insert (y ∷ xs) (cond (is_gt r) (suc n) 0) k ++ ys
      by Less at there rest = refl
      by Equal at there rest =
          let same : y ≡ x = cc in
          let is_equal : is_eq (R k x) ≡ true = ap (λ (z : K). is_eq (R k z)) (sym same) ∙ ap is_eq at in absurd (cc)
      by Greater at there rest = ap (λ (t : List K). y ∷ t) (rest there)

  pub there-is : (k : K) (xs ys : List K) (x : K) → slice_get xs (before_len R k xs) ≡ Some x → is_eq (R k x) ≡ true
      → insert_key R (xs ++ ys) k ≡ xs ++ ys
  there-is k [] ys x is same = absurd (cc)
  there-is k (y ∷ xs) ys x is same = by (R k y) refl is (λ at. there-is k xs ys x at same)
    where
      n : ℕ
      n = before_len R k xs

      by : (r : Ordering) → R k y ≡ r → slice_get (y ∷ xs) (cond (is_gt r) (suc n) 0) ≡ Some x
          → (slice_get xs n ≡ Some x → insert_key R (xs ++ ys) k ≡ xs ++ ys)
          → match_ordering r (k ∷ y ∷ xs ++ ys) (y ∷ xs ++ ys) (y ∷ insert_key R (xs ++ ys) k) ≡ y ∷ xs ++ ys
      by Less at there rest =
          let here : y ≡ x = cc in
          let is_less : is_eq (R k x) ≡ false = ap (λ (z : K). is_eq (R k z)) (sym here) ∙ ap is_eq at in absurd (cc)
      by Equal at there rest = refl
      by Greater at there rest = ap (λ (t : List K). y ∷ t) (rest there)

  pub behind-is : (k : K) (xs ys : List K) → slice_get xs (before_len R k xs) ≡ None → insert_key R (xs ++ ys) k ≡ xs ++ insert_key R ys k
  behind-is k [] ys is = refl
  behind-is k (y ∷ xs) ys is = by (R k y) is (behind-is k xs ys)
    where
      n : ℕ
      n = before_len R k xs

      by : (r : Ordering) → slice_get (y ∷ xs) (cond (is_gt r) (suc n) 0) ≡ None
          → (slice_get xs n ≡ None → insert_key R (xs ++ ys) k ≡ xs ++ insert_key R ys k)
          → match_ordering r (k ∷ y ∷ xs ++ ys) (y ∷ xs ++ ys) (y ∷ insert_key R (xs ++ ys) k) ≡ y ∷ xs ++ insert_key R ys k
      by Less there rest = absurd (cc)
      by Equal there rest = absurd (cc)
      by Greater there rest = ap (λ (t : List K). y ∷ t) (rest there)

  pub leading-is : (k : K) (ys : List K) → leads R k ys ≡ true → insert_key R ys k ≡ k ∷ ys
  leading-is k [] is = refl
  leading-is k (y ∷ ys) is = by (R k y) is
    where
      by : (r : Ordering) → is_lt r ≡ true → match_ordering r (k ∷ y ∷ ys) (y ∷ ys) (y ∷ insert_key R ys k) ≡ k ∷ y ∷ ys
      by Less so = refl
      by Equal so = absurd (cc)
      by Greater so = absurd (cc)

  pub less-leads : (k : K) (ys : List K) → AllByRecursion (λ y. R k y ≡ Less) ys → leads R k ys ≡ true
  less-leads k [] all = refl
  less-leads k (y ∷ ys) all = ap is_lt all.0

  all-inserted : (P : K → Type 0) (ks : List K) (k : K) → P k → AllByRecursion P ks → AllByRecursion P (insert_key R ks k)
  all-inserted P [] k one all = (one, tt)
  all-inserted P (x ∷ xs) k one all = by (R k x) (all-inserted P xs k one all.1)
    where
      by : (r : Ordering) → AllByRecursion P (insert_key R xs k) → AllByRecursion P (match_ordering r (k ∷ x ∷ xs) (x ∷ xs) (x ∷ insert_key R xs k))
      by Less rest = (one, all)
      by Equal rest = all
      by Greater rest = (all.0, rest)

  pub rises-inserted : (ks : List K) (k : K) → Rises ks → Rises (insert_key R ks k)
  unfolding IsStrictlySortedBy
  rises-inserted [] k rises = (tt, tt)
  rises-inserted (x ∷ xs) k rises = by (R k x) refl (rises-inserted xs k rises.1)
    where
      by : (r : Ordering) → R k x ≡ r → IsStrictlySortedBy R (insert_key R xs k) → IsStrictlySortedBy R (match_ordering r (k ∷ x ∷ xs) (x ∷ xs) (x ∷ insert_key R xs k))
      by Less at rest = ((at, all-map _ _ xs (λ y less. o.trans k x y at less) rises.0), rises)
      by Equal at rest = rises
      by Greater at rest = (all-inserted (λ y. R x y ≡ Less) xs k (turn k x Greater at) rises.0, rest)

  -- is a key there, where another was put?
  alike : (q k x : K) → R k x ≡ Equal → is_eq (R q x) ≡ is_eq (R q k)
  alike q k x is = ap is_eq (sym (alike_right o k x q is))

  pub back-is : (q k : K) → is_eq (R q k) ≡ is_eq (R k q)
  back-is q k = ap is_eq (o.antisymm q k) ∙ level (R k q)
    where
      level : (r : Ordering) → is_eq (ordering_reverse r) ≡ is_eq r
      level Less = refl
      level Equal = refl
      level Greater = refl

  pub inserted-has : (ks : List K) (k q : K) → list_any (is_at (R q)) (insert_key R ks k) ≡ cond (is_at (R k) q) true (list_any (is_at (R q)) ks)
  inserted-has [] k q = by (is_eq (R k q)) (back-is q k)
    where
      by : (b : Bool) → is_eq (R q k) ≡ b → (is_eq (R q k) || false) ≡ cond b true false
      by true is = rw is refl
      by false is = rw is refl
  inserted-has (x ∷ xs) k q = by (R k x) refl (inserted-has xs k q)
    where
      more : (b : Bool) (rest : Bool) → is_eq (R q k) ≡ b → (is_eq (R q k) || rest) ≡ cond b true rest
      more true rest is = rw is refl
      more false rest is = rw is refl

      kept : (b c rest : Bool) → (b ≡ true → c ≡ true) → (c || rest) ≡ cond b true (c || rest)
      kept true c rest so = rw (so refl) refl
      kept false c rest so = refl

      past : (b c rest new : Bool) → new ≡ cond b true rest → (c || new) ≡ cond b true (c || rest)
      past true true rest new is = refl
      past true false rest new is = is
      past false c rest new is = ap (λ (d : Bool). c || d) is

      by : (r : Ordering) → R k x ≡ r → list_any (is_at (R q)) (insert_key R xs k) ≡ cond (is_at (R k) q) true (list_any (is_at (R q)) xs)
          → list_any (is_at (R q)) (match_ordering r (k ∷ x ∷ xs) (x ∷ xs) (x ∷ insert_key R xs k)) ≡ cond (is_at (R k) q) true (list_any (is_at (R q)) (x ∷ xs))
      by Less at rest = more (is_eq (R k q)) (list_any (is_at (R q)) (x ∷ xs)) (back-is q k)
      by Equal at rest = kept (is_eq (R k q)) (is_eq (R q x)) (list_any (is_at (R q)) xs) (λ so. alike q k x at ∙ back-is q k ∙ so)
      by Greater at rest = past (is_eq (R k q)) (is_eq (R q x)) (list_any (is_at (R q)) xs) (list_any (is_at (R q)) (insert_key R xs k)) rest

  -- ---- one less
  pub taken-is : (k : K) (xs ys : List K) (x : K) → slice_get xs (before_len R k xs) ≡ Some x → is_eq (R k x) ≡ true
      → remove_key (is_at (R k)) (xs ++ ys) ≡ remove xs (before_len R k xs) ++ ys
  taken-is k [] ys x is same = absurd (cc)
  taken-is k (y ∷ xs) ys x is same = by (R k y) refl is (λ at. taken-is k xs ys x at same)
    where
      n : ℕ
      n = before_len R k xs

      by : (r : Ordering) → R k y ≡ r → slice_get (y ∷ xs) (cond (is_gt r) (suc n) 0) ≡ Some x
          → (slice_get xs n ≡ Some x → remove_key (is_at (R k)) (xs ++ ys) ≡ remove xs n ++ ys)
          → cond (is_eq r) (xs ++ ys) (y ∷ remove_key (is_at (R k)) (xs ++ ys)) ≡ remove (y ∷ xs) (cond (is_gt r) (suc n) 0) ++ ys
      by Less at there rest =
          let here : y ≡ x = cc in
          let is_less : is_eq (R k x) ≡ false = ap (λ (z : K). is_eq (R k z)) (sym here) ∙ ap is_eq at in absurd (cc)
      by Equal at there rest = refl
      by Greater at there rest = ap (λ (t : List K). y ∷ t) (rest there)

  pub past-is : (k : K) (xs ys : List K) → slice_get xs (before_len R k xs) ≡ None
      → remove_key (is_at (R k)) (xs ++ ys) ≡ xs ++ remove_key (is_at (R k)) ys
  past-is k [] ys is = refl
  past-is k (y ∷ xs) ys is = by (R k y) is (past-is k xs ys)
    where
      n : ℕ
      n = before_len R k xs

      by : (r : Ordering) → slice_get (y ∷ xs) (cond (is_gt r) (suc n) 0) ≡ None
          → (slice_get xs n ≡ None → remove_key (is_at (R k)) (xs ++ ys) ≡ xs ++ remove_key (is_at (R k)) ys)
          → cond (is_eq r) (xs ++ ys) (y ∷ remove_key (is_at (R k)) (xs ++ ys)) ≡ y ∷ xs ++ remove_key (is_at (R k)) ys
      by Less there rest = absurd (cc)
      by Equal there rest = absurd (cc)
      by Greater there rest = ap (λ (t : List K). y ∷ t) (rest there)

  removed-none : (k : K) (ks : List K) → AllByRecursion (λ y. R k y ≡ Less) ks → remove_key (is_at (R k)) ks ≡ ks
  removed-none k [] all = refl
  removed-none k (y ∷ ys) all = rw all.0 (ap (λ (t : List K). y ∷ t) (removed-none k ys all.1))

  pub stays-is : (k : K) (xs ys : List K) (x : K) → Rises (xs ++ ys) → slice_get xs (before_len R k xs) ≡ Some x → is_eq (R k x) ≡ false
      → remove_key (is_at (R k)) (xs ++ ys) ≡ xs ++ ys
  stays-is k [] ys x rises is apart = absurd (cc)
  stays-is k (y ∷ xs) ys x rises is apart = by (R k y) refl is (λ at. stays-is k xs ys x (rises-tail y (xs ++ ys) rises) at apart)
    where
      n : ℕ
      n = before_len R k xs

      by : (r : Ordering) → R k y ≡ r → slice_get (y ∷ xs) (cond (is_gt r) (suc n) 0) ≡ Some x
          → (slice_get xs n ≡ Some x → remove_key (is_at (R k)) (xs ++ ys) ≡ xs ++ ys)
          → cond (is_eq r) (xs ++ ys) (y ∷ remove_key (is_at (R k)) (xs ++ ys)) ≡ y ∷ xs ++ ys
      by Less at there rest =
          ap (λ (t : List K). y ∷ t) (removed-none k (xs ++ ys) (all-map _ _ (xs ++ ys) (λ z less. o.trans k y z at less) (rises-head y (xs ++ ys) rises)))
      by Equal at there rest =
          let here : y ≡ x = cc in
          let is_equal : is_eq (R k x) ≡ true = ap (λ (z : K). is_eq (R k z)) (sym here) ∙ ap is_eq at in absurd (cc)
      by Greater at there rest = ap (λ (t : List K). y ∷ t) (rest there)

  all-removed : (P : K → Type 0) (test : K → Bool) (ks : List K) → AllByRecursion P ks → AllByRecursion P (remove_key test ks)
  all-removed P test [] all = tt
  all-removed P test (x ∷ xs) all = by (test x) (all-removed P test xs all.1)
    where
      by : (b : Bool) → AllByRecursion P (remove_key test xs) → AllByRecursion P (cond b xs (x ∷ remove_key test xs))
      by true rest = all.1
      by false rest = (all.0, rest)

  pub rises-removed : (test : K → Bool) (ks : List K) → Rises ks → Rises (remove_key test ks)
  unfolding IsStrictlySortedBy
  rises-removed test [] rises = tt
  rises-removed test (x ∷ xs) rises = by (test x) (rises-removed test xs rises.1)
    where
      by : (b : Bool) → IsStrictlySortedBy R (remove_key test xs) → IsStrictlySortedBy R (cond b xs (x ∷ remove_key test xs))
      by true rest = rises.1
      by false rest = (all-removed (λ y. R x y ≡ Less) test xs rises.0, rest)

  -- is a key there, where another was taken?
  pub removed-has : (ks : List K) (k q : K) → Rises ks
      → list_any (is_at (R q)) (remove_key (is_at (R k)) ks) ≡ cond (is_at (R k) q) false (list_any (is_at (R q)) ks)
  removed-has [] k q rises = by (is_eq (R k q))
    where
      by : (b : Bool) → false ≡ cond b false false
      by true = refl
      by false = refl
  removed-has (x ∷ xs) k q rises = by (R k x) refl (removed-has xs k q (rises-tail x xs rises))
    where
      above : R q x ≡ Equal → list_any (is_at (R q)) xs ≡ false
      above same = any-none (is_at (R q)) xs (all-map _ _ xs (λ y less. ap is_eq (o.congr q x y same ∙ less)) (rises-head x xs rises))

      equal-of : (r : Ordering) → is_eq r ≡ true → r ≡ Equal
      equal-of Less is = absurd (cc)
      equal-of Equal is = refl
      equal-of Greater is = absurd (cc)

      gone : (b c rest : Bool) → c ≡ b → (c ≡ true → rest ≡ false) → rest ≡ cond b false (c || rest)
      gone true c rest is none = none is
      gone false c rest is none = rw is refl

      past : (b c rest left : Bool) → (b ≡ true → c ≡ false) → left ≡ cond b false rest → (c || left) ≡ cond b false (c || rest)
      past true c rest left so is = rw (so refl) is
      past false c rest left so is = ap (λ (d : Bool). c || d) is

      by : (r : Ordering) → R k x ≡ r → list_any (is_at (R q)) (remove_key (is_at (R k)) xs) ≡ cond (is_at (R k) q) false (list_any (is_at (R q)) xs)
          → list_any (is_at (R q)) (cond (is_eq r) xs (x ∷ remove_key (is_at (R k)) xs)) ≡ cond (is_at (R k) q) false (list_any (is_at (R q)) (x ∷ xs))
      by Less at rest =
          past (is_eq (R k q)) (is_eq (R q x)) (list_any (is_at (R q)) xs) (list_any (is_at (R q)) (remove_key (is_at (R k)) xs))
          (λ so. back-is q x ∙ ap is_eq (alike_right o q k x (equal-of (R q k) (back-is q k ∙ so)) ∙ turn k x Less at)) rest
      by Equal at rest =
          gone (is_eq (R k q)) (is_eq (R q x)) (list_any (is_at (R q)) xs) (alike q k x at ∙ back-is q k) (λ so. above (equal-of (R q x) so))
      by Greater at rest =
          past (is_eq (R k q)) (is_eq (R q x)) (list_any (is_at (R q)) xs) (list_any (is_at (R q)) (remove_key (is_at (R k)) xs))
          (λ so. back-is q x ∙ ap is_eq (alike_right o q k x (equal-of (R q k) (back-is q k ∙ so)) ∙ turn k x Greater at)) rest

  -- ---- those from one on and before another
  abbrev pub between : K → K → K → Bool
  between first end x = range_contains R (Included first) (Excluded end) x

  le-is : (r : Ordering) → is_le r ≡ not (is_gt r)
  le-is Less = refl
  le-is Equal = refl
  le-is Greater = refl

  between-is : (first end x : K) → between first end x ≡ (not (is_gt (R first x)) && is_gt (R end x))
  between-is first end x = rw (le-is (R first x), le-is (R end x)) (twice (not (is_gt (R first x))) (is_gt (R end x)))
    where
      twice : (a b : Bool) → (a && not (not b)) ≡ (a && b)
      twice a true = refl
      twice a false = refl

  -- none that a key isn't behind, and what stands behind that
  not-after : (k x y : K) → is_gt (R k x) ≡ false → R x y ≡ Less → is_gt (R k y) ≡ false
  not-after k x y up less = upto o k x y up (ap is_gt less)

  none-past : (first end x : K) (ks : List K) → is_gt (R end x) ≡ false → AllByRecursion (λ y. R x y ≡ Less) ks → filter (between first end) ks ≡ []
  none-past first end x ks up all =
      filter-none (between first end) ks
      (all-map _ _ ks (λ y less. between-is first end y ∙ ap (λ (b : Bool). not (is_gt (R first y)) && b) (not-after end x y up less) ∙ never (not (is_gt (R first y)))) all)
    where
      never : (a : Bool) → (a && false) ≡ false
      never true = refl
      never false = refl

  pub first-in : (first end : K) (xs ys : List K) (x : K) → slice_get xs (before_len R first xs) ≡ Some x → is_gt (R end x) ≡ true
      → slice_get (filter (between first end) (xs ++ ys)) 0 ≡ Some x
  first-in first end [] ys x is so = absurd (cc)
  first-in first end (y ∷ xs) ys x is so = by (is_gt (R first y)) refl is (λ at. first-in first end xs ys x at so)
    where
      n : ℕ
      n = before_len R first xs

      by : (b : Bool) → is_gt (R first y) ≡ b → slice_get (y ∷ xs) (cond b (suc n) zero) ≡ Some x
          → (slice_get xs n ≡ Some x → slice_get (filter (between first end) (xs ++ ys)) 0 ≡ Some x)
          → slice_get (filter (between first end) (y ∷ xs ++ ys)) 0 ≡ Some x
      by true at there rest = rw (between-is first end y, at) (rest there)
      by false at there rest =
          let same : y ≡ x = cc in
          rw (between-is first end y, at, ap (λ (z : K). is_gt (R end z)) same ∙ so) (ap Some same)

  pub first-none : (first end : K) (xs ys : List K) (x : K) → Rises (xs ++ ys) → slice_get xs (before_len R first xs) ≡ Some x → is_gt (R end x) ≡ false
      → filter (between first end) (xs ++ ys) ≡ []
  first-none first end [] ys x rises is so = absurd (cc)
  first-none first end (y ∷ xs) ys x rises is so = by (is_gt (R first y)) refl is (λ at. first-none first end xs ys x (rises-tail y (xs ++ ys) rises) at so)
    where
      n : ℕ
      n = before_len R first xs

      by : (b : Bool) → is_gt (R first y) ≡ b → slice_get (y ∷ xs) (cond b (suc n) zero) ≡ Some x
          → (slice_get xs n ≡ Some x → filter (between first end) (xs ++ ys) ≡ [])
          → filter (between first end) (y ∷ xs ++ ys) ≡ []
      by true at there rest = rw (between-is first end y, at) (rest there)
      by false at there rest =
          let same : y ≡ x = cc in
          let up : is_gt (R end y) ≡ false = ap (λ (z : K). is_gt (R end z)) same ∙ so in
          rw (between-is first end y, at, up) (none-past first end y (xs ++ ys) up (rises-head y (xs ++ ys) rises))

  pub first-far : (first end : K) (xs ys : List K) → slice_get xs (before_len R first xs) ≡ None
      → filter (between first end) (xs ++ ys) ≡ filter (between first end) ys
  first-far first end [] ys is = refl
  first-far first end (y ∷ xs) ys is = by (is_gt (R first y)) refl is (first-far first end xs ys)
    where
      n : ℕ
      n = before_len R first xs

      by : (b : Bool) → is_gt (R first y) ≡ b → slice_get (y ∷ xs) (cond b (suc n) zero) ≡ None
          → (slice_get xs n ≡ None → filter (between first end) (xs ++ ys) ≡ filter (between first end) ys)
          → filter (between first end) (y ∷ xs ++ ys) ≡ filter (between first end) ys
      by true at there rest = rw (between-is first end y, at) (rest there)
      by false at there rest = absurd (cc)

  -- the last of them
  last-more : (x p : K) (ks : List K) → last_key ks ≡ Some p → last_key (x ∷ ks) ≡ Some p
  last-more x p [] is = absurd (cc)
  last-more x p (k ∷ ks) is = is

  pub last-behind : (xs t : List K) (p : K) → last_key (xs ++ (t ++ p ∷ [])) ≡ Some p
  last-behind [] [] p = refl
  last-behind [] (k ∷ t) p = last-more k p (t ++ p ∷ []) (last-behind [] t p)
  last-behind (x ∷ xs) t p = last-more x p (xs ++ (t ++ p ∷ [])) (last-behind xs t p)

  pub before-most : (k : K) (xs : List K) → before_len R k xs ≤ length xs
  before-most k [] = omega arith
  before-most k (x ∷ xs) = by (is_before R k x) (before-most k xs)
    where
      by : (b : Bool) → before_len R k xs ≤ length xs → cond b (suc (before_len R k xs)) zero ≤ suc (length xs)
      by true rest = omega (arith, rest)
      by false rest = omega arith

  -- with none behind it, the last of all is that of the row
  pub last-row : (first end : K) (xs ys : List K) → filter (between first end) ys ≡ [] → filter (between first end) (xs ++ ys) ≡ filter (between first end) xs
  last-row first end xs ys none = filter-append (between first end) xs ys ∙ ap (λ (ks : List K). filter (between first end) xs ++ ks) none ∙ nothing (filter (between first end) xs)
    where
      nothing : (ks : List K) → ks ++ [] ≡ ks
      nothing [] = refl
      nothing (k ∷ ks) = ap (λ (t : List K). k ∷ t) (nothing ks)

  pub last-none : (first end : K) (xs : List K) → Rises xs → before_len R end xs ≡ 0 → filter (between first end) xs ≡ []
  last-none first end [] rises is = refl
  last-none first end (y ∷ xs) rises is = by (is_gt (R end y)) refl is
    where
      by : (b : Bool) → is_gt (R end y) ≡ b → cond b (suc (before_len R end xs)) zero ≡ 0 → filter (between first end) (y ∷ xs) ≡ []
      by true at none = absurd (cc)
      by false at none = rw (between-is first end y, at) (none-past-all (not (is_gt (R first y))) at)
        where
          none-past-all : (a : Bool) → is_gt (R end y) ≡ false → cond (a && false) (y ∷ filter (between first end) xs) (filter (between first end) xs) ≡ []
          none-past-all true up = none-past first end y xs up (rises-head y xs rises)
          none-past-all false up = none-past first end y xs up (rises-head y xs rises)

  -- there is one, and it is the last before the end
  counted : (end y : K) (xs : List K) (k : ℕ) → before_len R end (y ∷ xs) ≡ suc k → (is_gt (R end y) ≡ true) × (before_len R end xs ≡ k)
  counted end y xs k is = by (is_gt (R end y)) refl is
    where
      by : (b : Bool) → is_gt (R end y) ≡ b → cond b (suc (before_len R end xs)) zero ≡ suc k → (is_gt (R end y) ≡ true) × (before_len R end xs ≡ k)
      by true at many = (at, omega (arith, many))
      by false at many = absurd (cc)

  pub last-in : (first end : K) (xs : List K) (k : ℕ) (p : K) → Rises xs → before_len R end xs ≡ suc k → slice_get xs k ≡ Some p
      → is_gt (R first p) ≡ false → last_key (filter (between first end) xs) ≡ Some p
  last-in first end [] k p rises is at so = absurd (cc)
  last-in first end (y ∷ xs) zero p rises is at so =
      let here = counted end y xs 0 is in
      let same : y ≡ p = cc in
      rw (between-is first end y, here.0, ap (λ (z : K). is_gt (R first z)) same ∙ so, last-none first end xs (rises-tail y xs rises) here.1) (ap Some same)
  last-in first end (y ∷ xs) (suc k) p rises is at so =
      let here = counted end y xs (suc k) is in
      by (between first end y) (last-in first end xs k p (rises-tail y xs rises) here.1 at so)
    where
      by : (b : Bool) → last_key (filter (between first end) xs) ≡ Some p
          → last_key (cond b (y ∷ filter (between first end) xs) (filter (between first end) xs)) ≡ Some p
      by true rest = last-more y p (filter (between first end) xs) rest
      by false rest = rest

  at-all : (P : K → Type 0) (xs : List K) (k : ℕ) (p : K) → AllByRecursion P xs → slice_get xs k ≡ Some p → P p
  at-all P [] k p all is = absurd (cc)
  at-all P (x ∷ xs) zero p all is = let same : x ≡ p = cc in subst P same all.0
  at-all P (x ∷ xs) (suc k) p all is = at-all P xs k p all.1 is

  pub last-past : (first end : K) (xs : List K) (k : ℕ) (p : K) → Rises xs → before_len R end xs ≡ suc k → slice_get xs k ≡ Some p
      → is_gt (R first p) ≡ true → filter (between first end) xs ≡ []
  last-past first end [] k p rises is at so = absurd (cc)
  last-past first end (y ∷ xs) zero p rises is at so =
      let here = counted end y xs 0 is in
      let same : y ≡ p = cc in
      rw (between-is first end y, ap (λ (z : K). is_gt (R first z)) same ∙ so) (last-none first end xs (rises-tail y xs rises) here.1)
  last-past first end (y ∷ xs) (suc k) p rises is at so =
      let here = counted end y xs (suc k) is in
      rw (between-is first end y, behind (R first p) refl so) (last-past first end xs k p (rises-tail y xs rises) here.1 at so)
    where
      behind : (r : Ordering) → R first p ≡ r → is_gt r ≡ true → is_gt (R first y) ≡ true
      behind Less at-p so = absurd (cc)
      behind Equal at-p so = absurd (cc)
      behind Greater at-p so =
          ap is_gt (turn y first Less (o.trans y p first (at-all (λ z. R y z ≡ Less) xs k p (rises-head y xs rises) at) (turn first p Greater at-p)))

  -- how many there are
  none-before : (k x : K) (xs : List K) → is_gt (R k x) ≡ false → AllByRecursion (λ y. R x y ≡ Less) xs → before_len R k xs ≡ 0
  none-before k x [] up all = refl
  none-before k x (y ∷ xs) up all = rw (not-after k x y up all.0) refl

  pub count-is : (first end : K) (xs : List K) → is_gt (R first end) ≡ false → Rises xs
      → length (filter (between first end) xs) + before_len R first xs ≡ before_len R end xs
  count-is first end [] forward rises = refl
  count-is first end (y ∷ xs) forward rises = by (is_gt (R first y)) refl (count-is first end xs forward (rises-tail y xs rises))
    where
      F : List K
      F = filter (between first end) xs

      ends : (b : Bool) → is_gt (R end y) ≡ b → is_gt (R first y) ≡ false → length F + before_len R first xs ≡ before_len R end xs
          → length (cond (true && b) (y ∷ F) F) + 0 ≡ cond b (suc (before_len R end xs)) zero
      ends true at up rest = let none = none-before first y xs up (rises-head y xs rises) in omega (arith, rest, none)
      ends false at up rest = let none : length F ≡ 0 = ap length (none-past first end y xs at (rises-head y xs rises)) in omega (arith, none)

      past : is_gt (R first y) ≡ true → is_gt (R end y) ≡ true
      past so = by_end (is_gt (R end y)) refl
        where
          by_end : (b : Bool) → is_gt (R end y) ≡ b → is_gt (R end y) ≡ true
          by_end true at = at
          by_end false at = let no : is_gt (R first y) ≡ false = upto o first end y forward at in absurd (cc)

      by : (b : Bool) → is_gt (R first y) ≡ b → length F + before_len R first xs ≡ before_len R end xs
          → length (filter (between first end) (y ∷ xs)) + cond b (suc (before_len R first xs)) zero ≡ before_len R end (y ∷ xs)
      by true at rest = rw (between-is first end y, at, past at) (omega (arith, rest))
      by false at rest = rw (between-is first end y, at) (ends (is_gt (R end y)) refl at rest)

  -- with so many in the row and behind it
  pub counts-are : (first end : K) (xs ys : List K) (n : ℕ) → is_gt (R first end) ≡ false → Rises (xs ++ ys)
      → n ≡ (before_len R end xs - before_len R first xs) + length (filter (between first end) ys)
      → n ≡ length (filter (between first end) (xs ++ ys))
  counts-are first end xs ys n forward rises is =
      let near = count-is first end xs forward (rises-front xs ys rises) in
      let both = length-append (filter (between first end) xs) (filter (between first end) ys) in
      (let sum : n ≡ length (filter (between first end) xs ++ filter (between first end) ys) = omega (arith, is, near, both) in sum)
      ∙ ap length (sym (filter-append (between first end) xs ys))

  -- none of no keys
  pub none-of : (first end : K) (ys : List K) → length ys ≡ 0 → length (filter (between first end) ys) ≡ 0
  none-of first end [] is = refl
  none-of first end (y ∷ ys) is = absurd (omega (arith, is))

  -- ---- the first, and the last of a row
  pub all-from : (x : K) (ks : List K) → Rises ks → slice_get ks 0 ≡ Some x → All (IsLeBy R x) ks
  all-from x [] rises is k d within = absurd (omega (arith, within))
  all-from x (y ∷ ks) rises is zero d within = let same : y ≡ x = cc in ap is_gt (ap (R x) same ∙ tied_itself o x)
  all-from x (y ∷ ks) rises is (suc k) d within =
      let same : y ≡ x = cc in
      ap is_gt (ap (λ (z : K). R z (slice_index_or ks k d)) (sym same) ∙ Less-from_sorted R (y ∷ ks) 0 (suc k) d rises (omega arith) within)

  pub less-behind : (xs ys : List K) (x : K) → Rises ((xs ++ x ∷ []) ++ ys) → AllByRecursion (λ y. R x y ≡ Less) ys
  less-behind [] ys x rises = rises-head x ys rises
  less-behind (y ∷ xs) ys x rises = less-behind xs ys x (rises-tail y ((xs ++ x ∷ []) ++ ys) rises)

  last-at : (zs : List K) (y : K) → slice_get (zs ++ y ∷ []) (length (zs ++ y ∷ []) - 1) ≡ Some y
  last-at zs y =
      ap (slice_get (zs ++ y ∷ [])) (let n = length-append zs (y ∷ []) in let m : length (zs ++ y ∷ []) - 1 ≡ length zs = omega (arith, n) in m) ∙ behind zs
    where
      behind : (ks : List K) → slice_get (ks ++ y ∷ []) (length ks) ≡ Some y
      behind [] = refl
      behind (k ∷ ks) = behind ks

  pub one-behind : (xs ys : List K) (k : K) → (xs ++ k ∷ []) ++ ys ≡ xs ++ k ∷ ys
  one-behind [] ys k = refl
  one-behind (x ∷ xs) ys k = ap (λ (zs : List K). x ∷ zs) (one-behind xs ys k)

  pub spilled-is : (xs zs ys : List K) (r : Option K) (last : K) → xs ≡ zs ++ option_to_list r → IsSome r
      → Some last ≡ slice_get xs (length xs - 1) → Rises (xs ++ ys) → zs ++ insert_key R ys last ≡ xs ++ ys
  spilled-is xs zs ys None last is some at rises = absurd (cc)
  spilled-is xs zs ys (Some y) last is some at rises =
      let same : last ≡ y = taken (at ∙ ap (λ (ks : List K). slice_get ks (length ks - 1)) is ∙ last-at zs y) in
      let all : AllByRecursion (λ z. R y z ≡ Less) ys = less-behind zs ys y (subst (λ (ks : List K). Rises (ks ++ ys)) is rises) in
      ap (λ (k : K). zs ++ insert_key R ys k) same ∙ ap (λ (ks : List K). zs ++ ks) (leading-is y ys (less-leads y ys all))
      ∙ sym (one-behind zs ys y) ∙ ap (λ (ks : List K). ks ++ ys) (sym is)
    where
      taken : {a b : K} → Some a ≡ Some b → a ≡ b
      taken e = cc

  pub gt-lt : (x y : K) → is_gt (R x y) ≡ is_lt (R y x)
  gt-lt x y = ap is_gt (o.antisymm x y) ∙ by (R y x)
    where
      by : (r : Ordering) → is_gt (ordering_reverse r) ≡ is_lt r
      by Less = refl
      by Equal = refl
      by Greater = refl

  pub has-first : (x : K) (ks : List K) → slice_get ks 0 ≡ Some x → list_any (is_at (R x)) ks ≡ true
  has-first x [] is = absurd (cc)
  has-first x (y ∷ ks) is = let same : y ≡ x = cc in rw (ap is_eq (ap (R x) same ∙ tied_itself o x)) refl

  pub least-of : (x : K) (ks : List K) → Rises ks → slice_get ks 0 ≡ Some x → (q : K) → list_any (is_at (R q)) ks ≡ true → is_gt (R x q) ≡ false
  least-of x [] rises is q there = absurd (cc)
  least-of x (y ∷ ks) rises is q there = by (R q y) refl there
    where
      same : y ≡ x
      same = cc

      equal-of : (r : Ordering) → is_eq r ≡ true → r ≡ Equal
      equal-of Less so = absurd (cc)
      equal-of Equal so = refl
      equal-of Greater so = absurd (cc)

      later : (zs : List K) → AllByRecursion (λ z. R y z ≡ Less) zs → list_any (is_at (R q)) zs ≡ true → is_gt (R x q) ≡ false
      later [] all so = absurd (cc)
      later (z ∷ zs) all so = one (is_eq (R q z)) refl so (λ found. later zs all.1 found)
        where
          one : (b : Bool) → is_eq (R q z) ≡ b → (b || list_any (is_at (R q)) zs) ≡ true
              → (list_any (is_at (R q)) zs ≡ true → is_gt (R x q) ≡ false) → is_gt (R x q) ≡ false
          one true at found rest = ap is_gt (ap (λ (k : K). R k q) (sym same) ∙ alike_right o q z y (equal-of (R q z) at) ∙ all.0)
          one false at found rest = rest found

      by : (r : Ordering) → R q y ≡ r → (is_eq r || list_any (is_at (R q)) ks) ≡ true → is_gt (R x q) ≡ false
      by Less at found = later ks (rises-head y ks rises) found
      by Equal at found = ap is_gt (ap (λ (k : K). R k q) (sym same) ∙ turn q y Equal at)
      by Greater at found = later ks (rises-head y ks rises) found

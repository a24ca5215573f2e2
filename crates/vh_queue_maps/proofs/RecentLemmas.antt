-- Lemmas on entries by rising numbers, of which the first stand in `old` and the others in a row behind them.
use Rattle.std.proofs.Common.{◌≡◌, ◌==◌, ◌∙◌, ℕ, zero, suc, ◌+◌, ◌<◌, ◌≤◌, List, [], ◌∷◌, ◌++◌, length, Bool, true, false, cond, nat_lt, nat_cmp, Option, Some, None, slice_get, refl, ap, arith, Less}
use Rattle.std.proofs.lemmas.Bool.{le-ltb, lt-ltb, ne_eqb, ltb-true, ltb-false, eqb-true}
use Rattle.std.proofs.lemmas.Bool.Decides.{nat_tests}
use Rattle.std.specs.BTreeMap.{is_at, insert_entry}
use Rattle.std.specs.List.{All, AllByRecursion, remove, slice_index_or}
use Rattle.std.specs.List.Sorted.{IsStrictlySortedBy, IsPartitionPoint, IsPartitionedBy}
use Rattle.std.specs.Map.{keys_of, lookup, remove_entry}
use Rattle.vh_queue_maps.specs.Recent.{early_len}

-- The numbers rise
abbrev Climbs : {V : Type 0} → List (ℕ × V) → Type 0
Climbs es = IsStrictlySortedBy nat_cmp (keys_of es)

-- All numbers are above one
abbrev Above : {V : Type 0} → ℕ → List (ℕ × V) → Type 0
Above n es = AllByRecursion (λ m. nat_cmp n m ≡ Less) (keys_of es)

less-is : (n m : ℕ) → nat_cmp n m ≡ Less → n < m
less-is n m is = grind (arith, nat_tests)

same-key : (n m : ℕ) → is_at (nat_cmp n) m ≡ (m == n)
same-key n m = grind (arith, nat_tests)

module _ {V : Type 0} where
  climbs-head : (e : ℕ × V) (es : List (ℕ × V)) → Climbs (e ∷ es) → Above e.0 es
  unfolding IsStrictlySortedBy
  climbs-head e es climbs = climbs.0

  climbs-tail : (e : ℕ × V) (es : List (ℕ × V)) → Climbs (e ∷ es) → Climbs es
  unfolding IsStrictlySortedBy
  climbs-tail e es climbs = climbs.1

  -- a search by halves finds how many stand before
  pub early-of : (number : ℕ) (es : List (ℕ × V)) (i : ℕ) → i ≤ length es
      → IsPartitionPoint (λ e. nat_lt e.0 number ≡ true) (λ e. nat_lt e.0 number ≡ false) es i → i ≡ early_len number es
  early-of number [] i within point = omega (arith, within)
  early-of number (e ∷ es) zero within point = rw (point.1 0 e (omega arith) (omega arith)) refl
  early-of number (e ∷ es) (suc i) within point =
      rw (point.0 0 e (omega arith) (omega arith))
      (ap suc (early-of number es i (omega (arith, within))
      ((λ j d low high. point.0 (suc j) d (omega arith) (omega (arith, high))), (λ j d low high. point.1 (suc j) d (omega (arith, low)) (omega (arith, high))))))

  at-above : (n : ℕ) (es : List (ℕ × V)) (j : ℕ) (d : ℕ × V) → Above n es → j < length es → n < (slice_index_or es j d).0
  at-above n [] j d above within = absurd (omega (arith, within))
  at-above n (e ∷ es) zero d above within = less-is n e.0 above.0
  at-above n (e ∷ es) (suc j) d above within = at-above n es j d above.1 (omega (arith, within))

  pub early-parted : (number : ℕ) (es : List (ℕ × V)) → Climbs es → IsPartitionedBy (λ e. nat_lt e.0 number) es
  early-parted number [] climbs i j d below within so = absurd (omega (arith, within))
  early-parted number (e ∷ es) climbs zero zero d below within so = so
  early-parted number (e ∷ es) climbs zero (suc j) d below within so =
      let less = at-above e.0 es j d (climbs-head e es climbs) (omega (arith, within)) in
      let last = ltb-true (slice_index_or es j d).0 number so in lt-ltb e.0 number (omega (arith, less, last))
  early-parted number (e ∷ es) climbs (suc i) zero d below within so = absurd (omega (arith, below))
  early-parted number (e ∷ es) climbs (suc i) (suc j) d below within so =
      early-parted number es (climbs-tail e es climbs) i j d (omega (arith, below)) (omega (arith, within)) so

  -- ---- one more
  pub first-behind : (number : ℕ) (value : V) (es row : List (ℕ × V)) → Climbs (es ++ (number, value) ∷ row)
      → insert_entry nat_cmp es number value ≡ es ++ (number, value) ∷ []
  first-behind number value [] row climbs = refl
  first-behind number value (e ∷ es) row climbs =
      let less = at-above e.0 (es ++ (number, value) ∷ row) (length es) (number, value) (climbs-head e (es ++ (number, value) ∷ row) climbs) (within es) in
      let there = ap (λ (d : ℕ × V). d.0) (behind es) in
      let above : e.0 < number = omega (arith, less, there) in
      rw (le-ltb number e.0 (omega (arith, above)), ne_eqb number e.0 (λ same. omega (arith, above, same)))
      (ap (λ (t : List (ℕ × V)). e ∷ t) (first-behind number value es row (climbs-tail e (es ++ (number, value) ∷ row) climbs)))
    where
      within : (xs : List (ℕ × V)) → length xs < length (xs ++ (number, value) ∷ row)
      within [] = omega arith
      within (x ∷ xs) = let h = within xs in omega (arith, h)

      behind : (xs : List (ℕ × V)) → slice_index_or (xs ++ (number, value) ∷ row) (length xs) (number, value) ≡ (number, value)
      behind [] = refl
      behind (x ∷ xs) = behind xs

  pub one-behind : (es row : List (ℕ × V)) (e : ℕ × V) → (es ++ e ∷ []) ++ row ≡ es ++ e ∷ row
  one-behind [] row e = refl
  one-behind (x ∷ es) row e = ap (λ (t : List (ℕ × V)). x ∷ t) (one-behind es row e)

  pub all-behind : (es row more : List (ℕ × V)) → es ++ (row ++ more) ≡ (es ++ row) ++ more
  all-behind [] row more = refl
  all-behind (x ∷ es) row more = ap (λ (t : List (ℕ × V)). x ∷ t) (all-behind es row more)

  above-more : (n number : ℕ) (value : V) (es : List (ℕ × V)) → n < number → Above n es → Above n (es ++ (number, value) ∷ [])
  above-more n number value [] less above = (grind (arith, nat_tests), tt)
  above-more n number value (e ∷ es) less above = (above.0, above-more n number value es less above.1)

  pub climbs-more : (number : ℕ) (value : V) (es : List (ℕ × V)) → Climbs es → All (λ n. n < number) (keys_of es) → Climbs (es ++ (number, value) ∷ [])
  unfolding IsStrictlySortedBy
  climbs-more number value [] climbs below = (tt, tt)
  climbs-more number value (e ∷ es) climbs below = (
    above-more e.0 number value es (below 0 e.0 (omega arith)) climbs.0,
    climbs-more number value es climbs.1 (λ k d within. below (suc k) d (omega (arith, within))),
  )

  -- ---- what a number has
  abbrev pub HasNone : ℕ → List (ℕ × V) → Type 0
  HasNone number es = AllByRecursion (λ m. is_at (nat_cmp number) m ≡ false) (keys_of es)

  pub lookup-front : (number : ℕ) (es row : List (ℕ × V)) → HasNone number row → lookup (is_at (nat_cmp number)) (es ++ row) ≡ lookup (is_at (nat_cmp number)) es
  lookup-front number [] row none = nothing row none
    where
      nothing : (xs : List (ℕ × V)) → HasNone number xs → lookup (is_at (nat_cmp number)) xs ≡ None
      nothing [] none = refl
      nothing (x ∷ xs) none = rw none.0 (nothing xs none.1)
  lookup-front number (e ∷ es) row none = ap (λ (o : Option V). cond (is_at (nat_cmp number) e.0) (Some e.1) o) (lookup-front number es row none)

  pub lookup-back : (number : ℕ) (es row : List (ℕ × V)) → HasNone number es → lookup (is_at (nat_cmp number)) (es ++ row) ≡ lookup (is_at (nat_cmp number)) row
  lookup-back number [] row none = refl
  lookup-back number (e ∷ es) row none = rw none.0 (lookup-back number es row none.1)

  pub remove-front : (number : ℕ) (es row : List (ℕ × V)) → HasNone number row
      → remove_entry (is_at (nat_cmp number)) (es ++ row) ≡ remove_entry (is_at (nat_cmp number)) es ++ row
  remove-front number [] row none = nothing row none
    where
      nothing : (xs : List (ℕ × V)) → HasNone number xs → remove_entry (is_at (nat_cmp number)) xs ≡ xs
      nothing [] none = refl
      nothing (x ∷ xs) none = rw none.0 (ap (λ (t : List (ℕ × V)). x ∷ t) (nothing xs none.1))
  remove-front number (e ∷ es) row none = by (is_at (nat_cmp number) e.0) (remove-front number es row none)
    where
      by : (b : Bool) → remove_entry (is_at (nat_cmp number)) (es ++ row) ≡ remove_entry (is_at (nat_cmp number)) es ++ row
          → cond b (es ++ row) (e ∷ remove_entry (is_at (nat_cmp number)) (es ++ row)) ≡ cond b es (e ∷ remove_entry (is_at (nat_cmp number)) es) ++ row
      by true rest = refl
      by false rest = ap (λ (t : List (ℕ × V)). e ∷ t) rest

  pub remove-back : (number : ℕ) (es row : List (ℕ × V)) → HasNone number es
      → remove_entry (is_at (nat_cmp number)) (es ++ row) ≡ es ++ remove_entry (is_at (nat_cmp number)) row
  remove-back number [] row none = refl
  remove-back number (e ∷ es) row none = rw none.0 (ap (λ (t : List (ℕ × V)). e ∷ t) (remove-back number es row none.1))

  above-none : (number n : ℕ) (es : List (ℕ × V)) → number ≤ n → Above n es → HasNone number es
  above-none number n [] up above = tt
  above-none number n (e ∷ es) up above =
      (same-key number e.0 ∙ ne_eqb e.0 number (λ same. let less = less-is n e.0 above.0 in omega (arith, up, less, same)), above-none number n es up above.1)

  -- in a row: behind all, before one that is above it, and at its place
  pub past-none : (number : ℕ) (row : List (ℕ × V)) → slice_get row (early_len number row) ≡ None → HasNone number row
  past-none number [] is = tt
  past-none number (e ∷ row) is = by (nat_lt e.0 number) refl is (past-none number row)
    where
      by : (b : Bool) → nat_lt e.0 number ≡ b → slice_get (e ∷ row) (cond b (suc (early_len number row)) zero) ≡ None
          → (slice_get row (early_len number row) ≡ None → HasNone number row) → HasNone number (e ∷ row)
      by true at there rest = (same-key number e.0 ∙ ne_eqb e.0 number (λ same. let less = ltb-true e.0 number at in omega (arith, less, same)), rest there)
      by false at there rest = absurd (cc)

  pub apart-none : (number : ℕ) (row : List (ℕ × V)) (d : ℕ × V) → Climbs row → slice_get row (early_len number row) ≡ Some d → (d.0 == number) ≡ false
      → HasNone number row
  apart-none number [] d climbs is apart = absurd (cc)
  apart-none number (e ∷ row) d climbs is apart =
      by (nat_lt e.0 number) refl is (λ there. apart-none number row d (climbs-tail e row climbs) there apart)
    where
      by : (b : Bool) → nat_lt e.0 number ≡ b → slice_get (e ∷ row) (cond b (suc (early_len number row)) zero) ≡ Some d
          → (slice_get row (early_len number row) ≡ Some d → HasNone number row) → HasNone number (e ∷ row)
      by true at there rest = (same-key number e.0 ∙ ne_eqb e.0 number (λ same. let less = ltb-true e.0 number at in omega (arith, less, same)), rest there)
      by false at there rest =
          let same : e ≡ d = cc in
          let up = ltb-false e.0 number at in
          (same-key number e.0 ∙ ap (λ (x : ℕ × V). x.0 == number) same ∙ apart, above-none number e.0 row up (climbs-head e row climbs))

  pub there-some : (number : ℕ) (row : List (ℕ × V)) (d : ℕ × V) → slice_get row (early_len number row) ≡ Some d → (d.0 == number) ≡ true
      → (lookup (is_at (nat_cmp number)) row ≡ Some d.1) × (remove_entry (is_at (nat_cmp number)) row ≡ remove row (early_len number row))
  there-some number [] d is same = absurd (cc)
  there-some number (e ∷ row) d is same = by (nat_lt e.0 number) refl is (λ there. there-some number row d there same)
    where
      by : (b : Bool) → nat_lt e.0 number ≡ b → slice_get (e ∷ row) (cond b (suc (early_len number row)) zero) ≡ Some d
          → (slice_get row (early_len number row) ≡ Some d
          → (lookup (is_at (nat_cmp number)) row ≡ Some d.1) × (remove_entry (is_at (nat_cmp number)) row ≡ remove row (early_len number row)))
          → (lookup (is_at (nat_cmp number)) (e ∷ row) ≡ Some d.1)
          × (remove_entry (is_at (nat_cmp number)) (e ∷ row) ≡ remove (e ∷ row) (cond b (suc (early_len number row)) zero))
      by true at there rest =
          let apart : is_at (nat_cmp number) e.0 ≡ false =
          same-key number e.0 ∙ ne_eqb e.0 number (λ equal. let less = ltb-true e.0 number at in omega (arith, less, equal)) in
          (rw apart ((rest there).0), rw apart (ap (λ (t : List (ℕ × V)). e ∷ t) ((rest there).1)))
      by false at there rest =
          let here : e ≡ d = cc in
          let equal : is_at (nat_cmp number) e.0 ≡ true = same-key number e.0 ∙ ap (λ (x : ℕ × V). x.0 == number) here ∙ same in
          (rw equal (ap (λ (x : ℕ × V). Some x.1) here), rw equal refl)

  -- those before a row whose entry is at the number haven't it
  pub front-none : (number : ℕ) (es row : List (ℕ × V)) (d : ℕ × V) (k : ℕ) → Climbs (es ++ row) → slice_get row k ≡ Some d → (d.0 == number) ≡ true
      → HasNone number es
  front-none number [] row d k climbs is same = tt
  front-none number (e ∷ es) row d k climbs is same = (
    same-key number e.0 ∙ ne_eqb e.0 number (λ equal. let less = below (es ++ row) (length es + k) (behind es) (climbs-head e (es ++ row) climbs) in let at = eqb-true d.0 number same in omega (arith, less, at, equal)),
    front-none number es row d k (climbs-tail e (es ++ row) climbs) is same,
  )
    where
      behind : (xs : List (ℕ × V)) → slice_get (xs ++ row) (length xs + k) ≡ Some d
      behind [] = ap (slice_get row) (let n : 0 + k ≡ k = omega arith in n) ∙ is
      behind (x ∷ xs) = ap (slice_get (x ∷ xs ++ row)) (let n : suc (length xs) + k ≡ suc (length xs + k) = omega arith in n) ∙ behind xs

      below : (xs : List (ℕ × V)) (j : ℕ) → slice_get xs j ≡ Some d → Above e.0 xs → e.0 < d.0
      below [] j at above = absurd (cc)
      below (x ∷ xs) zero at above = let one : x ≡ d = cc in let less = less-is e.0 x.0 above.0 in let m = ap (λ (y : ℕ × V). y.0) one in omega (arith, less, m)
      below (x ∷ xs) (suc j) at above = below xs j at above.1

  pub climbs-back : (es row : List (ℕ × V)) → Climbs (es ++ row) → Climbs row
  climbs-back [] row climbs = climbs
  climbs-back (e ∷ es) row climbs = climbs-back es row (climbs-tail e (es ++ row) climbs)

  pub row-past : (row : List (ℕ × V)) (n : ℕ) → length row ≤ n → slice_get row n ≡ None
  row-past [] n past = refl
  row-past (x ∷ row) zero past = absurd (omega (arith, past))
  row-past (x ∷ row) (suc n) past = row-past row n (omega (arith, past))

  -- what is left climbs
  above-left : (n : ℕ) (test : ℕ → Bool) (es : List (ℕ × V)) → Above n es → Above n (remove_entry test es)
  above-left n test [] above = tt
  above-left n test (e ∷ es) above = by (test e.0) (above-left n test es above.1)
    where
      by : (b : Bool) → Above n (remove_entry test es) → Above n (cond b es (e ∷ remove_entry test es))
      by true rest = above.1
      by false rest = (above.0, rest)

  pub climbs-left : (test : ℕ → Bool) (es : List (ℕ × V)) → Climbs es → Climbs (remove_entry test es)
  unfolding IsStrictlySortedBy
  climbs-left test [] climbs = tt
  climbs-left test (e ∷ es) climbs = by (test e.0) (climbs-left test es climbs.1)
    where
      by : (b : Bool) → Climbs (remove_entry test es) → Climbs (cond b es (e ∷ remove_entry test es))
      by true rest = climbs.1
      by false rest = (above-left e.0 test es climbs.0, rest)

-- Rising lists of what stands under numbers: what each number finds after a change, and that two lists in
-- which each number finds the same are one. Then the matching numbers.
use Rattle.std.proofs.Common.{◌≡◌, ◌<◌, ◌≤◌, ◌+◌, ◌++◌, ℕ, List, [], ◌∷◌, length, map, filter, Bool, true, false, cond, refl, sym, ap, ◌∙◌, arith, Option, Some, None, slice_get, ⊎_elim, subst, Greater, Less, Equal}
use Rattle.std.proofs.lemmas.Bool.{leb-true, leb-false, eqb-true, eqb-false, eq-eqb, ne_eqb, le-ltb, ltb-true, cases_lt}
use Rattle.std.proofs.lemmas.Cmp.{ranked}
use Rattle.std.proofs.lemmas.List.{length-map}
use Rattle.std.specs.BTreeMap.{is_at, insert_entry}
use Rattle.std.specs.Cmp.{nat_eq_equiv}
use Rattle.std.specs.List.{list_any}
use Rattle.std.specs.Map.{set_value}
use Rattle.std.specs.Option.{option_map}
use Rattle.std.specs.Ordering.{nat_cmp, is_eq, match_ordering, MatchOrdering}
use Rattle.std.specs.declared.cmp.Ordering.{Ordering}
use Rattle.std.specs.Prelude.{nat_eq, nat_le, nat_lt, is_some, ◌||◌}
use Rattle.vh_base.specs.declared.orders.Object.{Object}
use Rattle.vh_base.specs.declared.words.Reason.{Reason}
use Rattle.vh_callbacks.specs.declared.live.Live.{Live}
use Rattle.vh_callbacks.specs.declared.registration.Registration.{Registration}
use Rattle.vh_callbacks.specs.Registration.{is_some_for}
use Rattle.vh_callbacks.specs.Callbacks.{Rise, IsRising, without, live_at, changed, changed_by, has_reason, numbers_of, any_of}

at_by : (b d : Bool) → (b ≡ true → d ≡ false) → is_eq (cond b Less (cond d Equal Greater)) ≡ d
at_by true true h = sym (h refl)
at_by true false h = refl
at_by false true h = refl
at_by false false h = refl

-- A look-up's test is that the numbers are one.
pub at_eq : (c k : ℕ) → is_at (nat_cmp c) k ≡ nat_eq c k
at_eq c k = at_by (nat_lt c k) (nat_eq c k) (λ h. ne_eqb c k (λ e. omega (arith, ltb-true c k h)))

pub at_apart : (c k : ℕ) → (c ≡ k → ⊥) → is_at (nat_cmp c) k ≡ false
at_apart c k apart = at_eq c k ∙ ne_eqb c k apart

pub at_same : (c k : ℕ) → c ≡ k → is_at (nat_cmp c) k ≡ true
at_same c k same = at_eq c k ∙ eq-eqb c k same

turned : (c d : ℕ) → is_at (nat_cmp d) c ≡ nat_eq c d
turned c d = at_eq d c ∙ nat_eq_equiv.symm d c

pub greater : (n k : ℕ) → k < n → nat_cmp n k ≡ Greater
greater n k above = rw (le-ltb n k (omega arith), ne_eqb n k (λ e. omega arith)) refl

-- Numbers that rise from one on rise from any below it.
pub from_lower : (low lower : ℕ) (numbers : List ℕ) → lower ≤ low → IsRising low numbers → IsRising lower numbers
from_lower low lower [] below rising = tt
from_lower low lower (n ∷ numbers) below rising = ((let h = rising.0 in omega arith), rising.1)

-- ---- whatever stands under the numbers

module _ {X : Type 0} where
  pub rise_bound : (least : ℕ) (es : List (ℕ × X)) (next : ℕ) → Rise least es next → least ≤ next
  rise_bound least [] next h = h
  rise_bound least (e ∷ es) next h = let rest : e.0 + 1 ≤ next = rise_bound (e.0 + 1) es next h.1 in omega arith

  pub rise_from : (least lower : ℕ) (es : List (ℕ × X)) (next : ℕ) → lower ≤ least → Rise least es next → Rise lower es next
  rise_from least lower [] next below h = omega arith
  rise_from least lower (e ∷ es) next below h = (omega arith, h.1)

  pub rise_to : (least : ℕ) (es : List (ℕ × X)) (next later : ℕ) → next ≤ later → Rise least es next → Rise least es later
  rise_to least [] next later above h = omega arith
  rise_to least (e ∷ es) next later above h = (h.0, rise_to (e.0 + 1) es next later above h.1)

  -- A number below all finds nothing, and so does one that is not below the next.
  pub live_below : (c least : ℕ) (es : List (ℕ × X)) (next : ℕ) → c < least → Rise least es next → live_at c es ≡ None
  live_below c least [] next below h = refl
  live_below c least (e ∷ es) next below h =
      rw (at_apart c e.0 (λ same. omega arith)) (live_below c (e.0 + 1) es next (omega arith) h.1)

  pub live_above : (c least : ℕ) (es : List (ℕ × X)) (next : ℕ) → next ≤ c → Rise least es next → live_at c es ≡ None
  live_above c least [] next above h = refl
  live_above c least (e ∷ es) next above h =
      let bound : e.0 + 1 ≤ next = rise_bound (e.0 + 1) es next h.1 in
      rw (at_apart c e.0 (λ same. omega arith)) (live_above c (e.0 + 1) es next above h.1)

  -- A number that finds something is one of those that were given.
  known_by : (b : Bool) (c least : ℕ) (es : List (ℕ × X)) (next : ℕ) → nat_le next c ≡ b → Rise least es next → is_some (live_at c es) ≡ true → c < next
  known_by true c least es next is h there =
      let no_one : live_at c es ≡ None = live_above c least es next (leb-true next c is) h in cc
  known_by false c least es next is h there = leb-false next c is

  pub known_below : (c least : ℕ) (es : List (ℕ × X)) (next : ℕ) → Rise least es next → is_some (live_at c es) ≡ true → c < next
  known_below c least es next h there = known_by (nat_le next c) c least es next refl h there

  pub known_from : (c least : ℕ) (es : List (ℕ × X)) (next : ℕ) → Rise least es next → is_some (live_at c es) ≡ true → least ≤ c
  known_from c least es next h there =
      ⊎_elim
      (λ (below : c < least). let no_one : live_at c es ≡ None = live_below c least es next below h in cc)
      (λ (above : least ≤ c). above)
      (cases_lt c least)

  -- ---- lists in which each number finds the same

  rest_same_by : (d n least next bound : ℕ) (x y : X) (es fs : List (ℕ × X)) → (b : Bool) → nat_eq d n ≡ b → Rise (n + 1) es next → Rise (n + 1) fs bound
      → cond (is_at (nat_cmp d) n) (Some x) (live_at d es) ≡ cond (is_at (nat_cmp d) n) (Some y) (live_at d fs)
      → live_at d es ≡ live_at d fs
  rest_same_by d n least next bound x y es fs true at h k is =
      let same : d ≡ n = eqb-true d n at in
      live_below d (n + 1) es next (omega arith) h ∙ sym (live_below d (n + 1) fs bound (omega arith) k)
  rest_same_by d n least next bound x y es fs false at h k is =
      let away : is_at (nat_cmp d) n ≡ false = at_eq d n ∙ at in
      ap (λ (b : Bool). cond b (Some x) (live_at d es)) (sym away) ∙ is ∙ ap (λ (b : Bool). cond b (Some y) (live_at d fs)) away

  -- the first numbers are one,
  first_found : (e : ℕ × X) (es : List (ℕ × X)) → live_at e.0 (e ∷ es) ≡ Some e.1
  first_found e es = ap (λ (b : Bool). cond b (Some e.1) (live_at e.0 es)) (at_same e.0 e.0 refl)

  none_found : (e f : ℕ × X) (fs : List (ℕ × X)) (bound : ℕ) → e.0 < f.0 → Rise (f.0 + 1) fs bound → live_at e.0 (f ∷ fs) ≡ None
  none_found e f fs bound below k = live_below e.0 f.0 (f ∷ fs) bound below (omega arith, k)

  first_same : (e f : ℕ × X) (es fs : List (ℕ × X)) (next bound : ℕ) → Rise (e.0 + 1) es next → Rise (f.0 + 1) fs bound
      → ((d : ℕ) → live_at d (e ∷ es) ≡ live_at d (f ∷ fs)) → e.0 ≡ f.0
  first_same e f es fs next bound h k same =
      ⊎_elim
      (λ (lower : e.0 < f.0). let no : Some e.1 ≡ None = sym (first_found e es) ∙ same e.0 ∙ none_found e f fs bound lower k in cc)
      (λ (above : f.0 ≤ e.0).
      ⊎_elim
      (λ (upper : f.0 < e.0). let no : None ≡ Some f.1 = sym (none_found f e es next upper h) ∙ same f.0 ∙ first_found f fs in cc)
      (λ (below : e.0 ≤ f.0). omega arith)
      (cases_lt f.0 e.0))
      (cases_lt e.0 f.0)

  -- what stands there is one,
  value_same : (e f : ℕ × X) (es fs : List (ℕ × X)) → e.0 ≡ f.0 → ((d : ℕ) → live_at d (e ∷ es) ≡ live_at d (f ∷ fs)) → e.1 ≡ f.1
  value_same e f es fs one same =
      let here : live_at e.0 (f ∷ fs) ≡ Some f.1 = ap (λ (b : Bool). cond b (Some f.1) (live_at e.0 fs)) (at_same e.0 f.0 one) in
      let both : Some e.1 ≡ Some f.1 = sym (first_found e es) ∙ same e.0 ∙ here in
      cc

  pair_same : (n m : ℕ) (x y : X) (es fs : List (ℕ × X)) → n ≡ m → x ≡ y → es ≡ fs → ((n, x) ∷ es) ≡ ((m, y) ∷ fs)
  pair_same n m x y es fs p q r = rw (p, q, r) refl

  -- and so Rising lists in which each number finds the same are one.
  pub same_entries : (least : ℕ) (es fs : List (ℕ × X)) (next bound : ℕ) → Rise least es next → Rise least fs bound
      → ((d : ℕ) → live_at d es ≡ live_at d fs) → es ≡ fs
  same_entries least [] [] next bound h k same = refl
  same_entries least [] (f ∷ fs) next bound h k same = let no : None ≡ Some f.1 = same f.0 ∙ first_found f fs in cc
  same_entries least (e ∷ es) [] next bound h k same = let no : Some e.1 ≡ None = sym (first_found e es) ∙ same e.0 in cc
  same_entries least (e ∷ es) (f ∷ fs) next bound h k same =
      let one : e.0 ≡ f.0 = first_same e f es fs next bound h.1 k.1 same in
      let P : ℕ → Type 0 = λ n. Rise (n + 1) fs bound in
      let k' : Rise (e.0 + 1) fs bound = subst P (sym one) k.1 in
      pair_same e.0 f.0 e.1 f.1 es fs one (value_same e f es fs one same)
      (same_entries (e.0 + 1) es fs next bound h.1 k'
      (λ d. rest_same_by d e.0 (e.0 + 1) next bound e.1 f.1 es fs (nat_eq d e.0) refl h.1 k'
      (same d ∙ ap (λ (n : ℕ). cond (is_at (nat_cmp d) n) (Some f.1) (live_at d fs)) (sym one))))

  -- ---- one more at the end

  pub rise_more : (least : ℕ) (es : List (ℕ × X)) (next : ℕ) (x : X) → Rise least es next → Rise least (es ++ (next, x) ∷ []) (next + 1)
  rise_more least [] next x h = (h, omega arith)
  rise_more least (e ∷ es) next x h = (h.0, rise_more (e.0 + 1) es next x h.1)

  -- A number above all others goes to the end.
  pub insert_last : (least : ℕ) (es : List (ℕ × X)) (next : ℕ) (x : X) → Rise least es next
      → insert_entry nat_cmp es next x ≡ es ++ (next, x) ∷ []
  insert_last least [] next x h = refl
  insert_last least (e ∷ es) next x h =
      let above : e.0 + 1 ≤ next = rise_bound (e.0 + 1) es next h.1 in
      rw (greater next e.0 (omega arith)) (ap (λ (t : List (ℕ × X)). e ∷ t) (insert_last (e.0 + 1) es next x h.1))

  pub live_more_new : (least : ℕ) (es : List (ℕ × X)) (next : ℕ) (x : X) → Rise least es next
      → live_at next (es ++ (next, x) ∷ []) ≡ Some x
  live_more_new least [] next x h = rw (at_same next next refl) refl
  live_more_new least (e ∷ es) next x h =
      let bound : e.0 + 1 ≤ next = rise_bound (e.0 + 1) es next h.1 in
      rw (at_apart next e.0 (λ same. omega arith)) (live_more_new (e.0 + 1) es next x h.1)

  pub live_more_other : (c : ℕ) (es : List (ℕ × X)) (n : ℕ) (x : X) → nat_eq c n ≡ false
      → live_at c (es ++ (n, x) ∷ []) ≡ live_at c es
  live_more_other c [] n x apart = rw (at_eq c n, apart) refl
  live_more_other c (e ∷ es) n x apart =
      ap (λ (t : Option X). cond (is_at (nat_cmp c) e.0) (Some e.1) t) (live_more_other c es n x apart)

  -- ---- one less

  -- by whether the first is the one that goes
  without_head : (c least : ℕ) (b : Bool) (e : ℕ × X) (es : List (ℕ × X)) (next : ℕ) → Rise (e.0 + 1) (without c es) next → Rise least (e ∷ es) next
      → Rise least (cond b es (e ∷ without c es)) next
  without_head c least true e es next rest h = rise_from (e.0 + 1) least es next (omega arith) h.1
  without_head c least false e es next rest h = (h.0, rest)

  pub rise_without : (c least : ℕ) (es : List (ℕ × X)) (next : ℕ) → Rise least es next → Rise least (without c es) next
  rise_without c least [] next h = h
  rise_without c least (e ∷ es) next h = without_head c least (is_at (nat_cmp c) e.0) e es next (rise_without c (e.0 + 1) es next h.1) h

  length_head : (c : ℕ) (b : Bool) (e : ℕ × X) (es : List (ℕ × X)) → length (without c es) ≤ length es
      → length (cond b es (e ∷ without c es)) ≤ length es + 1
  length_head c true e es rest = omega arith
  length_head c false e es rest = omega arith

  pub length_without : (c : ℕ) (es : List (ℕ × X)) → length (without c es) ≤ length es
  length_without c [] = omega arith
  length_without c (e ∷ es) =
      let h : length (cond (is_at (nat_cmp c) e.0) es (e ∷ without c es)) ≤ length es + 1 = length_head c (is_at (nat_cmp c) e.0) e es (length_without c es) in
      omega arith

  -- Without one that is there the list is shorter by one.
  less_head : (c : ℕ) (b : Bool) (e : ℕ × X) (es : List (ℕ × X)) → is_some (cond b (Some e.1) (live_at c es)) ≡ true
      → (is_some (live_at c es) ≡ true → length (without c es) + 1 ≡ length es)
      → length (cond b es (e ∷ without c es)) + 1 ≡ length (e ∷ es)
  less_head c true e es there rest = omega arith
  less_head c false e es there rest = let k = rest there in omega arith

  pub length_less : (c : ℕ) (es : List (ℕ × X)) → is_some (live_at c es) ≡ true → length (without c es) + 1 ≡ length es
  length_less c [] there = cc
  length_less c (e ∷ es) there = less_head c (is_at (nat_cmp c) e.0) e es there (length_less c es)

  same_head : (c least : ℕ) (b : Bool) (e : ℕ × X) (es : List (ℕ × X)) (next : ℕ) → is_at (nat_cmp c) e.0 ≡ b
      → live_at c (without c es) ≡ None → Rise least (e ∷ es) next → live_at c (cond b es (e ∷ without c es)) ≡ None
  same_head c least true e es next is rest h =
      let same : c ≡ e.0 = eqb-true c e.0 (sym (at_eq c e.0) ∙ is) in
      live_below c (e.0 + 1) es next (omega arith) h.1
  same_head c least false e es next is rest h = rw is rest

  pub live_without_same : (c least : ℕ) (es : List (ℕ × X)) (next : ℕ) → Rise least es next → live_at c (without c es) ≡ None
  live_without_same c least [] next h = refl
  live_without_same c least (e ∷ es) next h =
      same_head c least (is_at (nat_cmp c) e.0) e es next refl (live_without_same c (e.0 + 1) es next h.1) h

  other_head : (c d : ℕ) (b : Bool) (e : ℕ × X) (es : List (ℕ × X)) → is_at (nat_cmp c) e.0 ≡ b → nat_eq c d ≡ false
      → live_at d (without c es) ≡ live_at d es → live_at d (cond b es (e ∷ without c es)) ≡ live_at d (e ∷ es)
  other_head c d true e es is apart rest =
      let same : c ≡ e.0 = eqb-true c e.0 (sym (at_eq c e.0) ∙ is) in
      let none : is_at (nat_cmp d) e.0 ≡ false = at_apart d e.0 (λ other. eqb-false c d apart (same ∙ sym other)) in
      rw none refl
  other_head c d false e es is apart rest = ap (λ (t : Option X). cond (is_at (nat_cmp d) e.0) (Some e.1) t) rest

  pub live_without_other : (c d : ℕ) (es : List (ℕ × X)) → nat_eq c d ≡ false → live_at d (without c es) ≡ live_at d es
  live_without_other c d [] apart = refl
  live_without_other c d (e ∷ es) apart = other_head c d (is_at (nat_cmp c) e.0) e es refl apart (live_without_other c d es apart)

  without_by : (c d : ℕ) (b : Bool) (least : ℕ) (es : List (ℕ × X)) (next : ℕ) → nat_eq c d ≡ b → Rise least es next
      → live_at d (without c es) ≡ cond b None (live_at d es)
  without_by c d true least es next is h =
      let P : ℕ → Type 0 = λ n. live_at n (without c es) ≡ None in
      subst P (eqb-true c d is) (live_without_same c least es next h)
  without_by c d false least es next is h = live_without_other c d es is

  -- What each number finds without one.
  pub live_without : (c d least : ℕ) (es : List (ℕ × X)) (next : ℕ) → Rise least es next
      → live_at d (without c es) ≡ cond (nat_eq c d) None (live_at d es)
  live_without c d least es next h = without_by c d (nat_eq c d) least es next refl h

  absent_by : (c : ℕ) (b : Bool) (e : ℕ × X) (es : List (ℕ × X)) → cond b (Some e.1) (live_at c es) ≡ None
      → (live_at c es ≡ None → without c es ≡ es) → cond b es (e ∷ without c es) ≡ (e ∷ es)
  absent_by c true e es none rest = cc
  absent_by c false e es none rest = ap (λ (t : List (ℕ × X)). e ∷ t) (rest none)

  -- Without one that isn't there nothing changes.
  pub without_absent : (c : ℕ) (es : List (ℕ × X)) → live_at c es ≡ None → without c es ≡ es
  without_absent c [] none = refl
  without_absent c (e ∷ es) none = absent_by c (is_at (nat_cmp c) e.0) e es none (without_absent c es)

  -- ---- one that is put in its place

  -- in the place of the first,
  in_place : (b : Bool) (x y : X) (o : Option X) → cond b (Some x) o ≡ cond b (Some x) (cond b (Some y) o)
  in_place true x y o = refl
  in_place false x y o = refl

  found_here : (c d n : ℕ) (x y : X) (o : Option X) → c ≡ n
      → cond (is_at (nat_cmp d) n) (Some x) o ≡ cond (nat_eq c d) (Some x) (cond (is_at (nat_cmp d) n) (Some y) o)
  found_here c d n x y o same =
      let is : is_at (nat_cmp d) n ≡ nat_eq c d = turned n d ∙ ap (λ (m : ℕ). nat_eq m d) (sym same) in
      rw is (in_place (nat_eq c d) x y o)

  -- or behind it
  apart_by : (b here : Bool) (x y : X) (o : Option X) → (b ≡ true → here ≡ true → ⊥)
      → cond here (Some y) (cond b (Some x) o) ≡ cond b (Some x) (cond here (Some y) o)
  apart_by true true x y o never = absurd (never refl refl)
  apart_by true false x y o never = refl
  apart_by false true x y o never = refl
  apart_by false false x y o never = refl

  found_behind : (c d n : ℕ) (x y : X) (o : Option X) → (c ≡ n → ⊥)
      → cond (is_at (nat_cmp d) n) (Some y) (cond (nat_eq c d) (Some x) o) ≡ cond (nat_eq c d) (Some x) (cond (is_at (nat_cmp d) n) (Some y) o)
  found_behind c d n x y o apart =
      apart_by (nat_eq c d) (is_at (nat_cmp d) n) x y o
      (λ is here. apart (eqb-true c d is ∙ eqb-true d n (sym (at_eq d n) ∙ here)))

  insert_by : (c d : ℕ) (o : Ordering) (x : X) (e : ℕ × X) (es : List (ℕ × X)) → MatchOrdering o (c < e.0) (c ≡ e.0) (e.0 < c)
      → live_at d (insert_entry nat_cmp es c x) ≡ cond (nat_eq c d) (Some x) (live_at d es)
      → live_at d (match_ordering o ((c, x) ∷ e ∷ es) ((e.0, x) ∷ es) (e ∷ insert_entry nat_cmp es c x)) ≡ cond (nat_eq c d) (Some x) (live_at d (e ∷ es))
  insert_by c d Less x e es is rest = ap (λ (b : Bool). cond b (Some x) (live_at d (e ∷ es))) (turned c d)
  insert_by c d Equal x e es is rest = found_here c d e.0 x e.1 (live_at d es) is
  insert_by c d Greater x e es is rest =
      ap (λ (t : Option X). cond (is_at (nat_cmp d) e.0) (Some e.1) t) rest
      ∙ found_behind c d e.0 x e.1 (live_at d es) (λ same. omega arith)

  -- What each number finds after one was put in its place.
  pub live_insert : (c d : ℕ) (x : X) (es : List (ℕ × X)) → live_at d (insert_entry nat_cmp es c x) ≡ cond (nat_eq c d) (Some x) (live_at d es)
  live_insert c d x [] = ap (λ (b : Bool). cond b (Some x) None) (turned c d)
  live_insert c d x (e ∷ es) = insert_by c d (nat_cmp c e.0) x e es (ranked c e.0 (nat_cmp c e.0) refl) (live_insert c d x es)

  rise_insert_by : (c least : ℕ) (o : Ordering) (x : X) (e : ℕ × X) (es : List (ℕ × X)) (next : ℕ) → MatchOrdering o (c < e.0) (c ≡ e.0) (e.0 < c)
      → least ≤ c → c < next → Rise least (e ∷ es) next
      → (e.0 + 1 ≤ c → Rise (e.0 + 1) (insert_entry nat_cmp es c x) next)
      → Rise least (match_ordering o ((c, x) ∷ e ∷ es) ((e.0, x) ∷ es) (e ∷ insert_entry nat_cmp es c x)) next
  rise_insert_by c least Less x e es next is low high h rest = (low, (omega arith, h.1))
  rise_insert_by c least Equal x e es next is low high h rest = (h.0, h.1)
  rise_insert_by c least Greater x e es next is low high h rest = (h.0, rest (omega arith))

  pub rise_insert : (c least : ℕ) (x : X) (es : List (ℕ × X)) (next : ℕ) → least ≤ c → c < next → Rise least es next
      → Rise least (insert_entry nat_cmp es c x) next
  rise_insert c least x [] next low high h = (low, omega arith)
  rise_insert c least x (e ∷ es) next low high h =
      rise_insert_by c least (nat_cmp c e.0) x e es next (ranked c e.0 (nat_cmp c e.0) refl) low high h
      (λ above. rise_insert c (e.0 + 1) x es next above high h.1)

  -- ---- one that is changed

  set_by : (c d : ℕ) (b : Bool) (x : X) (e : ℕ × X) (es : List (ℕ × X)) → is_at (nat_cmp c) e.0 ≡ b
      → is_some (cond b (Some e.1) (live_at c es)) ≡ true
      → (is_some (live_at c es) ≡ true → live_at d (set_value (is_at (nat_cmp c)) es x) ≡ cond (nat_eq c d) (Some x) (live_at d es))
      → live_at d (cond b ((e.0, x) ∷ es) (e ∷ set_value (is_at (nat_cmp c)) es x)) ≡ cond (nat_eq c d) (Some x) (live_at d (e ∷ es))
  set_by c d true x e es is there rest = found_here c d e.0 x e.1 (live_at d es) (eqb-true c e.0 (sym (at_eq c e.0) ∙ is))
  set_by c d false x e es is there rest =
      ap (λ (t : Option X). cond (is_at (nat_cmp d) e.0) (Some e.1) t) (rest there)
      ∙ found_behind c d e.0 x e.1 (live_at d es) (eqb-false c e.0 (sym (at_eq c e.0) ∙ is))

  live_set : (c d : ℕ) (x : X) (es : List (ℕ × X)) → is_some (live_at c es) ≡ true
      → live_at d (set_value (is_at (nat_cmp c)) es x) ≡ cond (nat_eq c d) (Some x) (live_at d es)
  live_set c d x [] there = cc
  live_set c d x (e ∷ es) there = set_by c d (is_at (nat_cmp c) e.0) x e es refl there (live_set c d x es)

  none_changed : (f : X → X) (c d : ℕ) (b : Bool) (es : List (ℕ × X)) → nat_eq c d ≡ b → live_at c es ≡ None
      → live_at d es ≡ cond b (option_map f (live_at d es)) (live_at d es)
  none_changed f c d true es is none =
      let gone : live_at d es ≡ None = ap (λ (n : ℕ). live_at n es) (sym (eqb-true c d is)) ∙ none in
      gone ∙ ap (option_map f) (sym gone)
  none_changed f c d false es is none = refl

  some_changed : (f : X → X) (c d : ℕ) (b : Bool) (x : X) (es : List (ℕ × X)) → nat_eq c d ≡ b → live_at c es ≡ Some x
      → cond b (Some (f x)) (live_at d es) ≡ cond b (option_map f (live_at d es)) (live_at d es)
  some_changed f c d true x es is found =
      ap (option_map f) (sym found ∙ ap (λ (n : ℕ). live_at n es) (eqb-true c d is))
  some_changed f c d false x es is found = refl

  changed_at : (f : X → X) (c d : ℕ) (o : Option X) (es : List (ℕ × X)) → live_at c es ≡ o
      → live_at d (changed_by o f c es) ≡ cond (nat_eq c d) (option_map f (live_at d es)) (live_at d es)
  changed_at f c d None es is = none_changed f c d (nat_eq c d) es refl is
  changed_at f c d (Some x) es is =
      live_set c d (f x) es (ap is_some is) ∙ some_changed f c d (nat_eq c d) x es refl is

  -- What each number finds after one was changed.
  pub live_changed : (f : X → X) (c d : ℕ) (es : List (ℕ × X))
      → live_at d (changed f c es) ≡ cond (nat_eq c d) (option_map f (live_at d es)) (live_at d es)
  live_changed f c d es = changed_at f c d (live_at c es) es refl

  pub live_changed_same : (f : X → X) (c : ℕ) (es : List (ℕ × X)) → live_at c (changed f c es) ≡ option_map f (live_at c es)
  live_changed_same f c es =
      live_changed f c c es ∙ ap (λ (b : Bool). cond b (option_map f (live_at c es)) (live_at c es)) (eq-eqb c c refl)

  pub live_changed_other : (f : X → X) (c d : ℕ) (es : List (ℕ × X)) → nat_eq c d ≡ false → live_at d (changed f c es) ≡ live_at d es
  live_changed_other f c d es apart =
      live_changed f c d es ∙ ap (λ (b : Bool). cond b (option_map f (live_at d es)) (live_at d es)) apart

  rise_set_by : (c least : ℕ) (b : Bool) (x : X) (e : ℕ × X) (es : List (ℕ × X)) (next : ℕ) → Rise least (e ∷ es) next
      → Rise (e.0 + 1) (set_value (is_at (nat_cmp c)) es x) next
      → Rise least (cond b ((e.0, x) ∷ es) (e ∷ set_value (is_at (nat_cmp c)) es x)) next
  rise_set_by c least true x e es next h rest = (h.0, h.1)
  rise_set_by c least false x e es next h rest = (h.0, rest)

  rise_set : (c least : ℕ) (x : X) (es : List (ℕ × X)) (next : ℕ) → Rise least es next → Rise least (set_value (is_at (nat_cmp c)) es x) next
  rise_set c least x [] next h = h
  rise_set c least x (e ∷ es) next h = rise_set_by c least (is_at (nat_cmp c) e.0) x e es next h (rise_set c (e.0 + 1) x es next h.1)

  rise_changed_by : (f : X → X) (c least : ℕ) (o : Option X) (es : List (ℕ × X)) (next : ℕ) → Rise least es next → Rise least (changed_by o f c es) next
  rise_changed_by f c least None es next h = h
  rise_changed_by f c least (Some x) es next h = rise_set c least (f x) es next h

  pub rise_changed : (f : X → X) (c least : ℕ) (es : List (ℕ × X)) (next : ℕ) → Rise least es next → Rise least (changed f c es) next
  rise_changed f c least es next h = rise_changed_by f c least (live_at c es) es next h

  length_set_by : (c : ℕ) (b : Bool) (x : X) (e : ℕ × X) (es : List (ℕ × X)) → length (set_value (is_at (nat_cmp c)) es x) ≡ length es
      → length (cond b ((e.0, x) ∷ es) (e ∷ set_value (is_at (nat_cmp c)) es x)) ≡ length (e ∷ es)
  length_set_by c true x e es rest = refl
  length_set_by c false x e es rest = omega arith

  length_set : (c : ℕ) (x : X) (es : List (ℕ × X)) → length (set_value (is_at (nat_cmp c)) es x) ≡ length es
  length_set c x [] = refl
  length_set c x (e ∷ es) = length_set_by c (is_at (nat_cmp c) e.0) x e es (length_set c x es)

  length_changed_by : (f : X → X) (c : ℕ) (o : Option X) (es : List (ℕ × X)) → length (changed_by o f c es) ≡ length es
  length_changed_by f c None es = refl
  length_changed_by f c (Some x) es = length_set c (f x) es

  pub length_changed : (f : X → X) (c : ℕ) (es : List (ℕ × X)) → length (changed f c es) ≡ length es
  length_changed f c es = length_changed_by f c (live_at c es) es

-- ---- the matching numbers

module _ {B : Type 0} where
  -- What the registration of a callback says, where there is one.
  abbrev told : Option (Live B) → Option Registration
  told o = option_map (λ (k : Live B). k.registration) o

  -- by whether the first has the reason and the object, and whether it is the one asked for
  member_head : (reason : Reason) (object : Option Object) (c least : ℕ) (has here : Bool) (e : ℕ × Live B) (es : List (ℕ × Live B)) (next : ℕ)
      → has_reason reason object e ≡ has → nat_eq c e.0 ≡ here → Rise least (e ∷ es) next
      → list_any (nat_eq c) (numbers_of reason object es) ≡ is_some_for reason object (told (live_at c es))
      → list_any (nat_eq c) (map (λ (f : ℕ × Live B). f.0) (cond has (e ∷ filter (has_reason reason object) es) (filter (has_reason reason object) es)))
      ≡ is_some_for reason object (told (cond here (Some e.1) (live_at c es)))
  member_head reason object c least true true e es next has here h rest = rw (here, has) refl
  member_head reason object c least true false e es next has here h rest = rw here rest
  member_head reason object c least false true e es next has here h rest =
      let same : c ≡ e.0 = eqb-true c e.0 here in
      rest ∙ ap (λ (o : Option (Live B)). is_some_for reason object (told o)) (live_below c (e.0 + 1) es next (omega arith) h.1) ∙ sym has
  member_head reason object c least false false e es next has here h rest = rest

  pub member : (reason : Reason) (object : Option Object) (c least : ℕ) (es : List (ℕ × Live B)) (next : ℕ) → Rise least es next
      → list_any (nat_eq c) (numbers_of reason object es) ≡ is_some_for reason object (told (live_at c es))
  member reason object c least [] next h = refl
  member reason object c least (e ∷ es) next h =
      rw (at_eq c e.0) (member_head reason object c least (has_reason reason object e) (nat_eq c e.0) e es next refl refl h (member reason object c (e.0 + 1) es next h.1))

  some_head : (reason : Reason) (object : Option Object) (has : Bool) (e : ℕ × Live B) (es : List (ℕ × Live B))
      → any_of reason object es ≡ is_some (slice_get (numbers_of reason object es) 0)
      → (has || any_of reason object es)
      ≡ is_some (slice_get (map (λ (f : ℕ × Live B). f.0) (cond has (e ∷ filter (has_reason reason object) es) (filter (has_reason reason object) es))) 0)
  some_head reason object true e es rest = refl
  some_head reason object false e es rest = rest

  pub some : (reason : Reason) (object : Option Object) (es : List (ℕ × Live B)) → any_of reason object es ≡ is_some (slice_get (numbers_of reason object es) 0)
  some reason object [] = refl
  some reason object (e ∷ es) = some_head reason object (has_reason reason object e) e es (some reason object es)

  -- No more match than there are.
  few_by : (b : Bool) (e : ℕ × Live B) (es rest : List (ℕ × Live B)) → length rest ≤ length es
      → length (cond b (e ∷ rest) rest) ≤ length (e ∷ es)
  few_by true e es rest few = omega arith
  few_by false e es rest few = omega arith

  few_passing : (reason : Reason) (object : Option Object) (es : List (ℕ × Live B)) → length (filter (has_reason reason object) es) ≤ length es
  few_passing reason object [] = omega arith
  few_passing reason object (e ∷ es) =
      few_by (has_reason reason object e) e es (filter (has_reason reason object) es) (few_passing reason object es)

  pub few_matching : (reason : Reason) (object : Option Object) (es : List (ℕ × Live B)) → length (numbers_of reason object es) ≤ length es
  few_matching reason object es =
      let same : length (numbers_of reason object es) ≡ length (filter (has_reason reason object) es) = length-map (filter (has_reason reason object) es) (λ (e : ℕ × Live B). e.0) in
      let few = few_passing reason object es in omega arith

  -- They rise.
  rising_by : (b : Bool) (low : ℕ) (e : ℕ × Live B) (rest : List (ℕ × Live B)) → low ≤ e.0
      → IsRising (e.0 + 1) (map (λ (x : ℕ × Live B). x.0) rest) → IsRising low (map (λ (x : ℕ × Live B). x.0) (cond b (e ∷ rest) rest))
  rising_by true low e rest above rising = (above, rising)
  rising_by false low e rest above rising = from_lower (e.0 + 1) low (map (λ (x : ℕ × Live B). x.0) rest) (omega arith) rising

  pub rising_matching : (reason : Reason) (object : Option Object) (low next : ℕ) (es : List (ℕ × Live B)) → Rise low es next
      → IsRising low (numbers_of reason object es)
  rising_matching reason object low next [] rise = tt
  rising_matching reason object low next (e ∷ es) rise =
      rising_by (has_reason reason object e) low e (filter (has_reason reason object) es) rise.0
      (rising_matching reason object (e.0 + 1) next es rise.1)

  pub rising_all : (reason : Reason) (object : Option Object) (next : ℕ) (es : List (ℕ × Live B)) → Rise 1 es next
      → IsRising 0 (numbers_of reason object es)
  rising_all reason object next es rise =
      from_lower 1 0 (numbers_of reason object es) (omega arith) (rising_matching reason object 1 next es rise)

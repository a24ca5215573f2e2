-- Lemmas on `specs/Laws.antt`: what is found first in a rising list stands in front of what is found later.
use Rattle.std.proofs.Common.{◌≡◌, ◌∙◌, ℕ, Bool, true, false, ◌&&◌, ◌||◌, cond, List, [], ◌∷◌, filter, Option, Some, None, refl, sym, ap, subst, arith}
use Rattle.std.proofs.lemmas.Bool.{eq-eqb, ne_eqb, ltb-true}
use Rattle.std.proofs.lemmas.Cmp.{nat_cmp_total, eq_by_cmp_equiv, then_total, on_total, back_total}
use Rattle.std.proofs.lemmas.List.Kept.{IsStrictlySortedBy-filter}
use Rattle.std.proofs.lemmas.Map.{lookup-remove_entry}
use Rattle.std.proofs.lemmas.Map.Keys.{IsDistinct-from_sorted}
use Rattle.std.proofs.lemmas.Map.Lookups.{btree_set_from_contains, exact_unsigned}
use Rattle.std.proofs.lemmas.Map.Made.{is_some-lookup}
use Rattle.std.proofs.lemmas.Map.Views.{tells_apart}
use Rattle.std.specs.BTreeMap.{is_at}
use Rattle.std.specs.BTreeSet.{contains, insert_key}
use Rattle.std.specs.Cmp.{IsTotalOrder, bool_cmp_total}
use Rattle.std.specs.List.{find, fold, list_any, AllByRecursion}
use Rattle.std.specs.List.Sorted.{IsStrictlySortedBy}
use Rattle.std.specs.Map.{keys_of, lookup, remove_entry}
use Rattle.std.specs.Option.{is_some}
use Rattle.std.specs.Ordering.{nat_cmp, is_lt, is_eq, ordering_reverse, match_ordering}
use Rattle.std.specs.declared.cmp.Ordering.{Ordering}
use Rattle.std.specs.declared.cmp.Ordering.TheVariants.{Less, Equal, Greater}
use Rattle.vh_design_code.specs.declared.change.Change.{Change}
use Rattle.vh_sense.specs.declared.follow.Follow.{Follow}
use Rattle.vh_sense.specs.Waits.{is_met_at}
use Rattle.vh_sense.specs.Reads.{reads}
use Rattle.vh_sense.specs.Follows.{follow_cmp, statements, followers, is_behind, first_behind}
use Rattle.vh_sense.specs.Sensitivity.{Sensitivity, wait_of, wakes, woken, is_above, without_wait}
use Rattle.vh_sense.specs.Laws.{IsRising, woken_above, those_behind, WasMet, WakesWhoIsMet, LeavesWhoIsNotMet, LeavesOthers, WakesInTurn, WakesToTheEnd, FollowsInTurn, FollowsToTheEnd}
use Rattle.vh_sense.proofs.ViewsLemmas.{at_is}
use Rattle.vh_sense.proofs.SensitivityLemmas.{less_is, passes, set_of}

-- Does a key stand behind another, where there is another?
abbrev past : {K : Type 0} → (K → K → Ordering) → Option K → K → Bool
past R None k = true
past R (Some a) k = is_lt (R a k)

found_holds : {X : Type 0} (P : X → Type 0) (test : X → Bool) (xs : List X) (x : X) → AllByRecursion P xs → find test xs ≡ Some x → P x
found_holds P test [] x all h = cc
found_holds {X} P test (y ∷ ys) x all h = by_test (test y) (found_holds P test ys x all.1) h
  where
    by_test : (b : Bool) → (find test ys ≡ Some x → P x) → cond b (Some y) (find test ys) ≡ Some x → P x
    by_test true rest h = let same : y ≡ x = cc in let Q : X → Type 0 = P in subst Q same all.0
    by_test false rest h = rest h

-- What passes everywhere stays.
all_pass : {X : Type 0} (P : X → Type 0) (test : X → Bool) (xs : List X) → ((x : X) → P x → test x ≡ true) → AllByRecursion P xs → filter test xs ≡ xs
all_pass P test [] each all = refl
all_pass {X} P test (x ∷ xs) each all = rw (each x all.0) (ap (λ (t : List X). x ∷ t) (all_pass P test xs each all.1))

less_itself : {K : Type 0} {R : K → K → Ordering} (o : IsTotalOrder R) (k : K) → is_lt (R k k) ≡ false
less_itself {K} {R} o k = by_order (R k k) (o.antisymm k k)
  where
    by_order : (r : Ordering) → r ≡ ordering_reverse r → is_lt r ≡ false
    by_order Less e = cc
    by_order Equal e = refl
    by_order Greater e = refl

not_back : {K : Type 0} {R : K → K → Ordering} (o : IsTotalOrder R) (y x : K) → R y x ≡ Less → is_lt (R x y) ≡ false
not_back {K} {R} o y x h = rw (o.antisymm x y, h) refl

past_first : {K : Type 0} {R : K → K → Ordering} (o : IsTotalOrder R) (after : Option K) (y z : K) → past R after y ≡ true → R y z ≡ Less
    → past R after z ≡ true
past_first o None y z passed less = refl
past_first {K} {R} o (Some a) y z passed less = rw (o.trans a y z (is_less (R a y) passed) less) refl
  where
    is_less : (r : Ordering) → is_lt r ≡ true → r ≡ Less
    is_less Less h = refl
    is_less Equal h = cc
    is_less Greater h = cc

-- In a rising list what is found first stands in front of all that is behind it.
in_turn : {K : Type 0} {R : K → K → Ordering} (o : IsTotalOrder R) (xs : List K) (after : Option K) (x : K) → IsStrictlySortedBy R xs
    → find (past R after) xs ≡ Some x → filter (past R after) xs ≡ x ∷ filter (past R (Some x)) xs
unfolding IsStrictlySortedBy
in_turn o [] after x sorted h = cc
in_turn {K} {R} o (y ∷ ys) after x sorted h = by_test (past R after y) refl (in_turn o ys after x sorted.1) h
  where
    by_test : (b : Bool) → past R after y ≡ b
        → (find (past R after) ys ≡ Some x → filter (past R after) ys ≡ x ∷ filter (past R (Some x)) ys)
        → cond b (Some y) (find (past R after) ys) ≡ Some x
        → cond b (y ∷ filter (past R after) ys) (filter (past R after) ys) ≡ x ∷ filter (past R (Some x)) (y ∷ ys)
    by_test true is rest h =
        let same : y ≡ x = cc in
        ap (λ (t : List K). y ∷ t) (all_pass (λ z. R y z ≡ Less) (past R after) ys (λ z. past_first o after y z is) sorted.0)
        ∙ ap (λ (t : List K). y ∷ t) (sym (all_pass (λ z. R y z ≡ Less) (past R (Some y)) ys (λ z l. ap is_lt l) sorted.0))
        ∙ ap (λ (b : Bool). y ∷ cond b (y ∷ filter (past R (Some y)) ys) (filter (past R (Some y)) ys)) (sym (less_itself o y))
        ∙ ap (λ (z : K). z ∷ filter (past R (Some z)) (y ∷ ys)) same
    by_test false is rest h =
        rw (not_back o y x (found_holds (λ z. R y z ≡ Less) (past R after) ys x sorted.0 h)) (rest h)

-- Tests that answer alike.
filter_same : {X : Type 0} (f g : X → Bool) (xs : List X) → ((x : X) → f x ≡ g x) → filter f xs ≡ filter g xs
filter_same f g [] same = refl
filter_same {X} f g (x ∷ xs) same =
    rw (same x) (ap (λ (t : List X). cond (g x) (x ∷ t) t) (filter_same f g xs same))

find_same : {X : Type 0} (f g : X → Bool) (xs : List X) → ((x : X) → f x ≡ g x) → find f xs ≡ find g xs
find_same f g [] same = refl
find_same {X} f g (x ∷ xs) same = rw (same x) (ap (λ (t : Option X). cond (g x) (Some x) t) (find_same f g xs same))

none_left : {X : Type 0} (test : X → Bool) (xs : List X) → find test xs ≡ None → filter test xs ≡ []
none_left test [] h = refl
none_left {X} test (x ∷ xs) h = by_test (test x) (none_left test xs) h
  where
    by_test : (b : Bool) → (find test xs ≡ None → filter test xs ≡ []) → cond b (Some x) (find test xs) ≡ None → cond b (x ∷ filter test xs) (filter test xs) ≡ []
    by_test true rest h = cc
    by_test false rest h = rest h

all_filtered : {X : Type 0} (test : X → Bool) (xs : List X) → AllByRecursion (λ x. test x ≡ true) (filter test xs)
all_filtered test [] = tt
all_filtered {X} test (x ∷ xs) = by_test (test x) refl (all_filtered test xs)
  where
    by_test : (b : Bool) → test x ≡ b → AllByRecursion (λ y. test y ≡ true) (filter test xs)
        → AllByRecursion (λ y. test y ≡ true) (cond b (x ∷ filter test xs) (filter test xs))
    by_test true is rest = (is, rest)
    by_test false is rest = rest

not_found : (test : ℕ → Bool) (xs : List ℕ) (q : ℕ) → find test xs ≡ None → list_any (is_at (nat_cmp q)) xs ≡ true → test q ≡ false
not_found test [] q h there = cc
not_found test (x ∷ xs) q h there = by_test (test x) refl (is_at (nat_cmp q) x) refl (not_found test xs q) h there
  where
    by_test : (b : Bool) → test x ≡ b → (a : Bool) → is_at (nat_cmp q) x ≡ a
        → (find test xs ≡ None → list_any (is_at (nat_cmp q)) xs ≡ true → test q ≡ false)
        → cond b (Some x) (find test xs) ≡ None → (a || list_any (is_at (nat_cmp q)) xs) ≡ true → test q ≡ false
    by_test true is a at rest h there = cc
    by_test false is true at rest h there = ap test (tells_apart exact_unsigned q x at) ∙ is
    by_test false is false at rest h there = rest h there

-- The waits of others, and one's own, after a process waits for nothing.
left_by : (es : List (ℕ × ℕ)) (p q : ℕ) → IsStrictlySortedBy nat_cmp (keys_of es)
    → lookup (is_at (nat_cmp q)) (remove_entry (is_at (nat_cmp p)) es) ≡ cond (is_at (nat_cmp p) q) None (lookup (is_at (nat_cmp q)) es)
left_by es p q sorted =
    lookup-remove_entry (eq_by_cmp_equiv nat_cmp_total) (is_at (nat_cmp p))
    (λ x y e. ap (λ (n : ℕ). is_eq (nat_cmp n y)) (tells_apart exact_unsigned p x e)) q es (IsDistinct-from_sorted nat_cmp (keys_of es) sorted)

pub leaves_others : LeavesOthers
leaves_others s p q sorted apart =
    left_by s.waiting p q sorted
    ∙ ap (λ (b : Bool). cond b None (lookup (is_at (nat_cmp q)) s.waiting)) (at_is p q ∙ ne_eqb p q apart)

itself_gone : (s : Sensitivity) (p : ℕ) → IsRising s → wait_of p (without_wait p s) ≡ None
itself_gone s p sorted =
    left_by s.waiting p p sorted
    ∙ ap (λ (b : Bool). cond b None (lookup (is_at (nat_cmp p)) s.waiting)) (at_is p p ∙ eq-eqb p p refl)

-- Who was woken waited.
was_met : (s : Sensitivity) (c : Change) (p : ℕ) (number : Option ℕ) → wait_of p s ≡ number → is_met_at s.waits number c ≡ true
    → wait_of p (without_wait p s) ≡ None → WasMet p c s
was_met s c p None is met gone = absurd (let h : false ≡ true = met in cc)
was_met s c p (Some number) is met gone = record { number = number; waited = is; met = met; gone = gone }

pub wakes_who_is_met : WakesWhoIsMet
wakes_who_is_met s c after p sorted found =
    was_met s c p (wait_of p s) refl
    (found_holds (λ q. wakes s c q ≡ true) (is_above after) (woken s c) p (all_filtered (wakes s c) (keys_of s.waiting)) found)
    (itself_gone s p sorted)

pub leaves_who_is_not_met : LeavesWhoIsNotMet
leaves_who_is_not_met s c after p number found above waited = by_test (is_met_at s.waits (Some number) c) refl
  where
    by_test : (b : Bool) → is_met_at s.waits (Some number) c ≡ b → is_met_at s.waits (Some number) c ≡ false
    by_test false is = is
    by_test true is =
        let awake : wakes s c p ≡ true = ap (λ (l : Option ℕ). is_met_at s.waits l c) waited ∙ is in
        let waits : list_any (is_at (nat_cmp p)) (keys_of s.waiting) ≡ true = sym (is_some-lookup (is_at (nat_cmp p)) s.waiting) ∙ ap is_some waited in
        let there : list_any (is_at (nat_cmp p)) (woken s c) ≡ true = passes (wakes s c) p (keys_of s.waiting) ∙ rw (waits, awake) refl in
        let below = not_found (is_above after) (woken s c) p found there in cc

-- The processes above the woken one are those of the waits that are left.
sorted_left : (test : ℕ → Bool) (es : List (ℕ × ℕ)) → IsStrictlySortedBy nat_cmp (keys_of es) → IsStrictlySortedBy nat_cmp (keys_of (remove_entry test es))
unfolding IsStrictlySortedBy
sorted_left test [] sorted = sorted
sorted_left test (e ∷ es) sorted = by_test (test e.0) (sorted_left test es sorted.1)
  where
    all_left : (P : ℕ → Type 0) (fs : List (ℕ × ℕ)) → AllByRecursion P (keys_of fs) → AllByRecursion P (keys_of (remove_entry test fs))
    all_left P [] all = tt
    all_left P (f ∷ fs) all = by_first (test f.0) (all_left P fs all.1)
      where
        by_first : (b : Bool) → AllByRecursion P (keys_of (remove_entry test fs)) → AllByRecursion P (keys_of (cond b fs (f ∷ remove_entry test fs)))
        by_first true rest = all.1
        by_first false rest = (all.0, rest)

    by_test : (b : Bool) → IsStrictlySortedBy nat_cmp (keys_of (remove_entry test es)) → IsStrictlySortedBy nat_cmp (keys_of (cond b es (e ∷ remove_entry test es)))
    by_test true rest = sorted.1
    by_test false rest = (all_left (λ k. nat_cmp e.0 k ≡ Less) es sorted.0, rest)

and_false : (b : Bool) → (b && false) ≡ false
and_false true = refl
and_false false = refl

same_above : (a x y v w : Bool) → (a ≡ true → x ≡ v) → (a ≡ true → y ≡ w) → ((x && y) && a) ≡ ((v && w) && a)
same_above true x y v w first second = rw (first refl, second refl) refl
same_above false x y v w first second = and_false (x && y) ∙ sym (and_false (v && w))

above_left : (s : Sensitivity) (c : Change) (p : ℕ) → IsRising s → woken_above (Some p) s c ≡ woken_above (Some p) (without_wait p s) c
above_left s c p sorted =
    let rest = without_wait p s in
    let kept : IsStrictlySortedBy nat_cmp (keys_of rest.waiting) = sorted_left (is_at (nat_cmp p)) s.waiting sorted in
    let others : (q : ℕ) → is_above (Some p) q ≡ true → wait_of q rest ≡ wait_of q s = λ q h.
    leaves_others s p q sorted (λ e. let below = ltb-true p q h in absurd (omega (arith, below, e))) in
    let same : (q : ℕ) → contains nat_cmp (set_of (woken_above (Some p) s c)) q ≡ contains nat_cmp (set_of (woken_above (Some p) rest c)) q = λ q.
    passes (is_above (Some p)) q (woken s c)
    ∙ ap (λ (b : Bool). b && is_above (Some p) q) (passes (wakes s c) q (keys_of s.waiting))
    ∙ same_above (is_above (Some p) q) (list_any (is_at (nat_cmp q)) (keys_of s.waiting)) (wakes s c q)
    (list_any (is_at (nat_cmp q)) (keys_of rest.waiting)) (wakes rest c q)
    (λ h. sym (is_some-lookup (is_at (nat_cmp q)) s.waiting) ∙ ap is_some (sym (others q h)) ∙ is_some-lookup (is_at (nat_cmp q)) rest.waiting)
    (λ h. ap (λ (l : Option ℕ). is_met_at s.waits l c) (sym (others q h)))
    ∙ ap (λ (b : Bool). b && is_above (Some p) q) (sym (passes (wakes rest c) q (keys_of rest.waiting)))
    ∙ sym (passes (is_above (Some p)) q (woken rest c)) in
    btree_set_from_contains nat_cmp_total (set_of (woken_above (Some p) s c)) (set_of (woken_above (Some p) rest c))
    (IsStrictlySortedBy-filter nat_cmp (is_above (Some p)) (woken s c) (IsStrictlySortedBy-filter nat_cmp (wakes s c) (keys_of s.waiting) sorted))
    (IsStrictlySortedBy-filter nat_cmp (is_above (Some p)) (woken rest c) (IsStrictlySortedBy-filter nat_cmp (wakes rest c) (keys_of rest.waiting) kept))
    same exact_unsigned

above_past : (after : Option ℕ) (q : ℕ) → is_above after q ≡ past nat_cmp after q
above_past None q = refl
above_past (Some a) q = sym (less_is a q)

pub wakes_in_turn : WakesInTurn
wakes_in_turn s c after p sorted found =
    filter_same (is_above after) (past nat_cmp after) (woken s c) (above_past after)
    ∙ in_turn nat_cmp_total (woken s c) after p (IsStrictlySortedBy-filter nat_cmp (wakes s c) (keys_of s.waiting) sorted)
    (sym (find_same (is_above after) (past nat_cmp after) (woken s c) (above_past after)) ∙ found)
    ∙ ap (λ (t : List ℕ). p ∷ t) (filter_same (past nat_cmp (Some p)) (is_above (Some p)) (woken s c) (λ q. sym (above_past (Some p) q)) ∙ above_left s c p sorted)

pub wakes_to_the_end : WakesToTheEnd
wakes_to_the_end s c after found = none_left (is_above after) (woken s c) found

-- The statements that follow stand in their order.
follow_total : IsTotalOrder follow_cmp
follow_total =
    then_total (on_total (λ (f : Follow). f.object) nat_cmp_total)
    (then_total (back_total (on_total (λ (f : Follow). f.force) bool_cmp_total)) (on_total (λ (f : Follow). f.expr) nat_cmp_total))

all_inserted : {K : Type 0} (R : K → K → Ordering) (P : K → Type 0) (xs : List K) (k : K) → AllByRecursion P xs → P k → AllByRecursion P (insert_key R xs k)
all_inserted R P [] k all here = (here, tt)
all_inserted {K} R P (x ∷ xs) k all here = by_order (R k x) (all_inserted R P xs k all.1 here)
  where
    by_order : (r : Ordering) → AllByRecursion P (insert_key R xs k) → AllByRecursion P (match_ordering r (k ∷ x ∷ xs) (x ∷ xs) (x ∷ insert_key R xs k))
    by_order Less rest = (here, all)
    by_order Equal rest = all
    by_order Greater rest = (all.0, rest)

all_weaker : {X : Type 0} (P Q : X → Type 0) (xs : List X) → ((x : X) → P x → Q x) → AllByRecursion P xs → AllByRecursion Q xs
all_weaker P Q [] f all = tt
all_weaker P Q (x ∷ xs) f all = (f x all.0, all_weaker P Q xs f all.1)

sorted_inserted : {K : Type 0} {R : K → K → Ordering} (o : IsTotalOrder R) (xs : List K) (k : K) → IsStrictlySortedBy R xs → IsStrictlySortedBy R (insert_key R xs k)
unfolding IsStrictlySortedBy
sorted_inserted o [] k sorted = (tt, tt)
sorted_inserted {K} {R} o (x ∷ xs) k sorted = by_order (R k x) refl (sorted_inserted o xs k sorted.1)
  where
    by_order : (r : Ordering) → R k x ≡ r → IsStrictlySortedBy R (insert_key R xs k)
        → IsStrictlySortedBy R (match_ordering r (k ∷ x ∷ xs) (x ∷ xs) (x ∷ insert_key R xs k))
    by_order Less is rest =
        ((is, all_weaker (λ y. R x y ≡ Less) (λ y. R k y ≡ Less) xs (λ y less. o.trans k x y is less) sorted.0), sorted)
    by_order Equal is rest = sorted
    by_order Greater is rest =
        (all_inserted R (λ y. R x y ≡ Less) xs k sorted.0 (o.antisymm x k ∙ ap ordering_reverse is), rest)

sorted_rising : (fs before : List Follow) → IsStrictlySortedBy follow_cmp before → IsStrictlySortedBy follow_cmp (fold (insert_key follow_cmp) before fs)
sorted_rising [] before sorted = sorted
sorted_rising (f ∷ fs) before sorted = sorted_rising fs (insert_key follow_cmp before f) (sorted_inserted follow_total before f sorted)

no_statements : IsStrictlySortedBy follow_cmp []
unfolding IsStrictlySortedBy
no_statements = tt

behind_past : (after : Option Follow) (f : Follow) → is_behind after f ≡ past follow_cmp after f
behind_past None f = refl
behind_past (Some a) f = refl

pub behind_in_turn : (fs : List Follow) (after : Option Follow) (f : Follow) → IsStrictlySortedBy follow_cmp fs → first_behind after fs ≡ Some f
    → those_behind after fs ≡ f ∷ those_behind (Some f) fs
behind_in_turn fs after f sorted found =
    filter_same (is_behind after) (past follow_cmp after) fs (behind_past after)
    ∙ in_turn follow_total fs after f sorted (sym (find_same (is_behind after) (past follow_cmp after) fs (behind_past after)) ∙ found)
    ∙ ap (λ (t : List Follow). f ∷ t) (filter_same (past follow_cmp (Some f)) (is_behind (Some f)) fs (λ g. sym (behind_past (Some f) g)))

pub behind_to_the_end : (fs : List Follow) (after : Option Follow) → first_behind after fs ≡ None → those_behind after fs ≡ []
behind_to_the_end fs after found = none_left (is_behind after) fs found

pub follows_in_turn : FollowsInTurn
follows_in_turn d o after f found =
    behind_in_turn (followers d o) after f (sorted_rising (filter (λ (g : Follow). reads d.exprs o g.expr) (statements d)) [] no_statements) found

pub follows_to_the_end : FollowsToTheEnd
follows_to_the_end d o after found = behind_to_the_end (followers d o) after found

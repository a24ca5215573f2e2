-- Lemmas on `specs/Sensitivity.antt`: the least process that is found among those that wait on the object is the least of all.
use Rattle.std.proofs.Common.{◌≡◌, ◌∙◌, ◌≤◌, ◌<◌, ℕ, Bool, true, false, ◌&&◌, ◌||◌, ◌==◌, cond, nat_lt, List, [], ◌∷◌, map, filter, length, slice_index_or, Option, Some, None, slice_get, refl, sym, ap, subst, arith}
use Rattle.std.proofs.lemmas.Cmp.{nat_cmp_total, eq_by_cmp_equiv}
use Rattle.std.proofs.lemmas.List.Kept.{IsStrictlySortedBy-filter}
use Rattle.std.proofs.lemmas.Map.Lookups.{btree_set_from_contains, exact_unsigned}
use Rattle.std.proofs.lemmas.Map.Made.{is_some-lookup, is_member-filter}
use Rattle.std.proofs.lemmas.Map.Views.{tells_apart}
use Rattle.std.proofs.lemmas.Option.{slice_get_past, slice_get-get_or}
use Rattle.std.specs.BTreeMap.{is_at, insert_entry}
use Rattle.std.specs.BTreeMap.Range.{range_contains}
use Rattle.std.specs.BTreeSet.{BTreeSet, contains, keys_between}
use Rattle.std.specs.List.{find, list_any}
use Rattle.std.specs.List.Sorted.{IsStrictlySortedBy}
use Rattle.std.specs.Map.{keys_of, lookup, remove_entry}
use Rattle.std.specs.Option.{is_some, option_and_then}
use Rattle.std.specs.Ordering.{nat_cmp, is_lt}
use Rattle.std.specs.declared.cmp.Ordering.TheVariants.{Less, Equal, Greater}
use Rattle.std.specs.declared.ops.Bound.{Bound}
use Rattle.std.specs.declared.ops.Bound.TheVariants.{Unbounded}
use Rattle.vh_design_code.specs.declared.change.Change.{Change}
use Rattle.vh_design_code.specs.declared.wait.Term.{Term}
use Rattle.vh_design_code.specs.declared.wait.WaitInfo.{WaitInfo}
use Rattle.vh_sense.specs.Waits.{object_of, is_met_by, meets, met_by, is_met_at}
use Rattle.vh_sense.specs.declared.follow.Follow.{Follow}
use Rattle.vh_sense.specs.declared.follow.Key.{Key}
use Rattle.vh_sense.specs.contracts.follow.KeyOrd.TheImpl.{cmp-value}
use Rattle.vh_sense.specs.Follows.{follow_cmp, first_behind}
use Rattle.vh_sense.specs.Sensitivity.{Sensitivity, is_above, next_woken, with_wait, readers_of, next_follow}
use Rattle.vh_sense.specs.Views.{names, wait_names, names_at, is_in, watches, above, behind, Holds, follow_at, follows_in, set_at}
use Rattle.vh_sense.proofs.FollowsLemmas.{no_follow, a_follow, follows_sorted}
use Rattle.vh_sense.proofs.ViewsLemmas.{readers_are}

-- A change that meets a wait is of an object that the wait names.
terms_met : (c : Change) (ts : List Term) → list_any (meets c) ts ≡ true → names ts c.object.id ≡ true
terms_met c [] h = cc
terms_met c (t ∷ ts) h = by_test (object_of t == c.object.id) (is_met_by c t) (terms_met c ts) h
  where
    by_test : (a b : Bool) → (list_any (meets c) ts ≡ true → names ts c.object.id ≡ true) → ((a && b) || list_any (meets c) ts) ≡ true
        → (a || names ts c.object.id) ≡ true
    by_test true b rest h = refl
    by_test false b rest h = rest h

wait_met : (found : Option WaitInfo) (c : Change) → met_by found c ≡ true → wait_names found c.object.id ≡ true
wait_met None c h = cc
wait_met (Some w) c h = terms_met c w.terms h

pub met_names : (waits : List WaitInfo) (number : Option ℕ) (c : Change) → is_met_at waits number c ≡ true → names_at waits number c.object.id ≡ true
met_names waits number c h = wait_met (option_and_then (λ w. slice_get waits w) number) c h

pub met_waits : (waits : List WaitInfo) (number : Option ℕ) (c : Change) → is_met_at waits number c ≡ true → is_some number ≡ true
met_waits waits None c h = cc
met_waits waits (Some w) c h = refl

-- The first that passes a test.
find_first : {X : Type 0} (test : X → Bool) (xs : List X) → find test xs ≡ slice_get (filter test xs) 0
find_first test [] = refl
find_first {X} test (x ∷ xs) = by_test (find_first test xs) (test x)
  where
    by_test : find test xs ≡ slice_get (filter test xs) 0
        → (b : Bool) → cond b (Some x) (find test xs) ≡ slice_get (cond b (x ∷ filter test xs) (filter test xs)) 0
    by_test rest true = refl
    by_test rest false = rest

-- The processes above one.
pub less_is : (a q : ℕ) → is_lt (nat_cmp a q) ≡ nat_lt a q
less_is a q = by_test (nat_lt a q) (a == q)
  where
    by_test : (b e : Bool) → is_lt (cond b Less (cond e Equal Greater)) ≡ b
    by_test true e = refl
    by_test false true = refl
    by_test false false = refl

above_is : (after : Option ℕ) (q : ℕ) → range_contains nat_cmp (above after) Unbounded q ≡ is_above after q
above_is None q = refl
above_is (Some a) q = only_one (is_lt (nat_cmp a q)) ∙ less_is a q
  where
    only_one : (b : Bool) → (b && true) ≡ b
    only_one true = refl
    only_one false = refl

pub passes : (test : ℕ → Bool) (q : ℕ) (xs : List ℕ) → list_any (is_at (nat_cmp q)) (filter test xs) ≡ (list_any (is_at (nat_cmp q)) xs && test q)
passes test q xs =
    is_member-filter (eq_by_cmp_equiv nat_cmp_total) test q
    (λ x e. ap test (tells_apart exact_unsigned q x e)) xs

-- Of two rising lists of processes that have each process which passes, one gives what the other gives.
same_by : (n s a m : Bool) → (m ≡ true → n ≡ true) → (m ≡ true → s ≡ true) → ((n && a) && m) ≡ ((s && m) && a)
same_by n s a true some here = rw (some refl, here refl) (last a)
  where
    last : (a : Bool) → (a && true) ≡ a
    last true = refl
    last false = refl
same_by true true true false some here = refl
same_by true true false false some here = refl
same_by true false true false some here = refl
same_by true false false false some here = refl
same_by false true true false some here = refl
same_by false true false false some here = refl
same_by false false true false some here = refl
same_by false false false false some here = refl

abbrev pub set_of : List ℕ → BTreeSet ℕ
set_of ks = record { keys = ks }

pub least_woken : (waits : List WaitInfo) (sets : List (BTreeSet ℕ)) (es : List (ℕ × ℕ)) (ks : List ℕ) (c : Change) (after : Option ℕ)
    → Holds waits sets es → IsStrictlySortedBy nat_cmp ks
    → ((p : ℕ) → watches sets c.object.id p ≡ list_any (is_at (nat_cmp p)) ks)
    → find (λ (p : ℕ). is_met_at waits (lookup (is_at (nat_cmp p)) es) c) (filter (range_contains nat_cmp (above after) Unbounded) ks)
    ≡ find (is_above after) (filter (λ (p : ℕ). is_met_at waits (lookup (is_at (nat_cmp p)) es) c) (keys_of es))
least_woken waits sets es ks c after holds sorted there =
    let met = λ (p : ℕ). is_met_at waits (lookup (is_at (nat_cmp p)) es) c in
    let range = λ (p : ℕ). range_contains nat_cmp (above after) Unbounded p in
    let left = filter met (filter range ks) in
    let right = filter (is_above after) (filter met (keys_of es)) in
    let same : (q : ℕ) → contains nat_cmp (set_of left) q ≡ contains nat_cmp (set_of right) q = λ q.
    passes met q (filter range ks) ∙ ap (λ (b : Bool). b && met q) (passes range q ks)
    ∙ ap (λ (b : Bool). (list_any (is_at (nat_cmp q)) ks && b) && met q) (above_is after q)
    ∙ same_by (list_any (is_at (nat_cmp q)) ks) (list_any (is_at (nat_cmp q)) (keys_of es)) (is_above after q) (met q)
    (λ h. sym (there q) ∙ holds.watched c.object.id q ∙ met_names waits (lookup (is_at (nat_cmp q)) es) c h)
    (λ h. sym (is_some-lookup (is_at (nat_cmp q)) es) ∙ met_waits waits (lookup (is_at (nat_cmp q)) es) c h)
    ∙ ap (λ (b : Bool). b && is_above after q) (sym (passes met q (keys_of es)))
    ∙ sym (passes (is_above after) q (filter met (keys_of es))) in
    let both : left ≡ right = btree_set_from_contains nat_cmp_total (set_of left) (set_of right)
    (IsStrictlySortedBy-filter nat_cmp met (filter range ks) (IsStrictlySortedBy-filter nat_cmp range ks sorted))
    (IsStrictlySortedBy-filter nat_cmp (is_above after) (filter met (keys_of es)) (IsStrictlySortedBy-filter nat_cmp met (keys_of es) holds.sorted))
    same exact_unsigned in
    find_first met (filter range ks) ∙ ap (λ (t : List ℕ). slice_get t 0) both
    ∙ sym (find_first (is_above after) (filter met (keys_of es)))

-- Nobody waits on an object past all.
no_set : (sets : List (BTreeSet ℕ)) (o p : ℕ) → length sets ≤ o → watches sets o p ≡ list_any (is_at (nat_cmp p)) []
no_set sets o p past = rw (slice_get_past sets o past) refl

none_sorted : IsStrictlySortedBy nat_cmp []
unfolding IsStrictlySortedBy
none_sorted = tt

pub nobody_woken : (waits : List WaitInfo) (sets : List (BTreeSet ℕ)) (es : List (ℕ × ℕ)) (c : Change) (after : Option ℕ)
    → Holds waits sets es → length sets ≤ c.object.id
    → None ≡ find (is_above after) (filter (λ (p : ℕ). is_met_at waits (lookup (is_at (nat_cmp p)) es) c) (keys_of es))
nobody_woken waits sets es c after holds past =
    least_woken waits sets es [] c after holds none_sorted (λ p. no_set sets c.object.id p past)

-- What contracts see, from what is inside.
abbrev seen : List WaitInfo → List (List Follow) → List (ℕ × ℕ) → Sensitivity
seen waits readers es = record { waits = waits; readers = readers; waiting = es }

set_there : {K : Type 0} (sets given : List (BTreeSet K)) (o id : ℕ) (s : BTreeSet K) → given ≡ sets → s ≡ slice_index_or given o s → o < length given
    → o ≡ id → slice_get sets id ≡ Some s
set_there sets given o id s same is within at =
    rw (← same, ← at) (slice_get-get_or given o s within ∙ ap Some (sym is))

pub woken_there : (now : Sensitivity) (waits ws : List WaitInfo) (readers : List (List Follow)) (sets given : List (BTreeSet ℕ)) (es : List (ℕ × ℕ))
    (o : ℕ) (s : BTreeSet ℕ) (c : Change) (after : Option ℕ) (answer : Option ℕ) → seen waits readers es ≡ now → Holds waits sets es
    → ws ≡ waits → given ≡ sets → s ≡ slice_index_or given o s → o < length given → o ≡ c.object.id → IsStrictlySortedBy nat_cmp s.keys
    → answer ≡ find (λ (p : ℕ). is_met_at ws (lookup (is_at (nat_cmp p)) es) c) (keys_between nat_cmp (above after) Unbounded s)
    → answer ≡ next_woken now c after
woken_there now waits ws readers sets given es o s c after answer is holds same sames there within at sorted found =
    found
    ∙ ap (λ (l : List WaitInfo). find (λ (p : ℕ). is_met_at l (lookup (is_at (nat_cmp p)) es) c) (keys_between nat_cmp (above after) Unbounded s)) same
    ∙ least_woken waits sets es s.keys c after holds sorted
    (λ p. ap (λ (f : Option (BTreeSet ℕ)). is_in f p) (set_there sets given o c.object.id s sames there within at))
    ∙ ap (λ (n : Sensitivity). next_woken n c after) is

pub woken_past : (now : Sensitivity) (waits : List WaitInfo) (readers : List (List Follow)) (sets given : List (BTreeSet ℕ)) (es : List (ℕ × ℕ))
    (o : ℕ) (c : Change) (after : Option ℕ) → seen waits readers es ≡ now → Holds waits sets es → given ≡ sets → length given ≤ o → o ≡ c.object.id
    → None ≡ next_woken now c after
woken_past now waits readers sets given es o c after is holds same past at =
    let size : length given ≡ length sets = ap length same in
    nobody_woken waits sets es c after holds (omega (arith, size, past, at)) ∙ ap (λ (n : Sensitivity). next_woken n c after) is

readers_there : (now : Sensitivity) (waits : List WaitInfo) (sets given : List (BTreeSet Key)) (es : List (ℕ × ℕ)) (o id : ℕ) (s : BTreeSet Key)
    → seen waits (map follows_in sets) es ≡ now → given ≡ sets → s ≡ slice_index_or given o s → o < length given → o ≡ id
    → follows_in s ≡ readers_of id now
readers_there now waits sets given es o id s is same there within at =
    ap set_at (sym (set_there sets given o id s same there within at)) ∙ sym (readers_are sets id)
    ∙ ap (λ (n : Sensitivity). readers_of id n) is

pub follow_none : (now : Sensitivity) (waits : List WaitInfo) (sets given : List (BTreeSet Key)) (es : List (ℕ × ℕ)) (o : ℕ) (s : BTreeSet Key)
    (c : Change) (after : Option Follow) (from : Bound Key) (keys : List Key)
    → seen waits (map follows_in sets) es ≡ now → given ≡ sets → s ≡ slice_index_or given o s → o < length given → o ≡ c.object.id
    → from ≡ behind after → keys ≡ keys_between (cmp-value).it from Unbounded s → keys ≡ [] → None ≡ next_follow now c after
follow_none now waits sets given es o s c after from keys is same there within at bound between none =
    no_follow after s (ap (λ (b : Bound Key). keys_between (cmp-value).it b Unbounded s) (sym bound) ∙ sym between ∙ none)
    ∙ ap (λ (fs : List Follow). first_behind after fs) (readers_there now waits sets given es o c.object.id s is same there within at)

pub follow_some : (now : Sensitivity) (waits : List WaitInfo) (sets given : List (BTreeSet Key)) (es : List (ℕ × ℕ)) (o : ℕ) (s : BTreeSet Key)
    (c : Change) (after : Option Follow) (from : Bound Key) (keys : List Key) (k : Key) (rest : List Key)
    → seen waits (map follows_in sets) es ≡ now → given ≡ sets → s ≡ slice_index_or given o s → o < length given → o ≡ c.object.id
    → from ≡ behind after → keys ≡ keys_between (cmp-value).it from Unbounded s → keys ≡ k ∷ rest → Some (follow_at k) ≡ next_follow now c after
follow_some now waits sets given es o s c after from keys k rest is same there within at bound between some =
    a_follow after s k rest (ap (λ (b : Bound Key). keys_between (cmp-value).it b Unbounded s) (sym bound) ∙ sym between ∙ some)
    ∙ ap (λ (fs : List Follow). first_behind after fs) (readers_there now waits sets given es o c.object.id s is same there within at)

pub follow_sorted : (now : Sensitivity) (waits : List WaitInfo) (sets given : List (BTreeSet Key)) (es : List (ℕ × ℕ)) (o id : ℕ) (s : BTreeSet Key)
    → seen waits (map follows_in sets) es ≡ now → given ≡ sets → s ≡ slice_index_or given o s → o < length given → o ≡ id
    → IsStrictlySortedBy (cmp-value).it s.keys → IsStrictlySortedBy follow_cmp (readers_of id now)
follow_sorted now waits sets given es o id s is same there within at sorted =
    subst (IsStrictlySortedBy follow_cmp) (readers_there now waits sets given es o id s is same there within at) (follows_sorted s.keys sorted)

pub none_follow_there : (now : Sensitivity) (waits : List WaitInfo) (sets given : List (BTreeSet Key)) (es : List (ℕ × ℕ)) (o id : ℕ)
    → seen waits (map follows_in sets) es ≡ now → given ≡ sets → length given ≤ o → o ≡ id → readers_of id now ≡ []
none_follow_there now waits sets given es o id is same past at =
    let size : length given ≡ length sets = ap length same in
    sym (ap (λ (n : Sensitivity). readers_of id n) is) ∙ readers_are sets id
    ∙ ap set_at (slice_get_past sets id (omega (arith, size, past, at)))

pub wait_is : (now : Sensitivity) (waits : List WaitInfo) (readers : List (List Follow)) (es without after_that : List (ℕ × ℕ)) (p q w v : ℕ)
    → seen waits readers es ≡ now → without ≡ remove_entry (is_at (nat_cmp q)) es → after_that ≡ insert_entry nat_cmp without q v → q ≡ p → v ≡ w
    → seen waits readers after_that ≡ with_wait p w now
wait_is now waits readers es without after_that p q w v is gone put same number =
    rw (← is, put, gone, same, number) refl

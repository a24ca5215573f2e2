-- Lemmas on `specs/Ranked.antt`: what an index tells of the entries that it is of.
use Rattle.std.proofs.Common.{◌≡◌, ◌∙◌, ℕ, ◌+◌, ◌<◌, List, [], ◌∷◌, ◌++◌, map, filter, Bool, true, false, not, ◌&&◌, ◌||◌, ◌==◌, cond, nat_lt, nat_le, Some, refl, sym, ap, arith}
use Rattle.std.proofs.lemmas.Bool.{and_parts, eqb-true, ne_eqb}
use Rattle.std.proofs.lemmas.Bool.Decides.{nat_tests}
use Rattle.std.proofs.lemmas.Cmp.{nat_cmp_total}
use Rattle.std.proofs.lemmas.List.Folds.{list_any-append}
use Rattle.std.proofs.lemmas.List.Kept.{IsStrictlySortedBy-filter}
use Rattle.std.proofs.lemmas.Map.Lookups.{btree_set_from_contains, exact_unsigned}
use Rattle.std.specs.BTreeMap.{is_at as is_key}
use Rattle.std.specs.BTreeMap.Range.{range_contains}
use Rattle.std.specs.BTreeSet.{BTreeSet, contains}
use Rattle.std.specs.List.{list_any, find, AllByRecursion}
use Rattle.std.specs.List.Sorted.{IsStrictlySortedBy}
use Rattle.std.specs.Ordering.{nat_cmp, ordering_then, is_le, is_eq}
use Rattle.std.specs.declared.cmp.Ordering.{Ordering}
use Rattle.std.specs.declared.cmp.Ordering.TheVariants.{Less, Equal, Greater}
use Rattle.std.specs.declared.ops.Bound.TheVariants.{Included, Excluded, Unbounded}
use Rattle.vh_queue.specs.declared.entry.Entry.{Entry}
use Rattle.vh_queue.specs.declared.index.Index.{Index}
use Rattle.vh_queue.specs.declared.key.Key.{Key}
use Rattle.vh_queue.specs.contracts.key.KeyOrd.TheImpl.{cmp-value}
use Rattle.vh_queue.specs.Entries.{rank, is_at}
use Rattle.vh_queue.specs.Events.{Rises}
use Rattle.vh_queue.proofs.EventsLemmas.{rises-filter}
use Rattle.vh_queue.specs.Ranked.{is_of, is_ranked, is_untimed, waits, key, serials_of, dated_in, AreRanked, AreUntimed, Indexes, Entered, Left, StaysSorted, IsSame}

abbrev key_cmp : Key → Key → Ordering
key_cmp = (cmp-value).it

-- A comparison of numbers, as tests.
equal-is : (a b : ℕ) → is_eq (nat_cmp a b) ≡ (a == b)
equal-is a b = grind (arith, nat_tests)

from-is : (a b : ℕ) → is_le (nat_cmp a b) ≡ nat_le a b
from-is a b = grind (arith, nat_tests)

-- Between two ranked that differ in the last part alone, those stand that share the others.
between-then : (o p q : Ordering) → (is_le (ordering_then o p) && not (is_le (ordering_then o q))) ≡ (is_eq o && (is_le p && not (is_le q)))
between-then Less p q = refl
between-then Equal p q = refl
between-then Greater p q = refl

equal-then : (o p : Ordering) → is_eq (ordering_then o p) ≡ (is_eq o && is_eq p)
equal-then Less p = refl
equal-then Equal p = refl
equal-then Greater p = refl

between-ranked : (time r from below : ℕ) (p : Key)
    → range_contains key_cmp (Included (key time r from)) (Excluded (key time r below)) p
    ≡ ((time == p.time) && ((r == p.rank) && (nat_le from p.serial && not (nat_le below p.serial))))
between-ranked time r from below p =
    between-then (nat_cmp time p.time) _ _
    ∙ ap (λ (b : Bool). is_eq (nat_cmp time p.time) && b) (between-then (nat_cmp r p.rank) (nat_cmp from p.serial) (nat_cmp below p.serial))
    ∙ rw (equal-is time p.time, equal-is r p.rank, from-is from p.serial, from-is below p.serial) refl

same-key : (p q : Key) → is_key (key_cmp p) q ≡ ((p.time == q.time) && ((p.rank == q.rank) && (p.serial == q.serial)))
same-key p q =
    equal-then (nat_cmp p.time q.time) _
    ∙ ap (λ (b : Bool). is_eq (nat_cmp p.time q.time) && b) (equal-then (nat_cmp p.rank q.rank) (nat_cmp p.serial q.serial))
    ∙ rw (equal-is p.time q.time, equal-is p.rank q.rank, equal-is p.serial q.serial) refl

-- Tests that agree find alike.
pub any-same : {X : Type 0} (f g : X → Bool) (xs : List X) → ((x : X) → f x ≡ g x) → list_any f xs ≡ list_any g xs
any-same f g [] same = refl
any-same f g (x ∷ xs) same = rw (same x, any-same f g xs same) refl

pub any-map : {X Y : Type 0} (f : X → Y) (test : Y → Bool) (xs : List X) → list_any test (map f xs) ≡ list_any (λ x. test (f x)) xs
any-map f test [] = refl
any-map f test (x ∷ xs) = ap (λ (b : Bool). test (f x) || b) (any-map f test xs)

pub any-filter : {X : Type 0} (keep test : X → Bool) (xs : List X) → list_any test (filter keep xs) ≡ list_any (λ x. keep x && test x) xs
any-filter keep test [] = refl
any-filter keep test (x ∷ xs) = filtered (keep x) (any-filter keep test xs)
  where
    filtered : (b : Bool) → list_any test (filter keep xs) ≡ list_any (λ x. keep x && test x) xs
        → list_any test (cond b (x ∷ filter keep xs) (filter keep xs)) ≡ ((b && test x) || list_any (λ x. keep x && test x) xs)
    filtered true rest = ap (λ (b : Bool). test x || b) rest
    filtered false rest = rest

-- A test that doesn't look at what is gone over.
pub any-fixed : {X : Type 0} (c : Bool) (test : X → Bool) (xs : List X) → list_any (λ x. test x && c) xs ≡ (list_any test xs && c)
any-fixed c test [] = refl
any-fixed c test (x ∷ xs) = rw (any-fixed c test xs) (apart (test x) (list_any test xs) c)
  where
    apart : (a b c : Bool) → ((a && c) || (b && c)) ≡ ((a || b) && c)
    apart true b true = refl
    apart true true false = refl
    apart true false false = refl
    apart false b c = refl

-- The serials of a time and region, in their order, are those of the entries that wait there.
lane-sorted : (time r : ℕ) (ps : List Key) → IsStrictlySortedBy key_cmp ps
    → AllByRecursion (λ (p : Key). ((p.time ≡ time) × (p.rank ≡ r))) ps
    → IsStrictlySortedBy nat_cmp (map (λ (p : Key). p.serial) ps)
unfolding IsStrictlySortedBy
lane-sorted time r [] sorted at = tt
lane-sorted time r (p ∷ ps) sorted at = (above ps sorted.0 at.1, lane-sorted time r ps sorted.1 at.1)
  where
    one : (q : Key) → q.time ≡ time → q.rank ≡ r → key_cmp p q ≡ Less → nat_cmp p.serial q.serial ≡ Less
    one q there here less = grind (arith, nat_tests)

    above : (qs : List Key) → AllByRecursion (λ y. key_cmp p y ≡ Less) qs
        → AllByRecursion (λ (q : Key). ((q.time ≡ time) × (q.rank ≡ r))) qs
        → AllByRecursion (λ y. nat_cmp p.serial y ≡ Less) (map (λ (q : Key). q.serial) qs)
    above [] less at = tt
    above (q ∷ qs) less at = (one q at.0.0 at.0.1 less.0, above qs less.1 at.1)

at-lane : (time r from below : ℕ) (p : Key)
    → range_contains key_cmp (Included (key time r from)) (Excluded (key time r below)) p ≡ true
    → (p.time ≡ time) × (p.rank ≡ r)
at-lane time r from below p within =
    let parts = and_parts (time == p.time) _ (sym (between-ranked time r from below p) ∙ within) in
    let rest = and_parts (r == p.rank) _ parts.1 in
    (sym (eqb-true time p.time parts.0), sym (eqb-true r p.rank rest.0))

all-kept : {X : Type 0} (keep : X → Bool) (P : X → Type 0) (xs : List X) → ((x : X) → keep x ≡ true → P x) → AllByRecursion P (filter keep xs)
all-kept keep P [] holds = tt
all-kept {X} keep P (x ∷ xs) holds = kept (keep x) refl (all-kept keep P xs holds)
  where
    kept : (b : Bool) → keep x ≡ b → AllByRecursion P (filter keep xs) → AllByRecursion P (cond b (x ∷ filter keep xs) (filter keep xs))
    kept true is rest = (holds x is, rest)
    kept false is rest = rest

rises-above-all : (k low high : ℕ) (es : List Entry) → k < low → Rises low high es
    → AllByRecursion (λ y. nat_cmp k y ≡ Less) (map (λ (e : Entry). e.serial) es)
rises-above-all k low high [] below rises = tt
rises-above-all k low high (e ∷ es) below rises = (
  (let h = rises.0 in grind (arith, nat_tests)),
  rises-above-all k (e.serial + 1) high es (let h = rises.0 in omega arith) rises.1,
)

pub rises-sorted : (low high : ℕ) (es : List Entry) → Rises low high es → IsStrictlySortedBy nat_cmp (map (λ (e : Entry). e.serial) es)
unfolding IsStrictlySortedBy
rises-sorted low high [] rises = tt
rises-sorted low high (e ∷ es) rises =
    (rises-above-all e.serial (e.serial + 1) high es (omega arith) rises.1, rises-sorted (e.serial + 1) high es rises.1)

-- Both tests at a serial.
in-lane : (a b x y e : Bool) → (e ≡ true → x ≡ y) → ((a && (b && x)) && e) ≡ ((a && (b && e)) && y)
in-lane true true x y true same = rw (same refl) (last y)
  where
    last : (y : Bool) → (y && true) ≡ y
    last true = refl
    last false = refl
in-lane true true true y false same = refl
in-lane true true false y false same = refl
in-lane true false x y e same = refl
in-lane false b x y e same = refl

of-entry : (u a x y e f : Bool) → e ≡ f → (e ≡ true → x ≡ y) → ((u && (a && e)) && y) ≡ ((u && (a && x)) && f)
of-entry true true x y true f is same = rw (← is, same refl) (last y)
  where
    last : (y : Bool) → y ≡ (y && true)
    last true = refl
    last false = refl
of-entry true true true y false f is same = is
of-entry true true false y false f is same = refl
of-entry true false x y e f is same = refl
of-entry false a x y e f is same = refl

abbrev set_of : List ℕ → BTreeSet ℕ
set_of ks = record { keys = ks }

pub lane-is : (update : Bool) (time r from below low high : ℕ) (es : List Entry) (ranked : BTreeSet Key)
    → Rises low high es → IsStrictlySortedBy key_cmp ranked.keys → AreRanked update es ranked
    → serials_of time r from below ranked ≡ map (λ (e : Entry). e.serial) (filter (λ (e : Entry). is_of update e && waits time r from below e) es)
lane-is update time r from below low high es ranked rises sorted are =
    btree_set_from_contains nat_cmp_total (set_of left) (set_of right)
    (lane-sorted time r (filter between ranked.keys) (IsStrictlySortedBy-filter key_cmp between ranked.keys sorted)
    (all-kept between _ ranked.keys (λ p within. at-lane time r from below p within)))
    (rises-sorted low high (filter here es) (rises-filter here low high es rises))
    same exact_unsigned
  where
    between : Key → Bool
    between p = range_contains key_cmp (Included (key time r from)) (Excluded (key time r below)) p

    here : Entry → Bool
    here e = is_of update e && waits time r from below e

    left : List ℕ
    left = map (λ (p : Key). p.serial) (filter between ranked.keys)

    right : List ℕ
    right = map (λ (e : Entry). e.serial) (filter here es)

    bounds : ℕ → Bool
    bounds s = nat_le from s && nat_lt s below

    by_key : (q : ℕ) (p : Key) → (between p && is_key (nat_cmp q) p.serial) ≡ (is_key (key_cmp (key time r q)) p && bounds q)
    by_key q p =
        ap (λ (b : Bool). b && is_eq (nat_cmp q p.serial)) (between-ranked time r from below p)
        ∙ ap (λ (b : Bool). ((time == p.time) && ((r == p.rank) && (nat_le from p.serial && not (nat_le below p.serial)))) && b) (equal-is q p.serial)
        ∙ in-lane (time == p.time) (r == p.rank) (nat_le from p.serial && not (nat_le below p.serial)) (bounds q) (q == p.serial)
        (λ one. let e : q ≡ p.serial = eqb-true q p.serial one in grind (arith, nat_tests))
        ∙ ap (λ (b : Bool). b && bounds q) (sym (same-key (key time r q) p))

    by_entry : (q : ℕ) (e : Entry)
        → ((is_of update e && is_ranked (key time r q) e) && bounds q) ≡ (here e && is_key (nat_cmp q) e.serial)
    by_entry q e =
        of-entry (is_of update e) (is_at e.time time && rank e.region == r) (nat_le from e.serial && nat_lt e.serial below) (bounds q)
        (e.serial == q) (is_key (nat_cmp q) e.serial) (grind (arith, nat_tests))
        (λ one. let s : e.serial ≡ q = eqb-true e.serial q one in rw s refl)

    same : (q : ℕ) → contains nat_cmp (set_of left) q ≡ contains nat_cmp (set_of right) q
    same q =
        any-map (λ (p : Key). p.serial) (is_key (nat_cmp q)) (filter between ranked.keys)
        ∙ any-filter between (λ (p : Key). is_key (nat_cmp q) p.serial) ranked.keys
        ∙ any-same _ (λ (p : Key). is_key (key_cmp (key time r q)) p && bounds q) ranked.keys (by_key q)
        ∙ any-fixed (bounds q) (is_key (key_cmp (key time r q))) ranked.keys
        ∙ ap (λ (b : Bool). b && bounds q) (are (key time r q))
        ∙ sym (any-fixed (bounds q) (λ (e : Entry). is_of update e && is_ranked (key time r q) e) es)
        ∙ any-same _ (λ (e : Entry). here e && is_key (nat_cmp q) e.serial) es (by_entry q)
        ∙ sym (any-filter here (λ (e : Entry). is_key (nat_cmp q) e.serial) es)
        ∙ sym (any-map (λ (e : Entry). e.serial) (is_key (nat_cmp q)) (filter here es))

-- The serials of those without a time.
dated-within : (below s : ℕ) → range_contains nat_cmp Unbounded (Excluded below) s ≡ nat_lt s below
dated-within below s = grind (arith, nat_tests)

in-dated : (x y e : Bool) → (e ≡ true → x ≡ y) → (x && e) ≡ (e && y)
in-dated x y true same = rw (same refl) (last y)
  where
    last : (y : Bool) → (y && true) ≡ y
    last true = refl
    last false = refl
in-dated true y false same = refl
in-dated false y false same = refl

of-dated : (u x y e f : Bool) → e ≡ f → (e ≡ true → x ≡ y) → ((u && e) && y) ≡ ((u && x) && f)
of-dated true x y true f is same = rw (← is, same refl) (last y)
  where
    last : (y : Bool) → y ≡ (y && true)
    last true = refl
    last false = refl
of-dated true true y false f is same = is
of-dated true false y false f is same = refl
of-dated false x y e f is same = refl

pub dated-is : (below low high : ℕ) (es : List Entry) (us : BTreeSet ℕ)
    → Rises low high es → IsStrictlySortedBy nat_cmp us.keys → AreUntimed es us
    → dated_in below us ≡ map (λ (e : Entry). e.serial) (filter (λ (e : Entry). is_untimed e && nat_lt e.serial below) es)
dated-is below low high es us rises sorted are =
    btree_set_from_contains nat_cmp_total (set_of left) (set_of right)
    (IsStrictlySortedBy-filter nat_cmp between us.keys sorted)
    (rises-sorted low high (filter here es) (rises-filter here low high es rises))
    same exact_unsigned
  where
    between : ℕ → Bool
    between s = range_contains nat_cmp Unbounded (Excluded below) s

    here : Entry → Bool
    here e = is_untimed e && nat_lt e.serial below

    left : List ℕ
    left = filter between us.keys

    right : List ℕ
    right = map (λ (e : Entry). e.serial) (filter here es)

    by_serial : (q s : ℕ) → (between s && is_key (nat_cmp q) s) ≡ (is_key (nat_cmp q) s && nat_lt q below)
    by_serial q s =
        ap (λ (b : Bool). b && is_key (nat_cmp q) s) (dated-within below s)
        ∙ in-dated (nat_lt s below) (nat_lt q below) (is_key (nat_cmp q) s)
        (λ one. let e : q ≡ s = eqb-true q s (sym (equal-is q s) ∙ one) in rw e refl)

    by_entry : (q : ℕ) (e : Entry) → ((is_untimed e && e.serial == q) && nat_lt q below) ≡ (here e && is_key (nat_cmp q) e.serial)
    by_entry q e =
        of-dated (is_untimed e) (nat_lt e.serial below) (nat_lt q below) (e.serial == q) (is_key (nat_cmp q) e.serial) (grind (arith, nat_tests))
        (λ one. let s : e.serial ≡ q = eqb-true e.serial q one in rw s refl)

    same : (q : ℕ) → contains nat_cmp (set_of left) q ≡ contains nat_cmp (set_of right) q
    same q =
        any-filter between (is_key (nat_cmp q)) us.keys
        ∙ any-same _ (λ (s : ℕ). is_key (nat_cmp q) s && nat_lt q below) us.keys (by_serial q)
        ∙ any-fixed (nat_lt q below) (is_key (nat_cmp q)) us.keys
        ∙ ap (λ (b : Bool). b && nat_lt q below) (are q)
        ∙ sym (any-fixed (nat_lt q below) (λ (e : Entry). is_untimed e && e.serial == q) es)
        ∙ any-same _ (λ (e : Entry). here e && is_key (nat_cmp q) e.serial) es (by_entry q)
        ∙ sym (any-filter here (λ (e : Entry). is_key (nat_cmp q) e.serial) es)
        ∙ sym (any-map (λ (e : Entry). e.serial) (is_key (nat_cmp q)) (filter here es))

-- An entry is told by its serial: what a test finds at a serial it finds of the entry there.
not-there : (test : Entry → Bool) (s low high : ℕ) (es : List Entry) → s < low → Rises low high es
    → list_any (λ e. test e && e.serial == s) es ≡ false
not-there test s low high [] below rises = refl
not-there test s low high (e ∷ es) below rises =
    let h = rises.0 in
    rw (ne_eqb e.serial s (λ same. omega (arith, h, below, same)), not-there test s (e.serial + 1) high es (omega (arith, h, below)) rises.1) (no-and (test e))
  where
    no-and : (b : Bool) → ((b && false) || false) ≡ false
    no-and true = refl
    no-and false = refl

pub one-found : (test : Entry → Bool) (s low high : ℕ) (es : List Entry) (x : Entry) → Rises low high es
    → find (λ e. e.serial == s) es ≡ Some x → list_any (λ e. test e && e.serial == s) es ≡ test x
one-found test s low high [] x rises is = absurd (cc)
one-found test s low high (e ∷ es) x rises is =
    by_test (e.serial == s) refl is (one-found test s (e.serial + 1) high es x rises.1)
  where
    here : (b : Bool) → ((b && true) || false) ≡ b
    here true = refl
    here false = refl

    past : (b : Bool) (c : Bool) → ((b && false) || c) ≡ c
    past true c = refl
    past false c = refl

    by_test : (b : Bool) → (e.serial == s) ≡ b → cond b (Some e) (find (λ e. e.serial == s) es) ≡ Some x
        → (find (λ e. e.serial == s) es ≡ Some x → list_any (λ e. test e && e.serial == s) es ≡ test x)
        → ((test e && e.serial == s) || list_any (λ e. test e && e.serial == s) es) ≡ test x
    by_test true at found rest =
        let same : e ≡ x = cc in
        let serial : e.serial ≡ s = eqb-true e.serial s at in
        rw (at, not-there test s (e.serial + 1) high es (omega (arith, serial)) rises.1) (here (test e) ∙ ap test same)
    by_test false at found rest = rw at (past (test e) _ ∙ rest found)

-- What an index has once an entry is entered, and once one has left.
or-swap : (a b : Bool) → (a || b) ≡ (b || (a || false))
or-swap true true = refl
or-swap true false = refl
or-swap false true = refl
or-swap false false = refl

entered-any : (test : Entry → Bool) (e : Entry) (es : List Entry) → (test e || list_any test es) ≡ list_any test (es ++ e ∷ [])
entered-any test e es = or-swap (test e) (list_any test es) ∙ sym (list_any-append test es (e ∷ []))

pub index-entered : (e : Entry) (es : List Entry) (x y : Index) → Entered e x y → StaysSorted x y → Indexes es x → Indexes (es ++ e ∷ []) y
index-entered e es x y entered stays index = record {
  plain = λ p. entered.plain p ∙ ap (λ (b : Bool). (is_of false e && is_ranked p e) || b) (index.plain p)
      ∙ entered-any (λ (f : Entry). is_of false f && is_ranked p f) e es;
  updates = λ p. entered.updates p ∙ ap (λ (b : Bool). (is_of true e && is_ranked p e) || b) (index.updates p)
      ∙ entered-any (λ (f : Entry). is_of true f && is_ranked p f) e es;
  untimed = λ s. entered.untimed s ∙ ap (λ (b : Bool). (is_untimed e && e.serial == s) || b) (index.untimed s)
      ∙ entered-any (λ (f : Entry). is_untimed f && f.serial == s) e es;
  plain_sorted = stays.plain index.plain_sorted;
  updates_sorted = stays.updates index.updates_sorted;
  untimed_sorted = stays.untimed index.untimed_sorted;
}

pub index-same : (es : List Entry) (x y : Index) → IsSame x y → StaysSorted x y → Indexes es x → Indexes es y
index-same es x y same stays index = record {
  plain = λ p. ap (λ (ks : List Key). list_any (is_key (key_cmp p)) ks) same.plain ∙ index.plain p;
  updates = λ p. ap (λ (ks : List Key). list_any (is_key (key_cmp p)) ks) same.updates ∙ index.updates p;
  untimed = λ s. ap (λ (ks : List ℕ). list_any (is_key (nat_cmp s)) ks) same.untimed ∙ index.untimed s;
  plain_sorted = stays.plain index.plain_sorted;
  updates_sorted = stays.updates index.updates_sorted;
  untimed_sorted = stays.untimed index.untimed_sorted;
}

-- What a test that looks at a serial finds among the entries but one.
without-any : (test : Entry → Bool) (s q low high : ℕ) (es : List Entry) (x : Entry) (old : Bool) → Rises low high es
    → find (λ e. e.serial == s) es ≡ Some x → x.serial ≡ s → old ≡ list_any (λ e. test e && e.serial == q) es
    → (old && not (test x && x.serial == q)) ≡ list_any (λ e. test e && e.serial == q) (filter (λ e. not (e.serial == s)) es)
without-any test s q low high es x old rises found at is =
    by_test (s == q) refl ∙ sym (any-filter (λ (e : Entry). not (e.serial == s)) (λ (e : Entry). test e && e.serial == q) es
    ∙ any-same _ (λ (e : Entry). (test e && e.serial == q) && not (s == q)) es spread
    ∙ any-fixed (not (s == q)) (λ (e : Entry). test e && e.serial == q) es)
  where
    spread : (e : Entry) → (not (e.serial == s) && (test e && e.serial == q)) ≡ ((test e && e.serial == q) && not (s == q))
    spread e = by_serial (test e) (e.serial == q) refl
      where
        swap : (a : Bool) → (a && true) ≡ (true && a)
        swap true = refl
        swap false = refl

        last : (a : Bool) → (a && false) ≡ false
        last true = refl
        last false = refl

        by_serial : (t b : Bool) → (e.serial == q) ≡ b → (not (e.serial == s) && (t && b)) ≡ ((t && b) && not (s == q))
        by_serial true true same = let one : e.serial ≡ q = eqb-true e.serial q same in rw one (flip (q == s) (s == q) (grind (arith, nat_tests)))
          where
            flip : (a b : Bool) → a ≡ b → (not a && true) ≡ (true && not b)
            flip a b same = rw same (swap (not b))
        by_serial true false same = last (not (e.serial == s))
        by_serial false b same = last (not (e.serial == s))

    by_test : (b : Bool) → (s == q) ≡ b → (old && not (test x && x.serial == q)) ≡ (list_any (λ e. test e && e.serial == q) es && not (s == q))
    by_test true same =
        let one : s ≡ q = eqb-true s q same in
        let there : list_any (λ e. test e && e.serial == q) es ≡ test x =
        ap (λ (n : ℕ). list_any (λ e. test e && e.serial == n) es) (sym one) ∙ one-found test s low high es x rises found in
        ap (λ (n : ℕ). old && not (test x && n == q)) at ∙ rw (is, there, same) (never (test x))
      where
        never : (b : Bool) → (b && not (b && true)) ≡ (b && false)
        never true = refl
        never false = refl
    by_test false same =
        ap (λ (n : ℕ). old && not (test x && n == q)) at ∙ rw (is, same) (kept (list_any (λ e. test e && e.serial == q) es) (test x))
      where
        kept : (a b : Bool) → (a && not (b && false)) ≡ (a && true)
        kept a true = refl
        kept a false = refl

-- A key's test looks at the serial last.
ranked_as-as : (u a b : Bool) → (u && (a && b)) ≡ ((u && a) && b)
ranked_as-as true a b = refl
ranked_as-as false a b = refl

key-any : (update : Bool) (p : Key) (s low high : ℕ) (es : List Entry) (x : Entry) (old : Bool) → Rises low high es
    → find (λ e. e.serial == s) es ≡ Some x → x.serial ≡ s → old ≡ list_any (λ e. is_of update e && is_ranked p e) es
    → (old && not (is_of update x && is_ranked p x)) ≡ list_any (λ e. is_of update e && is_ranked p e) (filter (λ e. not (e.serial == s)) es)
key-any update p s low high es x old rises found at is =
    ap (λ (b : Bool). old && not b) (split x)
    ∙ without-any here s p.serial low high es x old rises found at (is ∙ any-same _ (λ (e : Entry). here e && e.serial == p.serial) es split)
    ∙ any-same _ (λ (e : Entry). is_of update e && is_ranked p e) (filter (λ (e : Entry). not (e.serial == s)) es) (λ e. sym (split e))
  where
    here : Entry → Bool
    here e = is_of update e && (is_at e.time p.time && rank e.region == p.rank)

    split : (e : Entry) → (is_of update e && is_ranked p e) ≡ (here e && e.serial == p.serial)
    split e = ranked_as-as (is_of update e) (is_at e.time p.time && rank e.region == p.rank) (e.serial == p.serial)

pub index-left : (s low high : ℕ) (es : List Entry) (e : Entry) (x y : Index) → Rises low high es → find (λ f. f.serial == s) es ≡ Some e → e.serial ≡ s
    → Left e x y → StaysSorted x y → Indexes es x → Indexes (filter (λ f. not (f.serial == s)) es) y
index-left s low high es e x y rises found at left stays index = record {
  plain = λ p. left.plain p ∙ key-any false p s low high es e (contains key_cmp x.plain p) rises found at (index.plain p);
  updates = λ p. left.updates p ∙ key-any true p s low high es e (contains key_cmp x.updates p) rises found at (index.updates p);
  untimed = λ q. left.untimed q ∙ without-any is_untimed s q low high es e (contains nat_cmp x.untimed q) rises found at (index.untimed q);
  plain_sorted = stays.plain index.plain_sorted;
  updates_sorted = stays.updates index.updates_sorted;
  untimed_sorted = stays.untimed index.untimed_sorted;
}

-- No serial is from one on and below it.
none-between : (a b x : Bool) → (a && (b && (x && not x))) ≡ false
none-between true true true = refl
none-between true true false = refl
none-between true false x = refl
none-between false b x = refl

filter-none : {X : Type 0} (p : X → Bool) (xs : List X) → ((x : X) → p x ≡ false) → filter p xs ≡ []
filter-none p [] none = refl
filter-none p (x ∷ xs) none = rw (none x) (filter-none p xs none)

pub none-in : (time r from below : ℕ) (ranked : BTreeSet Key) → from ≡ below → serials_of time r from below ranked ≡ []
none-in time r from below ranked same =
    ap (λ (n : ℕ). serials_of time r from n ranked) (sym same)
    ∙ ap (map (λ (p : Key). p.serial)) (filter-none (λ p. range_contains key_cmp (Included (key time r from)) (Excluded (key time r from)) p) ranked.keys
    (λ p. between-ranked time r from from p ∙ none-between (time == p.time) (r == p.rank) (nat_le from p.serial)))

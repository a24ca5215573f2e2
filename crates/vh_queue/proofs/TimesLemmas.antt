-- Lemmas on the least time of an entry, by `specs/Events.antt` and by the ranked of `specs/Ranked.antt`.
use Rattle.std.proofs.Common.{◌≡◌, ◌∙◌, ℕ, ◌<◌, ◌≤◌, List, [], ◌∷◌, filter, Bool, true, false, not, ◌&&◌, ◌||◌, ◌==◌, cond, nat_lt, min, Option, Some, None, refl, sym, ap, subst, arith, ⊎_elim}
use Rattle.std.proofs.lemmas.Bool.{and_parts, and_from, or_right, or_left, or_cases, eq-eqb, eqb-true, cases_lt}
use Rattle.std.specs.BTreeSet.{BTreeSet, contains}
use Rattle.std.specs.List.{list_any}
use Rattle.vh_queue.specs.declared.entry.Entry.{Entry}
use Rattle.vh_queue.specs.declared.horizons.Horizons.{Horizons}
use Rattle.vh_queue.specs.declared.key.Key.{Key}
use Rattle.vh_queue.specs.contracts.key.KeyOrd.TheImpl.{cmp-value}
use Rattle.vh_queue.specs.Entries.{rank, is_at, IsFrom, time_given}
use Rattle.vh_queue.specs.Events.{earlier_of, least_time}
use Rattle.vh_queue.specs.Ranked.{is_of, is_ranked, is_untimed, has_none, key, AreRanked, IsLeastTime}
use Rattle.vh_queue.specs.Views.{all_seen}
use Rattle.vh_queue.proofs.RankedLemmas.{any-filter}

-- The earlier of several.
earlier-again : (a b c : Option ℕ) → earlier_of a (earlier_of b c) ≡ earlier_of (earlier_of a b) c
earlier-again None b c = refl
earlier-again (Some a) None c = refl
earlier-again (Some a) (Some b) None = refl
earlier-again (Some a) (Some b) (Some c) = ap Some (omega arith)

earlier-past : (a b c : Option ℕ) → earlier_of a (earlier_of b c) ≡ earlier_of b (earlier_of a c)
earlier-past None b c = refl
earlier-past (Some a) None c = refl
earlier-past (Some a) (Some b) None = ap Some (omega arith)
earlier-past (Some a) (Some b) (Some c) = ap Some (omega arith)

-- The least time that is seen is that of an update, of another entry, or the present one where it was given.
abbrev given : ℕ → Bool → Option ℕ
given now a = cond a (Some now) None

now-again : (now : ℕ) (a : Bool) (x : Option ℕ) → earlier_of (Some now) (earlier_of x (given now a)) ≡ earlier_of x (Some now)
now-again now true None = ap Some (omega arith)
now-again now true (Some x) = ap Some (omega arith)
now-again now false None = refl
now-again now false (Some x) = ap Some (omega arith)

seen-by : (now : ℕ) (time : Option ℕ) (u d a : Bool) (e : Entry) (p q : List Entry) → e.time ≡ time
    → earlier_of (time_given d now time) (earlier_of (earlier_of (least_time p) (least_time q)) (given now a))
    ≡ earlier_of (earlier_of (least_time (cond (not u) (e ∷ p) p)) (least_time (cond u (e ∷ q) q))) (given now ((has_none time && d) || a))
seen-by now (Some t) true d a e p q is =
    rw is (earlier-again (Some t) (earlier_of (least_time p) (least_time q)) (given now a)
    ∙ ap (λ (o : Option ℕ). earlier_of o (given now a)) (earlier-past (Some t) (least_time p) (least_time q)))
seen-by now (Some t) false d a e p q is =
    rw is (earlier-again (Some t) (earlier_of (least_time p) (least_time q)) (given now a)
    ∙ ap (λ (o : Option ℕ). earlier_of o (given now a)) (earlier-again (Some t) (least_time p) (least_time q)))
seen-by now None true true a e p q is = rw is (now-again now a (earlier_of (least_time p) (least_time q)))
seen-by now None false true a e p q is = rw is (now-again now a (earlier_of (least_time p) (least_time q)))
seen-by now None true false a e p q is = rw is refl
seen-by now None false false a e p q is = rw is refl

abbrev pub dated_by : Horizons → Entry → Bool
dated_by m e = is_untimed e && nat_lt e.serial m.dated

pub times-seen : (now : ℕ) (m : Horizons) (es : List Entry)
    → least_time (all_seen now m es)
    ≡ earlier_of (earlier_of (least_time (filter (is_of false) es)) (least_time (filter (is_of true) es))) (given now (list_any (dated_by m) es))
times-seen now m [] = refl
times-seen now m (e ∷ es) =
    ap (λ (o : Option ℕ). earlier_of (time_given (nat_lt e.serial m.dated) now e.time) o) (times-seen now m es)
    ∙ seen-by now e.time (is_of true e) (nat_lt e.serial m.dated) (list_any (dated_by m) es) e (filter (is_of false) es) (filter (is_of true) es) refl

-- The least time is that of an entry, and no entry is earlier.
at-itself : (n : ℕ) → (n == n) ≡ true
at-itself n = eq-eqb n n refl

some-same : (x y : ℕ) → Some x ≡ Some y → x ≡ y
some-same x y h = cc

least-by : (y : ℕ) (time rest : Option ℕ) (a : Bool) → earlier_of time rest ≡ Some y → (rest ≡ Some y → a ≡ true) → (is_at time y || a) ≡ true
least-by y None rest a is there = there is
least-by y (Some t) None a is there = rw (some-same t y is, at-itself y) refl
least-by y (Some t) (Some r) a is there = ⊎_elim (λ (lower : t < r). let e : t ≡ y = (let m = some-same (min t r) y is in omega (arith, m, lower)) in rw (e, at-itself y) refl)
    (λ (upper : r ≤ t). or_right (t == y) a (there (let m = some-same (min t r) y is in ap Some (omega (arith, m, upper))))) (cases_lt t r)

least-at : (es : List Entry) (y : ℕ) → least_time es ≡ Some y → list_any (λ (e : Entry). is_at e.time y) es ≡ true
least-at [] y is = absurd (cc)
least-at (e ∷ es) y is = least-by y e.time (least_time es) (list_any (λ (f : Entry). is_at f.time y) es) is (least-at es y)

-- At most this time.
record IsLow (t : ℕ) (o : Option ℕ) : Type 0 where
  low : ℕ
  is : o ≡ Some low
  below : low ≤ t

low-left : (t : ℕ) (rest : Option ℕ) → IsLow t (earlier_of (Some t) rest)
low-left t None = record { low = t; is = refl; below = omega arith }
low-left t (Some r) = record { low = min t r; is = refl; below = omega arith }

low-right : (t : ℕ) (time rest : Option ℕ) → IsLow t rest → IsLow t (earlier_of time rest)
low-right t None rest low = low
low-right t (Some a) rest low = record {
  low = min a low.low;
  is = ap (λ (o : Option ℕ). earlier_of (Some a) o) low.is;
  below = (let h = low.below in omega (arith, h));
}

low-at : (t : ℕ) (time rest : Option ℕ) → is_at time t ≡ true → IsLow t (earlier_of time rest)
low-at t None rest at = absurd (cc)
low-at t (Some a) rest at = let e : a ≡ t = eqb-true a t at in subst (λ (n : ℕ). IsLow t (earlier_of (Some n) rest)) (sym e) (low-left t rest)

least-low : (es : List Entry) (t : ℕ) → list_any (λ (e : Entry). is_at e.time t) es ≡ true → IsLow t (least_time es)
least-low [] t found = absurd (cc)
least-low (e ∷ es) t found =
    ⊎_elim (λ (here : is_at e.time t ≡ true). low-at t e.time (least_time es) here)
    (λ (there : list_any (λ (f : Entry). is_at f.time t) es ≡ true). low-right t e.time (least_time es) (least-low es t there))
    (or_cases (is_at e.time t) (list_any (λ (f : Entry). is_at f.time t) es) found)

-- A key of a time is found where an entry of it is.
any-weaker : (f g : Entry → Bool) (es : List Entry) → ((e : Entry) → f e ≡ true → g e ≡ true) → list_any f es ≡ true → list_any g es ≡ true
any-weaker f g [] weaker found = absurd (cc)
any-weaker f g (e ∷ es) weaker found =
    ⊎_elim (λ (here : f e ≡ true). or_left (g e) (list_any g es) (weaker e here))
    (λ (there : list_any f es ≡ true). or_right (g e) (list_any g es) (any-weaker f g es weaker there))
    (or_cases (f e) (list_any f es) found)

record HasKey (update : Bool) (t : ℕ) (es : List Entry) : Type 0 where
  rank : ℕ
  serial : ℕ
  there : list_any (λ (e : Entry). is_of update e && is_ranked (key t rank serial) e) es ≡ true

any-key : (update : Bool) (t : ℕ) (es : List Entry) → list_any (λ (e : Entry). is_of update e && is_at e.time t) es ≡ true → HasKey update t es
any-key update t [] found = absurd (cc)
any-key update t (e ∷ es) found =
    ⊎_elim (λ (here : (is_of update e && is_at e.time t) ≡ true).
    let parts = and_parts (is_of update e) (is_at e.time t) here in
    record {
      rank = rank e.region;
      serial = e.serial;
      there = or_left (is_of update e && is_ranked (key t (rank e.region) e.serial) e) _ (and_from (is_of update e) _ parts.0
          (and_from (is_at e.time t && rank e.region == rank e.region) (e.serial == e.serial)
          (and_from (is_at e.time t) (rank e.region == rank e.region) parts.1 (at-itself (rank e.region))) (at-itself e.serial)));
    })
    (λ (there : list_any (λ (f : Entry). is_of update f && is_at f.time t) es ≡ true).
    let p = any-key update t es there in
    record { rank = p.rank; serial = p.serial; there = or_right (is_of update e && is_ranked (key t p.rank p.serial) e) _ p.there })
    (or_cases (is_of update e && is_at e.time t) (list_any (λ (f : Entry). is_of update f && is_at f.time t) es) found)

pub times-least : (update : Bool) (t : ℕ) (es : List Entry) (ranked : BTreeSet Key) → AreRanked update es ranked → IsLeastTime t ranked
    → least_time (filter (is_of update) es) ≡ Some t
times-least update t es ranked are least =
    let kept : List Entry = filter (is_of update) es in
    let found : list_any (λ (e : Entry). is_of update e && is_at e.time t) es ≡ true =
    any-weaker (λ (e : Entry). is_of update e && is_ranked (key t least.rank least.serial) e) (λ (e : Entry). is_of update e && is_at e.time t) es
    (λ e both. let parts = and_parts (is_of update e) _ both in
    let inner = and_parts (is_at e.time t && rank e.region == least.rank) _ parts.1 in
    and_from (is_of update e) (is_at e.time t) parts.0 (and_parts (is_at e.time t) _ inner.0).0)
    (sym (are (key t least.rank least.serial)) ∙ least.there) in
    let low : IsLow t (least_time kept) = least-low kept t (any-filter (is_of update) (λ (e : Entry). is_at e.time t) es ∙ found) in
    let p : HasKey update low.low es = any-key update low.low es (sym (any-filter (is_of update) (λ (e : Entry). is_at e.time low.low) es) ∙ least-at kept low.low low.is) in
    let above : t ≤ low.low = least.least (key low.low p.rank p.serial) (are (key low.low p.rank p.serial) ∙ p.there) in
    let below = low.below in
    low.is ∙ ap Some (omega (arith, above, below))

none-there : (p : Key) (ranked : BTreeSet Key) → ranked.keys ≡ [] → contains (cmp-value).it ranked p ≡ true → ⊥
none-there p ranked none found = absurd (let e : contains (cmp-value).it ranked p ≡ false = rw none refl in cc)

pub times-none : (update : Bool) (es : List Entry) (ranked : BTreeSet Key) → AreRanked update es ranked → ranked.keys ≡ []
    → least_time (filter (is_of update) es) ≡ None
times-none update es ranked are none = by_least (least_time kept) refl
  where
    kept : List Entry
    kept = filter (is_of update) es

    by_least : (o : Option ℕ) → least_time kept ≡ o → o ≡ None
    by_least None is = refl
    by_least (Some y) is =
        let p : HasKey update y es = any-key update y es (sym (any-filter (is_of update) (λ (e : Entry). is_at e.time y) es) ∙ least-at kept y is) in
        absurd (none-there (key y p.rank p.serial) ranked none (are (key y p.rank p.serial) ∙ p.there))

-- No entry is before the least time.
abbrev pub AreFrom : ℕ → List Entry → Type 0
AreFrom t [] = Unit {0}
AreFrom t (e ∷ es) = IsFrom t e.time × AreFrom t es

from-left : (t : ℕ) (a b : Option ℕ) → IsFrom t (earlier_of a b) → IsFrom t a
from-left t None b from = tt
from-left t (Some a) None from = from
from-left t (Some a) (Some b) from = omega (arith, from)

from-right : (t : ℕ) (a b : Option ℕ) → IsFrom t (earlier_of a b) → IsFrom t b
from-right t None b from = from
from-right t (Some a) None from = tt
from-right t (Some a) (Some b) from = omega (arith, from)

pub least-all : (t : ℕ) (es : List Entry) → IsFrom t (least_time es) → AreFrom t es
least-all t [] from = tt
least-all t (e ∷ es) from = (from-left t e.time (least_time es) from, least-all t es (from-right t e.time (least_time es) from))

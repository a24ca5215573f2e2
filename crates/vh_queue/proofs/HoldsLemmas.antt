-- Lemmas on `Holds` of `specs/Views.antt`: what the index of a queue tells of the entries that are seen.
use Rattle.std.proofs.Common.{◌≡◌, ◌∙◌, ℕ, suc, ◌+◌, ◌<◌, List, [], ◌∷◌, map, filter, length, Bool, true, false, not, ◌&&◌, ◌||◌, ◌==◌, cond, nat_lt, nat_le, Option, Some, None, slice_get, refl, sym, ap, arith}
use Rattle.std.proofs.lemmas.Bool.Decides.{nat_tests}
use Rattle.std.specs.BTreeSet.{BTreeSet}
use Rattle.std.specs.List.{list_any}
use Rattle.std.specs.List.Sorted.{IsStrictlySortedBy}
use Rattle.std.specs.Option.{is_some}
use Rattle.std.specs.Ordering.{nat_cmp}
use Rattle.vh_queue.specs.declared.entry.Entry.{Entry}
use Rattle.vh_queue.specs.declared.horizons.Horizons.{Horizons}
use Rattle.vh_queue.specs.declared.key.Key.{Key}
use Rattle.vh_queue.specs.declared.region.Region.{Region}
use Rattle.vh_queue.specs.declared.region.Region.TheVariants as region
use Rattle.vh_queue.specs.contracts.key.KeyOrd.TheImpl.{cmp-value}
use Rattle.vh_queue.specs.Entries.{rank, is_at, is_due, is_active}
use Rattle.vh_queue.specs.Events.{earlier_of, is_beyond_start, Rises}
use Rattle.vh_queue.specs.Ranked.{is_of, is_untimed, has_none, waits, serials_of, dated_in, AreRanked, AreUntimed}
use Rattle.vh_queue.specs.Lanes.{first_four, last_four, count_four, first_start, last_start, count_start}
use Rattle.vh_queue.specs.Serials.{least_serial, greatest_serial, later_of, last_of, is_active_of}
use Rattle.vh_queue.specs.Views.{Later, horizon_of, seen, all_seen, IsTimely, AreTimely}
use Rattle.vh_queue.proofs.EventsLemmas.{rises-empty, rises-filter}
use Rattle.vh_queue.proofs.RankedLemmas.{lane-is, dated-is}
use Rattle.vh_queue.proofs.SerialsLemmas.{serials, first-least, last-greatest, least-union, greatest-union, length-union, any-least}
use Rattle.vh_queue.proofs.ViewsLemmas.{lanes, active-is, due-is, start-is, beyond, beyond-is}

-- What holds of each entry that stands.
abbrev pub Each : ℕ → ℕ → (Entry → Type 0) → Type 0
Each now next P = (e : Entry) → e.serial < next → IsTimely now e → P e

low-of : (low next : ℕ) (e : Entry) (es : List Entry) → Rises low next (e ∷ es) → e.serial < next
low-of low next e es rises = let h = rises-empty (e.serial + 1) next es rises.1 in omega (arith, h)

pub filter-each : (p q : Entry → Bool) (f : Entry → Entry) (now low next : ℕ) (es : List Entry) → Rises low next es → AreTimely now es
    → Each now next (λ e. p (f e) ≡ q e) → filter p (map f es) ≡ map f (filter q es)
filter-each p q f now low next [] rises timely same = refl
filter-each p q f now low next (e ∷ es) rises timely same =
    rw (same e (low-of low next e es rises) timely.0, filter-each p q f now (e.serial + 1) next es rises.1 timely.1 same) (by_test (q e))
  where
    by_test : (b : Bool) → cond b (f e ∷ map f (filter q es)) (map f (filter q es)) ≡ map f (cond b (e ∷ filter q es) (filter q es))
    by_test true = refl
    by_test false = refl

pub timely-filter : (p : Entry → Bool) (now : ℕ) (es : List Entry) → AreTimely now es → AreTimely now (filter p es)
timely-filter p now [] timely = tt
timely-filter p now (e ∷ es) timely = by_test (p e) (timely-filter p now es timely.1)
  where
    by_test : (b : Bool) → AreTimely now (filter p es) → AreTimely now (cond b (e ∷ filter p es) (filter p es))
    by_test true rest = (timely.0, rest)
    by_test false rest = rest

pub seen-least : (now : ℕ) (m : Horizons) (es : List Entry) → least_serial (all_seen now m es) ≡ least_serial es
seen-least now m [] = refl
seen-least now m (e ∷ es) = ap (λ (o : Option ℕ). earlier_of (Some e.serial) o) (seen-least now m es)

pub seen-greatest : (now : ℕ) (m : Horizons) (es : List Entry) → greatest_serial (all_seen now m es) ≡ greatest_serial es
seen-greatest now m [] = refl
seen-greatest now m (e ∷ es) = ap (λ (o : Option ℕ). later_of (Some e.serial) o) (seen-greatest now m es)

pub seen-length : (now : ℕ) (m : Horizons) (es : List Entry) → length (all_seen now m es) ≡ length es
seen-length now m [] = refl
seen-length now m (e ∷ es) = ap suc (seen-length now m es)

-- The entries of a kind that wait in a region.
abbrev pub lane : Bool → ℕ → ℕ → ℕ → ℕ → Entry → Bool
lane update time r from below e = is_of update e && waits time r from below e

-- What an index is to be for them.
pub record Keeps (update : Bool) (next now : ℕ) (es : List Entry) (ranked : BTreeSet Key) : Type 0 where
  pub rises : Rises 1 next es
  pub timely : AreTimely now es
  pub sorted : IsStrictlySortedBy (cmp-value).it ranked.keys
  pub are : AreRanked update es ranked

module _ (update : Bool) (next now : ℕ) (es : List Entry) (ranked : BTreeSet Key) (keeps : Keeps update next now es ranked) where
  pub lane-serials : (time r from below : ℕ) → serials_of time r from below ranked ≡ serials (filter (lane update time r from below) es)
  lane-serials time r from below = lane-is update time r from below 1 next es ranked keeps.rises keeps.sorted keeps.are

  pub lane-least : (time r from below : ℕ) → slice_get (serials_of time r from below ranked) 0 ≡ least_serial (filter (lane update time r from below) es)
  lane-least time r from below =
      ap (λ (xs : List ℕ). slice_get xs 0) (lane-serials time r from below)
      ∙ first-least 1 next (filter (lane update time r from below) es) (rises-filter (lane update time r from below) 1 next es keeps.rises)

  pub lane-greatest : (time r from below : ℕ) → last_of (serials_of time r from below ranked) ≡ greatest_serial (filter (lane update time r from below) es)
  lane-greatest time r from below =
      ap last_of (lane-serials time r from below)
      ∙ last-greatest 1 next (filter (lane update time r from below) es) (rises-filter (lane update time r from below) 1 next es keeps.rises)

  pub lane-length : (time r from below : ℕ) → length (serials_of time r from below ranked) ≡ length (filter (lane update time r from below) es)
  lane-length time r from below =
      ap length (lane-serials time r from below) ∙ map-length (filter (lane update time r from below) es)
    where
      map-length : (xs : List Entry) → length (serials xs) ≡ length xs
      map-length [] = refl
      map-length (x ∷ xs) = ap suc (map-length xs)

-- Four regions together.
abbrev pub four : Bool → ℕ → ℕ → ℕ → ℕ → ℕ → Entry → Bool
four update time a b c d e = (lane update time 1 0 a e || lane update time 2 0 b e) || (lane update time 3 0 c e || lane update time 4 0 d e)

four-is : (u w x y z : Bool) → (u && ((w || x) || (y || z))) ≡ (((u && w) || (u && x)) || ((u && y) || (u && z)))
four-is true w x y z = refl
four-is false w x y z = refl

swap-and : (a b : Bool) → (a && b) ≡ (b && a)
swap-and true true = refl
swap-and true false = refl
swap-and false true = refl
swap-and false false = refl

of-seen : (update : Bool) (now : ℕ) (m : Horizons) (e : Entry) → is_of update (seen now m e) ≡ is_of update e
of-seen true now m e = refl
of-seen false now m e = refl

pub active-four : (update : Bool) (now next : ℕ) (m : Horizons) (e : Entry) → e.serial < next → IsTimely now e
    → is_active_of update (seen now m e) ≡ four update now next m.inactive m.nonblocking m.monitor e
active-four update now next m e below timely =
    ap (λ (b : Bool). is_active (seen now m e) && b) (of-seen update now m e)
    ∙ ap (λ (b : Bool). b && is_of update e) (active-is now next m e below timely.present)
    ∙ swap-and (lanes now next m e) (is_of update e)
    ∙ four-is (is_of update e) (waits now 1 0 next e) (waits now 2 0 m.inactive e) (waits now 3 0 m.nonblocking e) (waits now 4 0 m.monitor e)

-- No entry is of two regions.
apart-by : (u a x y : Bool) (b c : Bool) → (b && c) ≡ false → ((u && ((a && b) && x)) && (u && ((a && c) && y))) ≡ false
apart-by false a x y b c apart = refl
apart-by true false x y b c apart = refl
apart-by true true x y false c apart = refl
apart-by true true false y true c apart = refl
apart-by true true true y true c apart = rw apart refl

one-rank : (q : Region) (i j : ℕ) → (i == j) ≡ false → ((rank q == i) && (rank q == j)) ≡ false
one-rank q i j differ = grind (arith, nat_tests)

lanes-apart : (update : Bool) (time i j a b : ℕ) (e : Entry) → (i == j) ≡ false → (lane update time i 0 a e && lane update time j 0 b e) ≡ false
lanes-apart update time i j a b e differ =
    apart-by (is_of update e) (is_at e.time time) (nat_le 0 e.serial && nat_lt e.serial a) (nat_le 0 e.serial && nat_lt e.serial b)
    (rank e.region == i) (rank e.region == j) (one-rank e.region i j differ)

pairs-apart : (a b c d : Bool) → (a && c) ≡ false → (a && d) ≡ false → (b && c) ≡ false → (b && d) ≡ false → ((a || b) && (c || d)) ≡ false
pairs-apart true b true d ac ad bc bd = absurd (cc)
pairs-apart true b false true ac ad bc bd = absurd (cc)
pairs-apart true b false false ac ad bc bd = refl
pairs-apart false true true d ac ad bc bd = absurd (cc)
pairs-apart false true false true ac ad bc bd = absurd (cc)
pairs-apart false true false false ac ad bc bd = refl
pairs-apart false false c d ac ad bc bd = refl

pub four-length : (update : Bool) (time a b c d : ℕ) (es : List Entry)
    → length (filter (four update time a b c d) es)
    ≡ (length (filter (lane update time 1 0 a) es) + length (filter (lane update time 2 0 b) es))
    + (length (filter (lane update time 3 0 c) es) + length (filter (lane update time 4 0 d) es))
four-length update time a b c d es =
    length-union (λ e. lane update time 1 0 a e || lane update time 2 0 b e) (λ e. lane update time 3 0 c e || lane update time 4 0 d e) es
    (λ e. pairs-apart (lane update time 1 0 a e) (lane update time 2 0 b e) (lane update time 3 0 c e) (lane update time 4 0 d e)
    (lanes-apart update time 1 3 a c e refl) (lanes-apart update time 1 4 a d e refl)
    (lanes-apart update time 2 3 b c e refl) (lanes-apart update time 2 4 b d e refl))
    ∙ rw (
      length-union (lane update time 1 0 a) (lane update time 2 0 b) es (λ e. lanes-apart update time 1 2 a b e refl),
      length-union (lane update time 3 0 c) (lane update time 4 0 d) es (λ e. lanes-apart update time 3 4 c d e refl),
    ) refl

pub four-least : (update : Bool) (time a b c d : ℕ) (es : List Entry)
    → least_serial (filter (four update time a b c d) es)
    ≡ earlier_of (earlier_of (least_serial (filter (lane update time 1 0 a) es)) (least_serial (filter (lane update time 2 0 b) es)))
    (earlier_of (least_serial (filter (lane update time 3 0 c) es)) (least_serial (filter (lane update time 4 0 d) es)))
four-least update time a b c d es =
    least-union (λ e. lane update time 1 0 a e || lane update time 2 0 b e) (λ e. lane update time 3 0 c e || lane update time 4 0 d e) es
    ∙ rw (least-union (lane update time 1 0 a) (lane update time 2 0 b) es, least-union (lane update time 3 0 c) (lane update time 4 0 d) es) refl

pub four-greatest : (update : Bool) (time a b c d : ℕ) (es : List Entry)
    → greatest_serial (filter (four update time a b c d) es)
    ≡ later_of (later_of (greatest_serial (filter (lane update time 1 0 a) es)) (greatest_serial (filter (lane update time 2 0 b) es)))
    (later_of (greatest_serial (filter (lane update time 3 0 c) es)) (greatest_serial (filter (lane update time 4 0 d) es)))
four-greatest update time a b c d es =
    greatest-union (λ e. lane update time 1 0 a e || lane update time 2 0 b e) (λ e. lane update time 3 0 c e || lane update time 4 0 d e) es
    ∙ rw (greatest-union (lane update time 1 0 a) (lane update time 2 0 b) es, greatest-union (lane update time 3 0 c) (lane update time 4 0 d) es) refl

-- What a queue finds: the first and the last active entry, and how many there are.
pub active-least : (update : Bool) (next now : ℕ) (m : Horizons) (es : List Entry) (ranked : BTreeSet Key) → Keeps update next now es ranked
    → first_four now next m ranked ≡ least_serial (filter (is_active_of update) (all_seen now m es))
active-least update next now m es ranked keeps =
    let least = lane-least update next now es ranked keeps in
    rw (least now 1 0 next, least now 2 0 m.inactive, least now 3 0 m.nonblocking, least now 4 0 m.monitor)
    (sym (four-least update now next m.inactive m.nonblocking m.monitor es))
    ∙ sym (seen-least now m (filter (four update now next m.inactive m.nonblocking m.monitor) es))
    ∙ ap least_serial (sym (filter-each (is_active_of update) (four update now next m.inactive m.nonblocking m.monitor) (seen now m) now 1 next es
    keeps.rises keeps.timely (active-four update now next m)))

pub active-greatest : (update : Bool) (next now : ℕ) (m : Horizons) (es : List Entry) (ranked : BTreeSet Key) → Keeps update next now es ranked
    → last_four now next m ranked ≡ greatest_serial (filter (is_active_of update) (all_seen now m es))
active-greatest update next now m es ranked keeps =
    let greatest = lane-greatest update next now es ranked keeps in
    rw (greatest now 1 0 next, greatest now 2 0 m.inactive, greatest now 3 0 m.nonblocking, greatest now 4 0 m.monitor)
    (sym (four-greatest update now next m.inactive m.nonblocking m.monitor es))
    ∙ sym (seen-greatest now m (filter (four update now next m.inactive m.nonblocking m.monitor) es))
    ∙ ap greatest_serial (sym (filter-each (is_active_of update) (four update now next m.inactive m.nonblocking m.monitor) (seen now m) now 1 next es
    keeps.rises keeps.timely (active-four update now next m)))

pub active-length : (update : Bool) (next now : ℕ) (m : Horizons) (es : List Entry) (ranked : BTreeSet Key) → Keeps update next now es ranked
    → count_four now next m ranked ≡ length (filter (is_active_of update) (all_seen now m es))
active-length update next now m es ranked keeps =
    let size = lane-length update next now es ranked keeps in
    rw (size now 1 0 next, size now 2 0 m.inactive, size now 3 0 m.nonblocking, size now 4 0 m.monitor)
    (sym (four-length update now next m.inactive m.nonblocking m.monitor es))
    ∙ sym (seen-length now m (filter (four update now next m.inactive m.nonblocking m.monitor) es))
    ∙ ap length (sym (filter-each (is_active_of update) (four update now next m.inactive m.nonblocking m.monitor) (seen now m) now 1 next es
    keeps.rises keeps.timely (active-four update now next m)))

-- Whether one waits, of either kind.
either-of : (w : Bool) (e : Entry) → w ≡ ((is_of false e && w) || (is_of true e && w))
either-of w e = by_test (is_of true e) w
  where
    by_test : (u w : Bool) → w ≡ ((not u && w) || (u && w))
    by_test true true = refl
    by_test true false = refl
    by_test false true = refl
    by_test false false = refl

any-each : (p q : Entry → Bool) (f : Entry → Entry) (now low next : ℕ) (es : List Entry) → Rises low next es → AreTimely now es
    → Each now next (λ e. p (f e) ≡ q e) → list_any p (map f es) ≡ list_any q es
any-each p q f now low next [] rises timely same = refl
any-each p q f now low next (e ∷ es) rises timely same =
    rw (same e (low-of low next e es rises) timely.0, any-each p q f now (e.serial + 1) next es rises.1 timely.1 same) refl

some-either : (a b : Option ℕ) → is_some (earlier_of a b) ≡ (is_some a || is_some b)
some-either None b = refl
some-either (Some a) None = refl
some-either (Some a) (Some b) = refl

pub due-any : (next now : ℕ) (m : Horizons) (r : Region) (es : List Entry) (plain updates : BTreeSet Key)
    → Keeps false next now es plain → Keeps true next now es updates → Later r
    → (is_some (slice_get (serials_of now (rank r) (horizon_of m r) next plain) 0) || is_some (slice_get (serials_of now (rank r) (horizon_of m r) next updates) 0))
    ≡ list_any (is_due r now) (all_seen now m es)
due-any next now m r es plain updates keeps also later =
    let one = lane false now (rank r) (horizon_of m r) next in
    let other = lane true now (rank r) (horizon_of m r) next in
    rw (lane-least false next now es plain keeps now (rank r) (horizon_of m r) next, lane-least true next now es updates also now (rank r) (horizon_of m r) next)
    (sym (some-either (least_serial (filter one es)) (least_serial (filter other es))))
    ∙ ap is_some (sym (least-union one other es))
    ∙ sym (any-least (λ e. one e || other e) es)
    ∙ sym (any-each (is_due r now) (λ e. one e || other e) (seen now m) now 1 next es keeps.rises keeps.timely
    (λ e below timely. due-is now next m r e below timely later ∙ either-of (waits now (rank r) (horizon_of m r) next e) e))

pub beyond-any : (next now t : ℕ) (m all : Horizons) (es : List Entry) (plain updates : BTreeSet Key)
    → Keeps false next now es plain → Keeps true next now es updates
    → all.inactive ≡ next → all.nonblocking ≡ next → all.monitor ≡ next
    → (is_some (first_four t next all plain) || is_some (first_four t next all updates))
    ≡ list_any (is_beyond_start t) (all_seen now m es)
beyond-any next now t m all es plain updates keeps also i n o =
    let one = four false t next next next next in
    let other = four true t next next next next in
    rw (i, n, o) (
    rw (
      lane-least false next now es plain keeps t 1 0 next,
      lane-least false next now es plain keeps t 2 0 next,
      lane-least false next now es plain keeps t 3 0 next,
      lane-least false next now es plain keeps t 4 0 next,
      lane-least true next now es updates also t 1 0 next,
      lane-least true next now es updates also t 2 0 next,
      lane-least true next now es updates also t 3 0 next,
      lane-least true next now es updates also t 4 0 next,
      ← four-least false t next next next next es,
      ← four-least true t next next next next es,
    ) (sym (some-either (least_serial (filter one es)) (least_serial (filter other es)))))
    ∙ ap is_some (sym (least-union one other es))
    ∙ sym (any-least (λ e. one e || other e) es)
    ∙ sym (any-each (is_beyond_start t) (λ e. one e || other e) (seen now m) now 1 next es keeps.rises keeps.timely
    (λ e below timely. beyond-is now next t m e below timely ∙ both e))
  where
    spread : (u w x y z : Bool)
        → ((w || x) || (y || z))
        ≡ ((((not u && w) || (not u && x)) || ((not u && y) || (not u && z))) || (((u && w) || (u && x)) || ((u && y) || (u && z))))
    spread true w x y z = refl
    spread false w x y z = last ((w || x) || (y || z))
      where
        last : (b : Bool) → b ≡ (b || false)
        last true = refl
        last false = refl

    both : (e : Entry) → beyond t next e ≡ (four false t next next next next e || four true t next next next next e)
    both e = spread (is_of true e) (waits t 1 0 next e) (waits t 2 0 next e) (waits t 3 0 next e) (waits t 4 0 next e)

-- The start entries that are due: those of the time of both kinds, and those that have got it.
abbrev start_lanes : ℕ → ℕ → Horizons → Entry → Bool
start_lanes now next m e = (lane false now 0 0 next e || lane true now 0 0 next e) || (is_untimed e && nat_lt e.serial m.dated)

start-lanes : (now next : ℕ) (m : Horizons) (e : Entry) → e.serial < next → IsTimely now e
    → is_due region.Start now (seen now m e) ≡ start_lanes now next m e
start-lanes now next m e below timely =
    start-is now next m e below timely
    ∙ ap (λ (b : Bool). b || (is_untimed e && nat_lt e.serial m.dated)) (either-of (waits now 0 0 next e) e)

kinds-apart : (u w : Bool) → ((not u && w) && (u && w)) ≡ false
kinds-apart true w = refl
kinds-apart false true = refl
kinds-apart false false = refl

time-apart : (u v b c : Bool) (now : ℕ) (time : Option ℕ) (x y : Bool)
    → (((u && ((is_at time now && b) && x)) || (v && ((is_at time now && b) && x))) && (has_none time && y)) ≡ false
time-apart true true b c now None x y = refl
time-apart true false b c now None x y = refl
time-apart false true b c now None x y = refl
time-apart false false b c now None x y = refl
time-apart u v b c now (Some t) x y = last ((u && (((t == now) && b) && x)) || (v && (((t == now) && b) && x)))
  where
    last : (a : Bool) → (a && false) ≡ false
    last true = refl
    last false = refl

module _ (next now : ℕ) (m : Horizons) (es : List Entry) (plain updates : BTreeSet Key) (untimed : BTreeSet ℕ)
    (keeps : Keeps false next now es plain) (also : Keeps true next now es updates)
    (sorted : IsStrictlySortedBy nat_cmp untimed.keys) (are : AreUntimed es untimed) where
  abbrev dated : Entry → Bool
  dated e = is_untimed e && nat_lt e.serial m.dated

  starts-are : filter (is_due region.Start now) (all_seen now m es) ≡ all_seen now m (filter (start_lanes now next m) es)
  starts-are =
      filter-each (is_due region.Start now) (start_lanes now next m) (seen now m) now 1 next es keeps.rises keeps.timely (start-lanes now next m)

  dated-serials : dated_in m.dated untimed ≡ serials (filter dated es)
  dated-serials = dated-is m.dated 1 next es untimed keeps.rises sorted are

  dated-rises : Rises 1 next (filter dated es)
  dated-rises = rises-filter dated 1 next es keeps.rises

  pub start-least : first_start now next m plain updates untimed ≡ least_serial (filter (is_due region.Start now) (all_seen now m es))
  start-least =
      rw (
        lane-least false next now es plain keeps now 0 0 next,
        lane-least true next now es updates also now 0 0 next,
        dated-serials,
        first-least 1 next (filter dated es) dated-rises,
        ← least-union (lane false now 0 0 next) (lane true now 0 0 next) es,
        ← least-union (λ e. lane false now 0 0 next e || lane true now 0 0 next e) dated es,
      ) (sym (ap least_serial starts-are ∙ seen-least now m (filter (start_lanes now next m) es)))

  pub start-greatest : last_start now next m plain updates untimed ≡ greatest_serial (filter (is_due region.Start now) (all_seen now m es))
  start-greatest =
      rw (
        lane-greatest false next now es plain keeps now 0 0 next,
        lane-greatest true next now es updates also now 0 0 next,
        dated-serials,
        last-greatest 1 next (filter dated es) dated-rises,
        ← greatest-union (lane false now 0 0 next) (lane true now 0 0 next) es,
        ← greatest-union (λ e. lane false now 0 0 next e || lane true now 0 0 next e) dated es,
      ) (sym (ap greatest_serial starts-are ∙ seen-greatest now m (filter (start_lanes now next m) es)))

  map-length : (xs : List Entry) → length (serials xs) ≡ length xs
  map-length [] = refl
  map-length (x ∷ xs) = ap suc (map-length xs)

  pub start-length : count_start now next m plain updates untimed ≡ length (filter (is_due region.Start now) (all_seen now m es))
  start-length =
      rw (
        lane-length false next now es plain keeps now 0 0 next,
        lane-length true next now es updates also now 0 0 next,
        dated-serials,
        map-length (filter dated es),
        ← length-union (lane false now 0 0 next) (lane true now 0 0 next) es (λ e. kinds-apart (is_of true e) (waits now 0 0 next e)),
        ← length-union (λ e. lane false now 0 0 next e || lane true now 0 0 next e) dated es
            (λ e. time-apart (is_of false e) (is_of true e) (rank e.region == 0) false now e.time (nat_le 0 e.serial && nat_lt e.serial next) (nat_lt e.serial m.dated)),
      ) (sym (ap length starts-are ∙ seen-length now m (filter (start_lanes now next m) es)))

-- Lemmas on what a queue becomes, by `specs/Views.antt`: what is seen after each change, and that `Holds` is kept.
use Rattle.std.proofs.Common.{◌≡◌, ◌∙◌, ℕ, suc, ◌+◌, ◌<◌, ◌≤◌, List, [], ◌∷◌, ◌++◌, map, filter, length, Bool, true, false, not, ◌&&◌, ◌==◌, cond, nat_lt, Option, Some, None, refl, sym, ap, subst, arith}
use Rattle.std.proofs.lemmas.Bool.{le-ltb, lt-ltb, ne_eqb, eqb-true}
use Rattle.std.proofs.lemmas.Bool.Decides.{nat_tests}
use Rattle.std.specs.BTreeMap.{is_at as is_key, insert_entry}
use Rattle.std.specs.List.{find}
use Rattle.std.specs.Map.{values_of, remove_entry, lookup}
use Rattle.std.specs.Option.{option_map}
use Rattle.std.specs.Ordering.{nat_cmp}
use Rattle.vh_base.specs.declared.limits.TheConstants.{MOST_ENTRIES}
use Rattle.vh_queue.specs.declared.entry.Entry.{Entry}
use Rattle.vh_queue.specs.declared.index.Index.{Index}
use Rattle.vh_queue.specs.declared.horizons.Horizons.{Horizons}
use Rattle.vh_queue.specs.declared.region.Region.{Region}
use Rattle.vh_queue.specs.declared.region.Region.TheVariants as region
use Rattle.vh_queue.specs.Entries.{rank, is_at, is_due, IsFrom, IsPresent, time_given, activated_entry}
use Rattle.vh_queue.specs.Events.{arrived, Rises}
use Rattle.vh_queue.specs.Ranked.{has_none, Indexes}
use Rattle.vh_queue.specs.Serials.{is_active_of}
use Rattle.vh_queue.specs.Views.{Later, inactive, horizon_of, with_horizon, horizons_at, seen_region, seen, all_seen, by_serial, IsTimely, AreTimely, AreHorizons, Holds}
use Rattle.vh_queue.proofs.EventsLemmas.{rises-empty}
use Rattle.vh_queue.proofs.ViewsLemmas.{due-is, region-if, made-region}
use Rattle.vh_queue.proofs.TimesLemmas.{AreFrom}

-- A new entry is seen as it was added.
no-reach : (a : Bool) (r : Region) → cond (a && false) region.Active r ≡ r
no-reach true r = refl
no-reach false r = refl

pub horizon-below : (next : ℕ) (m : Horizons) (r : Region) → AreHorizons next m → horizon_of m r ≤ next
horizon-below next m region.Start horizons = omega arith
horizon-below next m region.Active horizons = omega arith
horizon-below next m region.Inactive horizons = horizons.inactive
horizon-below next m region.Nonblocking horizons = horizons.nonblocking
horizon-below next m region.Monitor horizons = horizons.monitor

time-kept : (d : Bool) (now : ℕ) (time : Option ℕ) → d ≡ false → time_given d now time ≡ time
time-kept d now None is = rw is refl
time-kept d now (Some t) is = refl

pub new-seen : (now next : ℕ) (m : Horizons) (e : Entry) → next ≤ e.serial → AreHorizons next m → seen now m e ≡ e
new-seen now next m e above horizons =
    let reach = horizon-below next m e.region horizons in
    let dated = horizons.dated in
    ap (λ (t : Option ℕ). (let f : Entry = record e { time = t; region = seen_region now m e } in f))
    (time-kept (nat_lt e.serial m.dated) now e.time (le-ltb e.serial m.dated (omega (arith, above, dated))))
    ∙ ap (λ (b : Bool). (let f : Entry = record e { region = cond (is_at e.time now && b) region.Active e.region } in f))
    (le-ltb e.serial (horizon_of m e.region) (omega (arith, above, reach)))
    ∙ ap (λ (r : Region). (let f : Entry = record e { region = r } in f)) (no-reach (is_at e.time now) e.region)

-- A region that is made active.
with-dated : (r : Region) (next : ℕ) (m : Horizons) → (with_horizon r next m).dated ≡ m.dated
with-dated region.Start next m = refl
with-dated region.Active next m = refl
with-dated region.Inactive next m = refl
with-dated region.Nonblocking next m = refl
with-dated region.Monitor next m = refl

pub made-seen : (now next : ℕ) (m : Horizons) (r : Region) (e : Entry) → e.serial < next → IsTimely now e → Later r
    → seen now (with_horizon r next m) e ≡ activated_entry r now (seen now m e)
made-seen now next m r e below timely later =
    ap (λ (d : ℕ). (let f : Entry = record e { time = time_given (nat_lt e.serial d) now e.time; region = seen_region now (with_horizon r next m) e } in f)) (with-dated r next m)
    ∙ ap (λ (q : Region). (let f : Entry = record e { time = time_given (nat_lt e.serial m.dated) now e.time; region = q } in f))
    (made-region now next m (is_at e.time now) e.region r e.serial below later
    ∙ ap (λ (b : Bool). cond b region.Active (seen_region now m e)) (sym (due-is now next m r e below timely later)))
    ∙ sym (region-if (is_due r now (seen now m e)) (seen now m e))

pub with-horizons : (r : Region) (next : ℕ) (m : Horizons) → AreHorizons next m → AreHorizons next (with_horizon r next m)
with-horizons region.Start next m horizons = horizons
with-horizons region.Active next m horizons = horizons
with-horizons region.Inactive next m horizons =
    record { inactive = omega arith; nonblocking = horizons.nonblocking; monitor = horizons.monitor; dated = horizons.dated }
with-horizons region.Nonblocking next m horizons =
    record { inactive = horizons.inactive; nonblocking = omega arith; monitor = horizons.monitor; dated = horizons.dated }
with-horizons region.Monitor next m horizons =
    record { inactive = horizons.inactive; nonblocking = horizons.nonblocking; monitor = omega arith; dated = horizons.dated }

-- Time that goes on to the same time,
same-horizons : (gives : Bool) (next : ℕ) (m : Horizons) (r : Region) → horizon_of (horizons_at true gives next m) r ≡ horizon_of (with_horizon region.Inactive next m) r
same-horizons gives next m region.Start = refl
same-horizons gives next m region.Active = refl
same-horizons gives next m region.Inactive = refl
same-horizons gives next m region.Nonblocking = refl
same-horizons gives next m region.Monitor = refl

time-again : (gives : Bool) (now s next dated : ℕ) (time : Option ℕ) → s < next
    → time_given (nat_lt s (cond gives next dated)) now time ≡ time_given gives now (time_given (nat_lt s dated) now time)
time-again true now s next dated None below = rw (lt-ltb s next below) (once (nat_lt s dated))
  where
    once : (d : Bool) → Some now ≡ time_given true now (cond d (Some now) None)
    once true = refl
    once false = refl
time-again false now s next dated None below = once (nat_lt s dated)
  where
    once : (d : Bool) → cond d (Some now) None ≡ time_given false now (cond d (Some now) None)
    once true = refl
    once false = refl
time-again gives now s next dated (Some t) below = refl

pub stays-seen : (now next : ℕ) (m : Horizons) (gives : Bool) (e : Entry) → e.serial < next → IsTimely now e
    → seen now (horizons_at true gives next m) e ≡ arrived gives now (seen now m e)
stays-seen now next m gives e below timely =
    ap (λ (k : ℕ). (let f : Entry = record e {
      time = time_given (nat_lt e.serial (cond gives next m.dated)) now e.time;
      region = cond (is_at e.time now && nat_lt e.serial k) region.Active e.region;
    } in f)) (same-horizons gives next m e.region)
    ∙ ap (λ (t : Option ℕ). (let f : Entry = record e { time = t; region = seen_region now (with_horizon region.Inactive next m) e } in f))
    (time-again gives now e.serial next m.dated e.time below)
    ∙ ap (λ (x : Entry). (let f : Entry = record x { time = time_given gives now x.time } in f)) (made-seen now next m region.Inactive e below timely (inactive refl))

-- And to a later one, where no entry of the present time stands.
later-region : (a : Bool) (s next : ℕ) (m : Horizons) (gives : Bool) (r : Region) → s < next
    → cond (a && nat_lt s (horizon_of (horizons_at false gives next m) r)) region.Active r ≡ cond (a && rank r == 2) region.Active r
later-region a s next m gives region.Start below = rw (le-ltb s 0 (omega arith)) refl
later-region a s next m gives region.Active below = rw (le-ltb s 0 (omega arith)) refl
later-region a s next m gives region.Inactive below = rw (lt-ltb s next below) refl
later-region a s next m gives region.Nonblocking below = rw (le-ltb s 0 (omega arith)) refl
later-region a s next m gives region.Monitor below = rw (le-ltb s 0 (omega arith)) refl

later-time : (gives : Bool) (t s next dated : ℕ) (time : Option ℕ) → s < next → (has_none time ≡ true → nat_lt s dated ≡ false)
    → time_given (nat_lt s (cond gives next dated)) t time ≡ time_given gives t time
later-time true t s next dated None below undated = rw (lt-ltb s next below) refl
later-time false t s next dated None below undated = rw (undated refl) refl
later-time gives t s next dated (Some u) below undated = refl

pub goes-seen : (now next t : ℕ) (m : Horizons) (gives : Bool) (e : Entry) → e.serial < next → seen now m e ≡ e
    → (has_none e.time ≡ true → nat_lt e.serial m.dated ≡ false)
    → seen t (horizons_at false gives next m) e ≡ arrived gives t (seen now m e)
goes-seen now next t m gives e below same undated =
    ap (λ (r : Region). (let f : Entry = record e { time = time_given (nat_lt e.serial (cond gives next m.dated)) t e.time; region = r } in f))
    (later-region (is_at e.time t) e.serial next m gives e.region below)
    ∙ ap (λ (o : Option ℕ). (let f : Entry = record e { time = o; region = cond (is_due region.Inactive t e) region.Active e.region } in f))
    (later-time gives t e.serial next m.dated e.time below undated)
    ∙ ap (λ (x : Entry). (let f : Entry = record x { time = time_given gives t x.time } in f)) (sym (region-if (is_due region.Inactive t e) e))
    ∙ ap (λ (x : Entry). arrived gives t x) (sym same)

-- An entry that is seen later than the present time was neither made active nor given a time.
unmade : (now t s k : ℕ) (time : Option ℕ) (r : Region) → now < t → IsFrom t time → cond (is_at time now && nat_lt s k) region.Active r ≡ r
unmade now t s k None r later from = refl
unmade now t s k (Some u) r later from = rw (ne_eqb u now (λ same. omega (arith, later, from, same))) refl

ungiven : (now t : ℕ) (d : Bool) (time : Option ℕ) → now < t → IsFrom t (time_given d now time) → has_none time ≡ true → d ≡ false
ungiven now t true None later from is = absurd (omega (arith, later, from))
ungiven now t false None later from is = refl
ungiven now t d (Some u) later from is = absurd (cc)

from-stored : (now t : ℕ) (d : Bool) (time : Option ℕ) → IsFrom t (time_given d now time) → IsFrom t time
from-stored now t d None from = tt
from-stored now t d (Some u) from = from

still : (now t : ℕ) (d : Bool) (time : Option ℕ) → now < t → IsFrom t (time_given d now time) → time_given d now time ≡ time
still now t true None later from = absurd (omega (arith, later, from))
still now t false None later from = refl
still now t d (Some u) later from = refl

pub later-seen : (now t : ℕ) (m : Horizons) (e : Entry) → now < t → IsFrom t (seen now m e).time → seen now m e ≡ e
later-seen now t m e later from =
    ap (λ (o : Option ℕ). (let f : Entry = record e { time = o; region = seen_region now m e } in f)) (still now t (nat_lt e.serial m.dated) e.time later from)
    ∙ ap (λ (r : Region). (let f : Entry = record e { region = r } in f))
    (unmade now t e.serial (horizon_of m e.region) e.time e.region later (from-stored now t (nat_lt e.serial m.dated) e.time from))

pub all-go : (now low next t : ℕ) (m : Horizons) (gives : Bool) (es : List Entry) → Rises low next es → now < t → AreFrom t (all_seen now m es)
    → all_seen t (horizons_at false gives next m) es ≡ map (arrived gives t) (all_seen now m es)
all-go now low next t m gives [] rises later from = refl
all-go now low next t m gives (e ∷ es) rises later from =
    let bound = rises-empty (e.serial + 1) next es rises.1 in
    rw (
      goes-seen now next t m gives e (omega (arith, bound)) (later-seen now t m e later from.0) (ungiven now t (nat_lt e.serial m.dated) e.time later from.0),
      all-go now (e.serial + 1) next t m gives es rises.1 later from.1,
    ) refl

pub all-stay : (now low next : ℕ) (m : Horizons) (gives : Bool) (es : List Entry) → Rises low next es → AreTimely now es
    → all_seen now (horizons_at true gives next m) es ≡ map (arrived gives now) (all_seen now m es)
all-stay now low next m gives [] rises timely = refl
all-stay now low next m gives (e ∷ es) rises timely =
    let bound = rises-empty (e.serial + 1) next es rises.1 in
    rw (stays-seen now next m gives e (omega (arith, bound)) timely.0, all-stay now (e.serial + 1) next m gives es rises.1 timely.1) refl

pub all-made : (now low next : ℕ) (m : Horizons) (r : Region) (es : List Entry) → Rises low next es → AreTimely now es → Later r
    → all_seen now (with_horizon r next m) es ≡ map (activated_entry r now) (all_seen now m es)
all-made now low next m r [] rises timely later = refl
all-made now low next m r (e ∷ es) rises timely later =
    let bound = rises-empty (e.serial + 1) next es rises.1 in
    rw (made-seen now next m r e (omega (arith, bound)) timely.0 later, all-made now (e.serial + 1) next m r es rises.1 timely.1 later) refl

-- What stands may stand at the later time.
present-later : (now t : ℕ) (r : Region) (time : Option ℕ) → now ≤ t → IsFrom t time → IsPresent r now time → IsPresent r t time
present-later now t region.Start time below from present = tt
present-later now t region.Active time below from present =
    let at : t ≤ now = subst (λ (o : Option ℕ). IsFrom t o) present from in present ∙ ap Some (omega (arith, at, below))
present-later now t region.Inactive time below from present = tt
present-later now t region.Nonblocking time below from present = tt
present-later now t region.Monitor time below from present = tt

pub timely-later : (now t : ℕ) (m : Horizons) (es : List Entry) → now ≤ t → AreFrom t (all_seen now m es) → AreTimely now es → AreTimely t es
timely-later now t m [] below from timely = tt
timely-later now t m (e ∷ es) below from timely =
    let stored : IsFrom t e.time = from-stored now t (nat_lt e.serial m.dated) e.time from.0 in (
      record { from = stored; present = present-later now t e.region e.time below stored timely.0.present; timed = timely.0.timed },
      timely-later now t m es below from.1 timely.1,
    )

-- The least time isn't before the present one.
pub seen-from : (now : ℕ) (m : Horizons) (es : List Entry) → AreTimely now es → AreFrom now (all_seen now m es)
seen-from now m [] timely = tt
seen-from now m (e ∷ es) timely = (by_time (nat_lt e.serial m.dated) e.time timely.0.from, seen-from now m es timely.1)
  where
    by_time : (d : Bool) (time : Option ℕ) → IsFrom now time → IsFrom now (time_given d now time)
    by_time true None from = omega arith
    by_time false None from = tt
    by_time d (Some t) from = from

pub at-horizons : (same gives : Bool) (next : ℕ) (m : Horizons) → AreHorizons next m → AreHorizons next (horizons_at same gives next m)
at-horizons same gives next m horizons = record {
  inactive = omega arith;
  nonblocking = either same m.nonblocking 0 horizons.nonblocking (omega arith);
  monitor = either same m.monitor 0 horizons.monitor (omega arith);
  dated = either gives next m.dated (omega arith) horizons.dated;
}
  where
    either : (b : Bool) (x y : ℕ) → x ≤ next → y ≤ next → cond b x y ≤ next
    either true x y one other = one
    either false x y one other = other

-- The entries by their serials: one more, and one less.
pub values-are : (es : List Entry) → values_of (by_serial es) ≡ es
values-are [] = refl
values-are (e ∷ es) = ap (λ (t : List Entry). e ∷ t) (values-are es)

pub insert-last : (low next : ℕ) (e : Entry) (es : List Entry) → Rises low next es → e.serial ≡ next
    → insert_entry nat_cmp (by_serial es) next e ≡ by_serial (es ++ e ∷ [])
insert-last low next e [] rises at = ap (λ (n : ℕ). (n, e) ∷ []) (sym at)
insert-last low next e (f ∷ es) rises at =
    let bound = rises-empty (f.serial + 1) next es rises.1 in
    rw (le-ltb next f.serial (omega (arith, bound)), ne_eqb next f.serial (λ same. omega (arith, bound, same)))
    (ap (λ (t : List (ℕ × Entry)). (f.serial, f) ∷ t) (insert-last (f.serial + 1) next e es rises.1 at))

key-is : (s n : ℕ) → is_key (nat_cmp s) n ≡ (n == s)
key-is s n = grind (arith, nat_tests)

pub none-at : (s low high : ℕ) (es : List Entry) → s < low → Rises low high es → filter (λ e. not (e.serial == s)) es ≡ es
none-at s low high [] below rises = refl
none-at s low high (e ∷ es) below rises =
    let h = rises.0 in
    rw (ne_eqb e.serial s (λ same. omega (arith, h, below, same))) (ap (λ (t : List Entry). e ∷ t) (none-at s (e.serial + 1) high es (omega (arith, h, below)) rises.1))

pub remove-is : (s low high : ℕ) (es : List Entry) → Rises low high es
    → remove_entry (is_key (nat_cmp s)) (by_serial es) ≡ by_serial (filter (λ e. not (e.serial == s)) es)
remove-is s low high [] rises = refl
remove-is s low high (e ∷ es) rises = rw (key-is s e.serial) (by_test (e.serial == s) refl (remove-is s (e.serial + 1) high es rises.1))
  where
    by_test : (b : Bool) → (e.serial == s) ≡ b → remove_entry (is_key (nat_cmp s)) (by_serial es) ≡ by_serial (filter (λ e. not (e.serial == s)) es)
        → cond b (by_serial es) ((e.serial, e) ∷ remove_entry (is_key (nat_cmp s)) (by_serial es))
        ≡ by_serial (cond (not b) (e ∷ filter (λ e. not (e.serial == s)) es) (filter (λ e. not (e.serial == s)) es))
    by_test true at rest =
        let same : e.serial ≡ s = eqb-true e.serial s at in
        ap by_serial (sym (none-at s (e.serial + 1) high es (omega (arith, same)) rises.1))
    by_test false at rest = ap (λ (t : List (ℕ × Entry)). (e.serial, e) ∷ t) rest

pub lookup-is : (s : ℕ) (es : List Entry) → lookup (is_key (nat_cmp s)) (by_serial es) ≡ find (λ e. e.serial == s) es
lookup-is s [] = refl
lookup-is s (e ∷ es) = rw (key-is s e.serial, lookup-is s es) refl

-- The entry of a serial, and the others, as they are seen.
pub found-serial : (s : ℕ) (es : List Entry) (e : Entry) → find (λ f. f.serial == s) es ≡ Some e → e.serial ≡ s
found-serial s [] e is = absurd (cc)
found-serial s (f ∷ es) e is = by_test (f.serial == s) refl is (found-serial s es e)
  where
    by_test : (b : Bool) → (f.serial == s) ≡ b → cond b (Some f) (find (λ f. f.serial == s) es) ≡ Some e
        → (find (λ f. f.serial == s) es ≡ Some e → e.serial ≡ s) → e.serial ≡ s
    by_test true at found rest = let same : f ≡ e = cc in ap (λ (x : Entry). x.serial) (sym same) ∙ eqb-true f.serial s at
    by_test false at found rest = rest found

pub seen-find : (now s : ℕ) (m : Horizons) (es : List Entry)
    → find (λ e. e.serial == s) (all_seen now m es) ≡ option_map (seen now m) (find (λ e. e.serial == s) es)
seen-find now s m [] = refl
seen-find now s m (e ∷ es) = by_test (e.serial == s) (seen-find now s m es)
  where
    by_test : (b : Bool) → find (λ e. e.serial == s) (all_seen now m es) ≡ option_map (seen now m) (find (λ e. e.serial == s) es)
        → cond b (Some (seen now m e)) (find (λ e. e.serial == s) (all_seen now m es))
        ≡ option_map (seen now m) (cond b (Some e) (find (λ e. e.serial == s) es))
    by_test true rest = refl
    by_test false rest = rest

pub seen-without : (now s : ℕ) (m : Horizons) (es : List Entry)
    → filter (λ e. not (e.serial == s)) (all_seen now m es) ≡ all_seen now m (filter (λ e. not (e.serial == s)) es)
seen-without now s m [] = refl
seen-without now s m (e ∷ es) = by_test (not (e.serial == s)) (seen-without now s m es)
  where
    by_test : (b : Bool) → filter (λ e. not (e.serial == s)) (all_seen now m es) ≡ all_seen now m (filter (λ e. not (e.serial == s)) es)
        → cond b (seen now m e ∷ filter (λ e. not (e.serial == s)) (all_seen now m es)) (filter (λ e. not (e.serial == s)) (all_seen now m es))
        ≡ all_seen now m (cond b (e ∷ filter (λ e. not (e.serial == s)) es) (filter (λ e. not (e.serial == s)) es))
    by_test true rest = ap (λ (t : List Entry). seen now m e ∷ t) rest
    by_test false rest = rest

-- How many pass a test without the entry of a serial.
pub count-without : (p : Entry → Bool) (now s low high : ℕ) (m : Horizons) (es : List Entry) (e : Entry) → Rises low high es
    → find (λ f. f.serial == s) es ≡ Some e
    → length (filter p (all_seen now m (filter (λ f. not (f.serial == s)) es))) + cond (p (seen now m e)) 1 0
    ≡ length (filter p (all_seen now m es))
count-without p now s low high m [] e rises is = absurd (cc)
count-without p now s low high m (f ∷ es) e rises is =
    by_test (f.serial == s) refl is (count-without p now s (f.serial + 1) high m es e rises.1)
  where
    size : List Entry → ℕ
    size xs = length (filter p (all_seen now m xs))

    kept : (b : Bool) (n k : ℕ) → n + k ≡ size es → length (cond b (seen now m f ∷ filter p (all_seen now m es)) (filter p (all_seen now m es))) ≡ cond b 1 0 + (n + k)
    kept true n k is = omega (arith, is)
    kept false n k is = omega (arith, is)

    more : (b : Bool) (xs : List Entry) → length (cond b (seen now m f ∷ filter p (all_seen now m xs)) (filter p (all_seen now m xs))) ≡ size xs + cond b 1 0
    more true xs = omega arith
    more false xs = omega arith

    by_test : (b : Bool) → (f.serial == s) ≡ b → cond b (Some f) (find (λ f. f.serial == s) es) ≡ Some e
        → (find (λ f. f.serial == s) es ≡ Some e → size (filter (λ f. not (f.serial == s)) es) + cond (p (seen now m e)) 1 0 ≡ size es)
        → size (cond (not b) (f ∷ filter (λ f. not (f.serial == s)) es) (filter (λ f. not (f.serial == s)) es)) + cond (p (seen now m e)) 1 0
        ≡ size (f ∷ es)
    by_test true at found rest =
        let same : f ≡ e = cc in
        let serial : f.serial ≡ s = eqb-true f.serial s at in
        ap (λ (xs : List Entry). size xs + cond (p (seen now m e)) 1 0) (none-at s (f.serial + 1) high es (omega (arith, serial)) rises.1)
        ∙ ap (λ (x : Entry). size es + cond (p (seen now m x)) 1 0) (sym same)
        ∙ sym (more (p (seen now m f)) es)
    by_test false at found rest =
        let h = rest found in
        let one = more (p (seen now m f)) (filter (λ f. not (f.serial == s)) es) in
        let other = more (p (seen now m f)) es in omega (arith, h, one, other)

-- How many pass with one more.
pub count-more : (p : Entry → Bool) (now next : ℕ) (m : Horizons) (es : List Entry) (e : Entry) → seen now m e ≡ e
    → length (filter p (all_seen now m (es ++ e ∷ []))) ≡ length (filter p (all_seen now m es)) + cond (p e) 1 0
count-more p now next m [] e same = rw same (by_test (p e))
  where
    by_test : (b : Bool) → length (cond b (e ∷ []) []) ≡ 0 + cond b 1 0
    by_test true = refl
    by_test false = refl
count-more p now next m (f ∷ es) e same = by_test (p (seen now m f)) (count-more p now next m es e same)
  where
    by_test : (b : Bool) → length (filter p (all_seen now m (es ++ e ∷ []))) ≡ length (filter p (all_seen now m es)) + cond (p e) 1 0
        → length (cond b (seen now m f ∷ filter p (all_seen now m (es ++ e ∷ []))) (filter p (all_seen now m (es ++ e ∷ []))))
        ≡ length (cond b (seen now m f ∷ filter p (all_seen now m es)) (filter p (all_seen now m es))) + cond (p e) 1 0
    by_test true rest = omega (arith, rest)
    by_test false rest = rest

pub seen-more : (now : ℕ) (m : Horizons) (es : List Entry) (e : Entry) → seen now m e ≡ e → all_seen now m (es ++ e ∷ []) ≡ all_seen now m es ++ e ∷ []
seen-more now m [] e same = rw same refl
seen-more now m (f ∷ es) e same = ap (λ (t : List Entry). seen now m f ∷ t) (seen-more now m es e same)

pub timely-more : (now : ℕ) (es : List Entry) (e : Entry) → AreTimely now es → IsTimely now e → AreTimely now (es ++ e ∷ [])
timely-more now [] e timely here = (here, tt)
timely-more now (f ∷ es) e timely here = (timely.0, timely-more now es e timely.1 here)

-- What holds of entries holds of them by their serials.
pub holds-of : (next now due plain : ℕ) (m : Horizons) (es : List Entry) (pairs : List (ℕ × Entry)) (x : Index) → pairs ≡ by_serial es
    → Rises 1 next es → AreTimely now es → Indexes es x → AreHorizons next m
    → due ≡ length (filter (is_due region.Start now) (all_seen now m es))
    → plain ≡ length (filter (is_active_of false) (all_seen now m es)) → length es ≤ MOST_ENTRIES
    → Holds next now m due plain pairs x
holds-of next now due plain m es pairs x is rises timely indexed horizons starts ready size =
    let same : values_of pairs ≡ es = ap values_of is ∙ values-are es in record {
      keyed = is ∙ ap by_serial (sym same);
      rises = subst (λ (xs : List Entry). Rises 1 next xs) (sym same) rises;
      timely = subst (λ (xs : List Entry). AreTimely now xs) (sym same) timely;
      indexed = subst (λ (xs : List Entry). Indexes xs x) (sym same) indexed;
      horizons = horizons;
      starts = starts ∙ ap (λ (xs : List Entry). length (filter (is_due region.Start now) (all_seen now m xs))) (sym same);
      ready = ready ∙ ap (λ (xs : List Entry). length (filter (is_active_of false) (all_seen now m xs))) (sym same);
      size = (let e : length pairs ≡ length es = ap length is ∙ pairs-length es in omega (arith, e, size));
    }
  where
    pairs-length : (xs : List Entry) → length (by_serial xs) ≡ length xs
    pairs-length [] = refl
    pairs-length (y ∷ ys) = ap suc (pairs-length ys)

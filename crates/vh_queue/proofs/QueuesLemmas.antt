-- Lemmas that the functions of a queue cite: each change keeps what holds inside, and each look finds what is seen.
use Rattle.std.proofs.Common.{◌≡◌, ◌∙◌, ℕ, zero, suc, ◌+◌, ◌<◌, ◌≤◌, ◌^◌, List, [], ◌∷◌, ◌++◌, map, filter, length, Bool, true, false, not, ◌&&◌, ◌||◌, ◌==◌, cond, nat_lt, nat_le, Option, Some, None, Result, Ok, Err, slice_get, refl, sym, ap, subst, arith}
use Rattle.std.proofs.lemmas.Bool.{le-ltb, lt-ltb, ne_eqb, leb-false, ltb-true, ltb-false, or_parts, eq-eqb}
use Rattle.std.proofs.lemmas.List.{length-append}
use Rattle.std.specs.BTreeMap.{is_at as is_key, insert_entry}
use Rattle.std.specs.BTreeSet.{BTreeSet}
use Rattle.std.specs.List.{list_any, find, All}
use Rattle.std.specs.List.Sorted.{IsStrictlySortedBy}
use Rattle.std.specs.Map.{keys_of, values_of, remove_entry, lookup}
use Rattle.std.specs.Option.{option_map, is_some, IfSome, IfNone}
use Rattle.std.specs.Result.{is_err, OnOk, OnErr}
use Rattle.std.specs.Ordering.{nat_cmp}
use Rattle.vh_base.specs.declared.limits.TheConstants.{MOST_ENTRIES, MOST_NUMBERS}
use Rattle.vh_queue.specs.declared.entry.Entry.{Entry}
use Rattle.vh_queue.specs.declared.index.Index.{Index}
use Rattle.vh_queue.specs.declared.horizons.Horizons.{Horizons}
use Rattle.vh_queue.specs.declared.key.Key.{Key}
use Rattle.vh_queue.specs.declared.region.Region.TheVariants as region
use Rattle.vh_queue.specs.Entries.{is_update, is_due, is_active, IsFrom}
use Rattle.vh_queue.specs.Events.{Events, is_ready, eligible, any_due, work_of, is_full, earlier_of, least_time, arrived, Rises}
use Rattle.vh_queue.specs.Lanes.{count_four, count_start}
use Rattle.vh_queue.specs.Ranked.{is_of, Indexes, Entered, Left, StaysSorted, IsSame, dated_in, AreRanked, AreUntimed, IsLeastTime}
use Rattle.vh_queue.specs.Serials.{least_serial, greatest_serial, later_of, last_of, is_above, is_active_of, picked_by}
use Rattle.vh_queue.specs.Views.{horizons_at, seen, all_seen, by_serial, IsTimely, AreTimely, AreHorizons, Holds}
use Rattle.vh_queue.proofs.EventsLemmas.{rises-filter, rises-map, rises-empty, rises-added}
use Rattle.vh_queue.proofs.RankedLemmas.{index-entered, index-same, index-left, dated-is}
use Rattle.vh_queue.proofs.SerialsLemmas.{serials, first-least, last-greatest, ready-length, ready-least, ready-greatest, any-least, behind-is}
use Rattle.vh_queue.proofs.HoldsLemmas.{Keeps, timely-filter, active-length, start-length}
use Rattle.vh_queue.proofs.TimesLemmas.{AreFrom, least-all, times-none, times-least, times-seen, dated_by}
use Rattle.vh_queue.proofs.ChangesLemmas.{new-seen, all-go, all-stay, timely-later, seen-from, values-are, insert-last, remove-is, lookup-is, found-serial, seen-find, seen-without, count-without, count-more, seen-more, timely-more, holds-of}

-- What an index holds of each kind.
module _ (next now due ready : ℕ) (m : Horizons) (pairs : List (ℕ × Entry)) (x : Index) (h : Holds next now m due ready pairs x) where
  pub keeps-plain : Keeps false next now (values_of pairs) x.plain
  keeps-plain = record { rises = h.rises; timely = h.timely; sorted = h.indexed.plain_sorted; are = h.indexed.plain }

  pub keeps-updates : Keeps true next now (values_of pairs) x.updates
  keeps-updates = record { rises = h.rises; timely = h.timely; sorted = h.indexed.updates_sorted; are = h.indexed.updates }

  pub rises-seen : Rises 1 next (all_seen now m (values_of pairs))
  rises-seen = rises-map (seen now m) (λ e. refl) 1 next (values_of pairs) h.rises

-- One entry more.
pub holds-added : (next now due ready : ℕ) (m : Horizons) (pairs more : List (ℕ × Entry)) (x y : Index) (e : Entry)
    → Holds next now m due ready pairs x → e.serial ≡ next → IsTimely now e → length pairs < MOST_ENTRIES
    → more ≡ insert_entry nat_cmp pairs next e → Entered e x y → StaysSorted x y
    → Holds (next + 1) now m (due + cond (is_due region.Start now e) 1 0) (ready + cond (is_active_of false e) 1 0) more y
holds-added next now due ready m pairs more x y e h at timely room is entered stays =
    let es : List Entry = values_of pairs in
    let same : seen now m e ≡ e = new-seen now next m e (omega (arith, at)) h.horizons in
    let bound = h.horizons in
    let a = bound.inactive in let b = bound.nonblocking in let c = bound.monitor in let d = bound.dated in
    let size : length pairs ≡ length es = length-values pairs in
    holds-of (next + 1) now (due + cond (is_due region.Start now e) 1 0) (ready + cond (is_active_of false e) 1 0) m (es ++ e ∷ []) more y
    (is ∙ ap (λ (ps : List (ℕ × Entry)). insert_entry nat_cmp ps next e) h.keyed ∙ insert-last 1 next e es h.rises at)
    (rises-more 1 next es e at h.rises) (timely-more now es e h.timely timely) (index-entered e es x y entered stays h.indexed)
    (record { inactive = omega (arith, a); nonblocking = omega (arith, b); monitor = omega (arith, c); dated = omega (arith, d) })
    (ap (λ (n : ℕ). n + cond (is_due region.Start now e) 1 0) h.starts ∙ sym (count-more (is_due region.Start now) now next m es e same))
    (ap (λ (n : ℕ). n + cond (is_active_of false e) 1 0) h.ready ∙ sym (count-more (is_active_of false) now next m es e same))
    (let n = length-append es (e ∷ []) in omega (arith, n, size, room))
  where
    length-values : (ps : List (ℕ × Entry)) → length ps ≡ length (values_of ps)
    length-values [] = refl
    length-values (p ∷ ps) = ap suc (length-values ps)

    rises-more : (low high : ℕ) (es : List Entry) (e : Entry) → e.serial ≡ high → Rises low high es → Rises low (high + 1) (es ++ e ∷ [])
    rises-more low high es e at rises = rw (← at) (rises-added e.time e.region e.work low e.serial es (rw at rises))

-- An entry more by its serial stands last.
pub inserted : (next : ℕ) (e : Entry) (pairs : List (ℕ × Entry)) → pairs ≡ by_serial (values_of pairs) → Rises 1 next (values_of pairs)
    → e.serial ≡ next → pairs ++ (next, e) ∷ [] ≡ insert_entry nat_cmp pairs next e
inserted next e pairs keyed rises at =
    ap (λ (ps : List (ℕ × Entry)). ps ++ (next, e) ∷ []) keyed ∙ behind (values_of pairs)
    ∙ sym (insert-last 1 next e (values_of pairs) rises at) ∙ ap (λ (ps : List (ℕ × Entry)). insert_entry nat_cmp ps next e) (sym keyed)
  where
    behind : (es : List Entry) → by_serial es ++ (next, e) ∷ [] ≡ by_serial (es ++ e ∷ [])
    behind [] = ap (λ (n : ℕ). (n, e) ∷ []) (sym at)
    behind (f ∷ es) = ap (λ (t : List (ℕ × Entry)). (f.serial, f) ∷ t) (behind es)

-- All stand below the next serial.
pub all-below : (next : ℕ) (pairs : List (ℕ × Entry)) → pairs ≡ by_serial (values_of pairs) → Rises 1 next (values_of pairs)
    → All (λ n. n < next) (keys_of pairs)
all-below next pairs keyed rises = subst (λ (ps : List (ℕ × Entry)). All (λ n. n < next) (keys_of ps)) (sym keyed) (below 1 (values_of pairs) rises)
  where
    below : (low : ℕ) (es : List Entry) → Rises low next es → All (λ n. n < next) (keys_of (by_serial es))
    below low [] rises k d within = absurd (omega (arith, within))
    below low (e ∷ es) rises zero d within = let h = rises-empty (e.serial + 1) next es rises.1 in omega (arith, h)
    below low (e ∷ es) rises (suc k) d within = below (e.serial + 1) es rises.1 k d (omega (arith, within))

-- An entry that couldn't be entered.
pub insert-undone : (next : ℕ) (e : Entry) (pairs more less : List (ℕ × Entry)) → pairs ≡ by_serial (values_of pairs) → Rises 1 next (values_of pairs)
    → e.serial ≡ next → more ≡ insert_entry nat_cmp pairs next e → less ≡ remove_entry (is_key (nat_cmp next)) more → less ≡ pairs
insert-undone next e pairs more less keyed rises at is then =
    let es : List Entry = values_of pairs in
    let all : more ≡ by_serial (es ++ e ∷ []) = is ∙ ap (λ (ps : List (ℕ × Entry)). insert_entry nat_cmp ps next e) keyed ∙ insert-last 1 next e es rises at in
    then ∙ ap (remove_entry (is_key (nat_cmp next))) all ∙ undone 1 es rises ∙ sym keyed
  where
    undone : (low : ℕ) (es : List Entry) → Rises low next es → remove_entry (is_key (nat_cmp next)) (by_serial (es ++ e ∷ [])) ≡ by_serial es
    undone low [] r = rw (at, itself next) refl
      where
        itself : (n : ℕ) → is_key (nat_cmp n) n ≡ true
        itself n = rw (le-ltb n n (omega arith), eq-eqb n n refl) refl
    undone low (f ∷ es) r =
        let bound = rises-empty (f.serial + 1) next es r.1 in
        rw (le-ltb next f.serial (omega (arith, bound)), ne_eqb next f.serial (λ same. omega (arith, bound, same)))
        (ap (λ (t : List (ℕ × Entry)). (f.serial, f) ∷ t) (undone (f.serial + 1) es r.1))

-- Where a serial has none, nothing goes.
pub none-removed : (s : ℕ) (pairs : List (ℕ × Entry)) → lookup (is_key (nat_cmp s)) pairs ≡ None → remove_entry (is_key (nat_cmp s)) pairs ≡ pairs
none-removed s [] is = refl
none-removed s (p ∷ ps) is = by_test (is_key (nat_cmp s) p.0) is (none-removed s ps)
  where
    by_test : (b : Bool) → cond b (Some p.1) (lookup (is_key (nat_cmp s)) ps) ≡ None
        → (lookup (is_key (nat_cmp s)) ps ≡ None → remove_entry (is_key (nat_cmp s)) ps ≡ ps)
        → cond b ps (p ∷ remove_entry (is_key (nat_cmp s)) ps) ≡ p ∷ ps
    by_test true found rest = absurd (cc)
    by_test false found rest = ap (λ (t : List (ℕ × Entry)). p ∷ t) (rest found)

-- One entry less.
pub holds-taken : (next now due ready s fewer less : ℕ) (m : Horizons) (pairs rest : List (ℕ × Entry)) (x y : Index) (e : Entry)
    → Holds next now m due ready pairs x → lookup (is_key (nat_cmp s)) pairs ≡ Some e → rest ≡ remove_entry (is_key (nat_cmp s)) pairs
    → Left e x y → StaysSorted x y
    → fewer + cond (is_due region.Start now (seen now m e)) 1 0 ≡ due → less + cond (is_active_of false (seen now m e)) 1 0 ≡ ready
    → Holds next now m fewer less rest y
holds-taken next now due ready s fewer less m pairs rest x y e h there is left stays starts plain =
    let es : List Entry = values_of pairs in
    let found : find (λ (f : Entry). f.serial == s) es ≡ Some e = sym (lookup-is s es) ∙ ap (lookup (is_key (nat_cmp s))) (sym h.keyed) ∙ there in
    let kept : List Entry = filter (λ (f : Entry). not (f.serial == s)) es in
    let one = count-without (is_due region.Start now) now s 1 next m es e h.rises found in
    let other = count-without (is_active_of false) now s 1 next m es e h.rises found in
    let due_is = h.starts in let ready_is = h.ready in
    holds-of next now fewer less m kept rest y
    (is ∙ ap (remove_entry (is_key (nat_cmp s))) h.keyed ∙ remove-is s 1 next es h.rises)
    (rises-filter (λ (f : Entry). not (f.serial == s)) 1 next es h.rises) (timely-filter (λ (f : Entry). not (f.serial == s)) now es h.timely)
    (index-left s 1 next es e x y h.rises found (found-serial s es e found) left stays h.indexed) h.horizons
    (omega (arith, one, due_is, starts)) (omega (arith, other, ready_is, plain))
    (let shorter = filter-shorter es in let size = h.size in let n = length-values pairs in omega (arith, shorter, size, n))
  where
    length-values : (ps : List (ℕ × Entry)) → length ps ≡ length (values_of ps)
    length-values [] = refl
    length-values (p ∷ ps) = ap suc (length-values ps)

    filter-shorter : (xs : List Entry) → length (filter (λ (f : Entry). not (f.serial == s)) xs) ≤ length xs
    filter-shorter [] = omega arith
    filter-shorter (f ∷ xs) = by_test (not (f.serial == s)) (filter-shorter xs)
      where
        by_test : (b : Bool) → length (filter (λ (f : Entry). not (f.serial == s)) xs) ≤ length xs
            → length (cond b (f ∷ filter (λ (f : Entry). not (f.serial == s)) xs) (filter (λ (f : Entry). not (f.serial == s)) xs)) ≤ suc (length xs)
        by_test true rest = omega (arith, rest)
        by_test false rest = omega (arith, rest)

-- A region that is made active, and time that goes on.
module _ (next now due ready : ℕ) (m : Horizons) (pairs : List (ℕ × Entry)) (x : Index) (h : Holds next now m due ready pairs x) where
  abbrev stand : List Entry
  stand = values_of pairs

  starts-at : (t : ℕ) (k : Horizons) → AreTimely t stand → count_start t next k x.plain x.updates x.untimed ≡ length (filter (is_due region.Start t) (all_seen t k stand))
  starts-at t k timely =
      start-length next t k stand x.plain x.updates x.untimed
      (record { rises = h.rises; timely = timely; sorted = h.indexed.plain_sorted; are = h.indexed.plain })
      (record { rises = h.rises; timely = timely; sorted = h.indexed.updates_sorted; are = h.indexed.updates })
      h.indexed.untimed_sorted h.indexed.untimed

  ready-at : (t : ℕ) (k : Horizons) → AreTimely t stand → count_four t next k x.plain ≡ length (filter (is_active_of false) (all_seen t k stand))
  ready-at t k timely =
      active-length false next t k stand x.plain (record { rises = h.rises; timely = timely; sorted = h.indexed.plain_sorted; are = h.indexed.plain })

  pub size-of : length stand ≤ MOST_ENTRIES
  size-of = let n = length-values pairs in let size = h.size in omega (arith, n, size)
    where
      length-values : (ps : List (ℕ × Entry)) → length ps ≡ length (values_of ps)
      length-values [] = refl
      length-values (p ∷ ps) = ap suc (length-values ps)

  pub few : (p : Entry → Bool) (t : ℕ) (k : Horizons) → length (filter p (all_seen t k stand)) ≤ MOST_ENTRIES
  few p t k = let s = shorter stand in let n = size-of in omega (arith, s, n)
    where
      shorter : (es : List Entry) → length (filter p (all_seen t k es)) ≤ length es
      shorter [] = omega arith
      shorter (e ∷ es) = by_test (p (seen t k e)) (shorter es)
        where
          by_test : (b : Bool) → length (filter p (all_seen t k es)) ≤ length es
              → length (cond b (seen t k e ∷ filter p (all_seen t k es)) (filter p (all_seen t k es))) ≤ suc (length es)
          by_test true rest = omega (arith, rest)
          by_test false rest = omega (arith, rest)

  pub few-ready : (t : ℕ) (k : Horizons) → AreTimely t stand → count_four t next k x.plain < 2 ^ 32
  few-ready t k timely = let a = ready-at t k timely in let b = few (is_active_of false) t k in omega (arith, a, b)

  pub few-starts : (t : ℕ) (k : Horizons) → AreTimely t stand → count_start t next k x.plain x.updates x.untimed < 2 ^ 32
  few-starts t k timely = let a = starts-at t k timely in let b = few (is_due region.Start t) t k in omega (arith, a, b)

  -- what holds at another time and with other horizons
  pub holds-at : (t : ℕ) (k : Horizons) → AreTimely t stand → AreHorizons next k
      → Holds next t k (count_start t next k x.plain x.updates x.untimed) (count_four t next k x.plain) pairs x
  holds-at t k timely horizons =
      holds-of next t (count_start t next k x.plain x.updates x.untimed) (count_four t next k x.plain) k stand pairs x
      h.keyed h.rises timely h.indexed horizons (starts-at t k timely) (ready-at t k timely) size-of

  -- what is seen once time has gone on to the least time
  pub goes-on : (t : ℕ) (same gives : Bool) → least_time (all_seen now m stand) ≡ Some t → (same ≡ true → t ≡ now) → (same ≡ false → t ≡ now → ⊥)
      → (all_seen t (horizons_at same gives next m) stand ≡ map (arrived gives t) (all_seen now m stand)) × AreTimely t stand
  goes-on t same gives least one other = by_same same one other
    where
      from : AreFrom t (all_seen now m stand)
      from = least-all t (all_seen now m stand) (rw least (omega arith))

      below : now ≤ t
      below = at-least (least_time (all_seen now m stand)) least (from-least (all_seen now m stand) (seen-from now m stand h.timely))
        where
          from-least : (es : List Entry) → AreFrom now es → IsFrom now (least_time es)
          from-least [] f = tt
          from-least (e ∷ es) f = both e.time (least_time es) f.0 (from-least es f.1)
            where
              both : (a b : Option ℕ) → IsFrom now a → IsFrom now b → IsFrom now (earlier_of a b)
              both None b g h = h
              both (Some a) None g h = g
              both (Some a) (Some b) g h = omega (arith, g, h)

          at-least : (o : Option ℕ) → o ≡ Some t → IsFrom now o → now ≤ t
          at-least o is f = subst (λ (p : Option ℕ). IsFrom now p) is f

      timely : AreTimely t stand
      timely = timely-later now t m stand below from h.timely

      by_same : (b : Bool) → (b ≡ true → t ≡ now) → (b ≡ false → t ≡ now → ⊥)
          → (all_seen t (horizons_at b gives next m) stand ≡ map (arrived gives t) (all_seen now m stand)) × AreTimely t stand
      by_same true at differs = let e : t ≡ now = at refl in (rw e (all-stay now 1 next m gives stand h.rises h.timely), timely)
      by_same false at differs = (all-go now 1 next t m gives stand h.rises (after (differs refl)) from, timely)
        where
          after : (t ≡ now → ⊥) → now < t
          after apart = omega (arith, below, apart)

-- What may be picked is what is due at the start, or else what is ready.
some-of : (p : Entry → Bool) (es : List Entry) → list_any p es ≡ nat_lt 0 (length (filter p es))
some-of p [] = refl
some-of p (e ∷ es) = by_test (p e) (some-of p es)
  where
    by_test : (b : Bool) → list_any p es ≡ nat_lt 0 (length (filter p es)) → (b || list_any p es) ≡ nat_lt 0 (length (cond b (e ∷ filter p es) (filter p es)))
    by_test true rest = sym (lt-ltb 0 (suc (length (filter p es))) (omega arith))
    by_test false rest = rest

pick-by : (q : Events) (b : Bool) → any_due region.Start q ≡ b
    → eligible q ≡ filter (λ e. cond b (is_due region.Start q.time e) (is_ready q.entries e)) q.entries
pick-by q b is = ap (λ (c : Bool). filter (λ e. cond c (is_due region.Start q.time e) (is_ready q.entries e)) q.entries) is

pub starts-eligible : (q : Events) → 0 < length (filter (is_due region.Start q.time) q.entries) → eligible q ≡ filter (is_due region.Start q.time) q.entries
starts-eligible q some =
    pick-by q true (some-of (is_due region.Start q.time) q.entries ∙ lt-ltb 0 (length (filter (is_due region.Start q.time) q.entries)) some)

pub ready-eligible : (q : Events) → length (filter (is_due region.Start q.time) q.entries) ≡ 0 → eligible q ≡ filter (is_ready q.entries) q.entries
ready-eligible q none =
    pick-by q false (some-of (is_due region.Start q.time) q.entries ∙ ap (λ (n : ℕ). nat_lt 0 n) none)

-- The last by its key.
pub nth-last : (xs : List ℕ) (k : ℕ) → suc k ≡ length xs → slice_get xs k ≡ last_of xs
nth-last [] k is = absurd (omega (arith, is))
nth-last (x ∷ []) zero is = refl
nth-last (x ∷ []) (suc k) is = absurd (omega (arith, is))
nth-last (x ∷ y ∷ xs) zero is = absurd (omega (arith, is))
nth-last (x ∷ y ∷ xs) (suc k) is = nth-last (y ∷ xs) k (omega (arith, is))

-- The entry that was chosen is the one of its serial.
pub find-first : (p : Entry → Bool) (low high k s : ℕ) (es : List Entry) → Rises low high es → slice_get (serials (filter p es)) k ≡ Some s
    → (low ≤ s) × (slice_get (filter p es) k ≡ find (λ e. e.serial == s) es)
find-first p low high k s [] rises is = absurd (cc)
find-first p low high k s (e ∷ es) rises is = by_test (p e) k is (λ j. find-first p (e.serial + 1) high j s es rises.1)
  where
    past : (j : ℕ) → (e.serial + 1 ≤ s) × (slice_get (filter p es) j ≡ find (λ e. e.serial == s) es)
        → (low ≤ s) × (slice_get (filter p es) j ≡ cond (e.serial == s) (Some e) (find (λ e. e.serial == s) es))
    past j rest =
        let up = rest.0 in let h = rises.0 in
        (omega (arith, up, h), rw (ne_eqb e.serial s (λ same. omega (arith, up, same))) rest.1)

    by_test : (b : Bool) (j : ℕ) → slice_get (serials (cond b (e ∷ filter p es) (filter p es))) j ≡ Some s
        → ((i : ℕ) → slice_get (serials (filter p es)) i ≡ Some s → (e.serial + 1 ≤ s) × (slice_get (filter p es) i ≡ find (λ e. e.serial == s) es))
        → (low ≤ s) × (slice_get (cond b (e ∷ filter p es) (filter p es)) j ≡ cond (e.serial == s) (Some e) (find (λ e. e.serial == s) es))
    by_test true zero at rest =
        let same : e.serial ≡ s = cc in let h = rises.0 in (omega (arith, same, h), rw (eq-eqb e.serial s same) refl)
    by_test true (suc i) at rest = past i (rest i at)
    by_test false j at rest = past j (rest j at)

-- Where there is room for one more.
pub full-not : (q : Events) → is_full q ≡ false → (length q.entries < MOST_ENTRIES) × (q.next ≤ MOST_NUMBERS)
full-not q room =
    let parts = or_parts (nat_le MOST_ENTRIES (length q.entries)) (nat_lt MOST_NUMBERS q.next) room in
    (leb-false MOST_ENTRIES (length q.entries) parts.0, ltb-false MOST_NUMBERS q.next parts.1)

-- What a queue counts, by what is seen of it.
pub record Counts (q : Events) (due ready : ℕ) : Type 0 where
  pub rises : Rises 1 q.next q.entries
  pub starts : due ≡ length (filter (is_due region.Start q.time) q.entries)
  pub plain : ready ≡ length (filter (is_active_of false) q.entries)

pub counts-of : (next now due ready : ℕ) (m : Horizons) (pairs : List (ℕ × Entry)) (x : Index) (q : Events) → Holds next now m due ready pairs x
    → (let p : Events = record { entries = all_seen now m (values_of pairs); next = next; time = now } in p) ≡ q → Counts q due ready
counts-of next now due ready m pairs x q h is =
    subst (λ (p : Events). Counts p due ready) is
    (record { rises = rises-seen next now due ready m pairs x h; starts = h.starts; plain = h.ready })

pub choices-starts : (q : Events) (due ready : ℕ) → Counts q due ready → 0 < due → due ≡ length (eligible q)
choices-starts q due ready counts some =
    let s = counts.starts in counts.starts ∙ sym (ap length (starts-eligible q (omega (arith, s, some))))

none-due : (q : Events) (due ready : ℕ) → Counts q due ready → due ≤ 0 → eligible q ≡ filter (is_ready q.entries) q.entries
none-due q due ready counts none = let s = counts.starts in ready-eligible q (omega (arith, s, none))

pub choices-ready : (q : Events) (due ready : ℕ) (first : Option ℕ) → Counts q due ready → due ≤ 0
    → first ≡ least_serial (filter (is_active_of true) q.entries) → ready + cond (is_some first) 1 0 ≡ length (eligible q)
choices-ready q due ready first counts none is =
    rw (counts.plain, is) (sym (ap length (none-due q due ready counts none) ∙ ready-length 1 q.next q.entries counts.rises))

pub first-starts : (q : Events) (due ready : ℕ) (o : Option ℕ) → Counts q due ready → 0 < due
    → o ≡ least_serial (filter (is_due region.Start q.time) q.entries) → o ≡ slice_get (serials (eligible q)) 0
first-starts q due ready o counts some is =
    let s = counts.starts in
    is ∙ sym (first-least 1 q.next (filter (is_due region.Start q.time) q.entries) (rises-filter (is_due region.Start q.time) 1 q.next q.entries counts.rises))
    ∙ sym (ap (λ (es : List Entry). slice_get (serials es) 0) (starts-eligible q (omega (arith, s, some))))

pub first-ready : (q : Events) (due ready : ℕ) (a b o : Option ℕ) → Counts q due ready → due ≤ 0
    → a ≡ least_serial (filter (is_active_of false) q.entries) → b ≡ least_serial (filter (is_active_of true) q.entries) → o ≡ earlier_of a b
    → o ≡ slice_get (serials (eligible q)) 0
first-ready q due ready a b o counts none one other is =
    is ∙ rw (one, other) refl ∙ sym (ready-least 1 q.next q.entries counts.rises)
    ∙ sym (first-least 1 q.next (filter (is_ready q.entries) q.entries) (rises-filter (is_ready q.entries) 1 q.next q.entries counts.rises))
    ∙ sym (ap (λ (es : List Entry). slice_get (serials es) 0) (none-due q due ready counts none))

pub last-starts : (q : Events) (due ready : ℕ) (o : Option ℕ) → Counts q due ready → 0 < due
    → o ≡ greatest_serial (filter (is_due region.Start q.time) q.entries) → o ≡ last_of (serials (eligible q))
last-starts q due ready o counts some is =
    let s = counts.starts in
    is ∙ sym (last-greatest 1 q.next (filter (is_due region.Start q.time) q.entries) (rises-filter (is_due region.Start q.time) 1 q.next q.entries counts.rises))
    ∙ sym (ap (λ (es : List Entry). last_of (serials es)) (starts-eligible q (omega (arith, s, some))))

pub last-ready : (q : Events) (due ready : ℕ) (a b o : Option ℕ) → Counts q due ready → due ≤ 0
    → a ≡ greatest_serial (filter (is_active_of false) q.entries) → b ≡ least_serial (filter (is_active_of true) q.entries) → o ≡ later_of a b
    → o ≡ last_of (serials (eligible q))
last-ready q due ready a b o counts none one other is =
    is ∙ rw (one, other) refl ∙ sym (ready-greatest 1 q.next q.entries counts.rises)
    ∙ sym (last-greatest 1 q.next (filter (is_ready q.entries) q.entries) (rises-filter (is_ready q.entries) 1 q.next q.entries counts.rises))
    ∙ sym (ap (λ (es : List Entry). last_of (serials es)) (none-due q due ready counts none))

-- The least time of those with a key.
pub time-is : (update : Bool) (es : List Entry) (ranked : BTreeSet Key) (o : Option ℕ) → AreRanked update es ranked
    → IfSome o (λ t. IsLeastTime t ranked) → IfNone o (ranked.keys ≡ []) → o ≡ least_time (filter (is_of update) es)
time-is update es ranked None are some none = sym (times-none update es ranked are none)
time-is update es ranked (Some t) are some none = sym (times-least update t es ranked are some)

pub choices-fit : (next now due ready : ℕ) (m : Horizons) (pairs : List (ℕ × Entry)) (x : Index) (b : Bool) → Holds next now m due ready pairs x
    → ready + cond b 1 0 < 2 ^ 32
choices-fit next now due ready m pairs x b h =
    let a = h.ready in let n = few next now due ready m pairs x h (is_active_of false) now m in by_bool b (omega (arith, a, n))
  where
    by_bool : (b : Bool) → ready ≤ MOST_ENTRIES → ready + cond b 1 0 < 2 ^ 32
    by_bool true small = omega (arith, small)
    by_bool false small = omega (arith, small)

-- One test, or else the other.
pub or-then : (r a b l : Bool) → r ≡ a → r ≡ true → (a || b) ≡ l → r ≡ l
or-then true true b l is so both = both
or-then true false b l is so both = absurd (cc)
or-then false a b l is so both = absurd (cc)

pub or-else : (r a s b l : Bool) → r ≡ a → r ≡ false → s ≡ b → (a || b) ≡ l → s ≡ l
or-else true a s b l is so other both = absurd (cc)
or-else false true s b l is so other both = absurd (cc)
or-else false false s b l is so other both = other ∙ both

-- Have some without a time got it?
pub dated-any : (next : ℕ) (m : Horizons) (es : List Entry) (us : BTreeSet ℕ) → Rises 1 next es → IsStrictlySortedBy nat_cmp us.keys → AreUntimed es us
    → is_some (slice_get (dated_in m.dated us) 0) ≡ list_any (dated_by m) es
dated-any next m es us rises sorted are =
    ap (λ (ks : List ℕ). is_some (slice_get ks 0)) (dated-is m.dated 1 next es us rises sorted are)
    ∙ ap is_some (first-least 1 next (filter (dated_by m) es) (rises-filter (dated_by m) 1 next es rises))
    ∙ sym (any-least (dated_by m) es)

-- The least time by the index.
pub least-is : (next now due ready : ℕ) (m : Horizons) (pairs : List (ℕ × Entry)) (x : Index) (plain updates : Option ℕ) (given : Bool)
    → Holds next now m due ready pairs x
    → IfSome plain (λ t. IsLeastTime t x.plain) → IfNone plain (x.plain.keys ≡ [])
    → IfSome updates (λ t. IsLeastTime t x.updates) → IfNone updates (x.updates.keys ≡ [])
    → given ≡ is_some (slice_get (dated_in m.dated x.untimed) 0)
    → earlier_of (earlier_of plain updates) (cond given (Some now) None) ≡ least_time (all_seen now m (values_of pairs))
least-is next now due ready m pairs x plain updates given h some none also neither is =
    rw (
      time-is false (values_of pairs) x.plain plain h.indexed.plain some none,
      time-is true (values_of pairs) x.updates updates h.indexed.updates also neither,
      is,
      dated-any next m (values_of pairs) x.untimed h.rises h.indexed.untimed_sorted h.indexed.untimed,
    ) (sym (times-seen now m (values_of pairs)))

-- The queue that is empty.
pub holds-none : (next now : ℕ) (m : Horizons) (pairs : List (ℕ × Entry)) (x : Index) → pairs ≡ [] → Indexes [] x → AreHorizons next m → 1 ≤ next
    → Holds next now m 0 0 pairs x
holds-none next now m pairs x none index horizons some =
    holds-of next now 0 0 m [] pairs x none some tt index horizons refl refl (omega arith)

pub next-some : (next now due ready : ℕ) (m : Horizons) (pairs : List (ℕ × Entry)) (x : Index) → Holds next now m due ready pairs x → 1 ≤ next
next-some next now due ready m pairs x h = rises-empty 1 next (values_of pairs) h.rises

-- The work of a serial.
pub work-found : (next now due ready s : ℕ) (m : Horizons) (pairs : List (ℕ × Entry)) (x : Index) (o : Option Entry) → Holds next now m due ready pairs x
    → o ≡ lookup (is_key (nat_cmp s)) pairs
    → option_map (λ (e : Entry). e.work) o ≡ work_of s (record { entries = all_seen now m (values_of pairs); next = next; time = now })
work-found next now due ready s m pairs x o h is =
    ap (λ (p : Option Entry). option_map (λ (e : Entry). e.work) p)
    (is ∙ ap (lookup (is_key (nat_cmp s))) h.keyed ∙ lookup-is s (values_of pairs))
    ∙ kept (find (λ (e : Entry). e.serial == s) (values_of pairs))
    ∙ ap (λ (p : Option Entry). option_map (λ (e : Entry). e.work) p) (sym (seen-find now s m (values_of pairs)))
  where
    kept : (p : Option Entry) → option_map (λ (e : Entry). e.work) p ≡ option_map (λ (e : Entry). e.work) (option_map (seen now m) p)
    kept None = refl
    kept (Some e) = refl

-- The entry of a serial, and the others.
pub entry-found : (next now due ready s : ℕ) (m : Horizons) (pairs : List (ℕ × Entry)) (x : Index) (o : Option Entry) → Holds next now m due ready pairs x
    → o ≡ lookup (is_key (nat_cmp s)) pairs
    → option_map (seen now m) o ≡ find (λ e. e.serial == s) (all_seen now m (values_of pairs))
entry-found next now due ready s m pairs x o h is =
    ap (λ (p : Option Entry). option_map (seen now m) p) (is ∙ ap (lookup (is_key (nat_cmp s))) h.keyed ∙ lookup-is s (values_of pairs))
    ∙ sym (seen-find now s m (values_of pairs))

pub view-taken : (next now due ready s : ℕ) (m : Horizons) (pairs rest : List (ℕ × Entry)) (x : Index) → Holds next now m due ready pairs x
    → rest ≡ remove_entry (is_key (nat_cmp s)) pairs
    → all_seen now m (values_of rest) ≡ filter (λ e. not (e.serial == s)) (all_seen now m (values_of pairs))
view-taken next now due ready s m pairs rest x h is =
    ap (λ (ps : List (ℕ × Entry)). all_seen now m (values_of ps)) (is ∙ ap (remove_entry (is_key (nat_cmp s))) h.keyed ∙ remove-is s 1 next (values_of pairs) h.rises)
    ∙ ap (all_seen now m) (values-are (filter (λ (e : Entry). not (e.serial == s)) (values_of pairs)))
    ∙ sym (seen-without now s m (values_of pairs))

-- What is counted of the entry that is taken.
pub counted-once : (next now due ready s : ℕ) (m : Horizons) (pairs : List (ℕ × Entry)) (x : Index) (e : Entry) → Holds next now m due ready pairs x
    → lookup (is_key (nat_cmp s)) pairs ≡ Some e
    → (cond (is_due region.Start now (seen now m e)) 1 0 ≤ due) × (cond (is_active_of false (seen now m e)) 1 0 ≤ ready)
counted-once next now due ready s m pairs x e h there =
    let es : List Entry = values_of pairs in
    let found : find (λ (f : Entry). f.serial == s) es ≡ Some e = sym (lookup-is s es) ∙ ap (lookup (is_key (nat_cmp s))) (sym h.keyed) ∙ there in
    let one = count-without (is_due region.Start now) now s 1 next m es e h.rises found in
    let other = count-without (is_active_of false) now s 1 next m es e h.rises found in
    let a = h.starts in let b = h.ready in (omega (arith, one, a), omega (arith, other, b))

-- What is seen once an entry is added.
pub view-added : (next now due ready : ℕ) (m : Horizons) (pairs more : List (ℕ × Entry)) (x : Index) (e : Entry) → Holds next now m due ready pairs x
    → e.serial ≡ next → more ≡ insert_entry nat_cmp pairs next e
    → all_seen now m (values_of more) ≡ all_seen now m (values_of pairs) ++ e ∷ []
view-added next now due ready m pairs more x e h at is =
    let es : List Entry = values_of pairs in
    ap (λ (ps : List (ℕ × Entry)). all_seen now m (values_of ps))
    (is ∙ ap (λ (ps : List (ℕ × Entry)). insert_entry nat_cmp ps next e) h.keyed ∙ insert-last 1 next e es h.rises at)
    ∙ ap (all_seen now m) (values-are (es ++ e ∷ []))
    ∙ seen-more now m es e (new-seen now next m e (omega (arith, at)) h.horizons)

-- What is picked by going over all.
pub picked-are : (q : Events) (due ready : ℕ) (starts : Bool) (first : Option ℕ) → Counts q due ready → starts ≡ nat_lt 0 due
    → first ≡ least_serial (filter (is_active_of true) q.entries) → filter (picked_by starts q.time first) q.entries ≡ eligible q
picked-are q due ready starts first counts so is = by_starts starts refl
  where
    s : due ≡ length (filter (is_due region.Start q.time) q.entries)
    s = counts.starts

    by_starts : (b : Bool) → starts ≡ b → filter (picked_by starts q.time first) q.entries ≡ eligible q
    by_starts true at =
        rw at (sym (starts-eligible q (let h : 0 < due = ltb-true 0 due (sym so ∙ at) in omega (arith, s, h))))
    by_starts false at =
        rw (at, is) (filter-same (λ e. is_active e && not (is_update e.work && is_above (least_serial (filter (is_active_of true) q.entries)) e.serial)) (is_ready q.entries) q.entries
        (λ e. ap (λ (b : Bool). is_active e && not (is_update e.work && b)) (sym (behind-is e q.entries)))
        ∙ sym (ready-eligible q (let h : due ≤ 0 = ltb-false 0 due (sym so ∙ at) in omega (arith, s, h))))
      where
        filter-same : (f g : Entry → Bool) (es : List Entry) → ((e : Entry) → f e ≡ g e) → filter f es ≡ filter g es
        filter-same f g [] same = refl
        filter-same f g (e ∷ es) same = rw (same e, filter-same f g es same) refl

-- The last that may be picked, by its key.
serials-length : (es : List Entry) → length (serials es) ≡ length es
serials-length [] = refl
serials-length (e ∷ es) = ap suc (serials-length es)

pub nth-eligible : (es : List Entry) (k : ℕ) → suc k ≡ length es → slice_get (serials es) k ≡ last_of (serials es)
nth-eligible es k is = nth-last (serials es) k (is ∙ sym (serials-length es))

pub within-some : (es : List Entry) (k : ℕ) → k < length es → slice_get es k ≡ None → ⊥
within-some [] k below none = absurd (omega (arith, below))
within-some (e ∷ es) zero below none = absurd (cc)
within-some (e ∷ es) (suc k) below none = within-some es k (omega (arith, below)) none

-- What a call ensures once its answer is tested.
pub on-ok : {A E : Type 0} (r : Result A E) (P : Type 0) → is_err r ≡ false → OnOk r P → P
on-ok (Ok x) P is h = h
on-ok (Err e) P is h = absurd (cc)

pub on-err : {A E : Type 0} (r : Result A E) (P : Type 0) → is_err r ≡ true → OnErr r P → P
on-err (Ok x) P is h = absurd (cc)
on-err (Err e) P is h = h

pub holds-same : (next now due ready : ℕ) (m : Horizons) (pairs same : List (ℕ × Entry)) (x y : Index) → Holds next now m due ready pairs x
    → same ≡ pairs → IsSame x y → StaysSorted x y → Holds next now m due ready same y
holds-same next now due ready m pairs same x y h is index stays =
    holds-of next now due ready m (values_of pairs) same y (is ∙ h.keyed) h.rises h.timely (index-same (values_of pairs) x y index stays h.indexed)
    h.horizons h.starts h.ready (size-of next now due ready m pairs x h)

pub seen-size : (now : ℕ) (m : Horizons) (pairs : List (ℕ × Entry)) → length (all_seen now m (values_of pairs)) ≡ length pairs
seen-size now m [] = refl
seen-size now m (p ∷ ps) = ap suc (seen-size now m ps)

add-one : (n : ℕ) (b : Bool) → n ≤ MOST_ENTRIES → n + cond b 1 0 < 2 ^ 32
add-one n true small = omega (arith, small)
add-one n false small = omega (arith, small)

pub few-due : (next now due ready : ℕ) (m : Horizons) (pairs : List (ℕ × Entry)) (x : Index) (b : Bool) → Holds next now m due ready pairs x
    → due + cond b 1 0 < 2 ^ 32
few-due next now due ready m pairs x b h =
    let a = h.starts in let n = few next now due ready m pairs x h (is_due region.Start now) now m in add-one due b (omega (arith, a, n))

pub few-plain : (next now due ready : ℕ) (m : Horizons) (pairs : List (ℕ × Entry)) (x : Index) (b : Bool) → Holds next now m due ready pairs x
    → ready + cond b 1 0 < 2 ^ 32
few-plain next now due ready m pairs x b h =
    let a = h.ready in let n = few next now due ready m pairs x h (is_active_of false) now m in add-one ready b (omega (arith, a, n))

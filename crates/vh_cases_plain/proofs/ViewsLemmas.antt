-- What ordered maps hold, before and after each call.
use Rattle.std.proofs.Common.{◌≡◌, ◌≢◌, ℕ, zero, suc, ◌+◌, ◌^◌, ◌<◌, ◌≤◌, List, [], ◌∷◌, ◌++◌, length, get_or, set, take, drop, map, max, refl, ap, arith, ◌∙◌, sym, subst, Bool, true, false, cond, nat_eq, nat_lt, Option, Some, None, Less, Equal, Greater, inl, inr, Result, Ok, Err, IfOk, IfErr}
use Rattle.std.specs.Prelude.{IfSome, is_some, count_by, not, ◌&&◌, ◌||◌}
use Rattle.std.specs.List.{range_with_len, list_any, slice_get}
use Rattle.std.specs.Map.{lookup, set_value}
use Rattle.std.specs.BTreeMap.{BTreeMap, Updates, is_at}
use Rattle.std.specs.Ordering.{nat_cmp, is_eq}
use Rattle.std.proofs.lemmas.Bool.{eqb-true, eq-eqb, ne_eqb, ltb-true, cases_eq, cases_lt}
use Rattle.std.proofs.lemmas.List.{same_lists, get_or-set_same, get_or-set_other, set-get_or, length-set, length-append}
use Rattle.std.proofs.lemmas.List.Sums.{count_by_more_yes, count_by_more_no}
use Rattle.std.proofs.lemmas.List.FromFn.{length-range_with_len, get_or-range_with_len, length-map-range_with_len, get_or-map-range_with_len, map-range_with_len_more}
use Rattle.std.proofs.lemmas.Option.{slice_get-get_or, get_or_from_slice_get, slice_get_past, slice_get_within}
use Rattle.vh_slots.specs.declared.slots.TheConstants.{GENERATIONS}
use Rattle.vh_slots.specs.declared.slots.Key.{Key}
use Rattle.vh_slots.specs.declared.slots.GiveFault.{GiveFault}
use Rattle.vh_slots.specs.Table.{Cell, Table, value_at, is_free, after_take, after_replace, Reuses, Opens, GivesBy, Gives}
use Rattle.vh_slots.proofs.ListsLemmas.{at-past, at-before, at-end, get-mapped, default-other}
use Rattle.vh_wheel.specs.Schedule.{Entry, Schedule, entry_at, is_held, is_of, held_in, least_time, has_time, after_cancel, Schedules, Takes}
use Rattle.vh_wheel.proofs.NodesLemmas.{has-no-time, all-held, least-bound, later-all}
use Rattle.vh_cases_plain.specs.declared.wheel.Held.{Held}
use Rattle.vh_cases_plain.specs.Views.{under, entry_of, entries_in, schedule_in, IsKept, cell_at, cells_in, table_in, IsWithin, is_of_generation, is_held_one, is_free_one}

-- A map with another value under one number, or with none
pub record IsWritten {X : Type 0} (x : ℕ) (o : Option X) (f g : ℕ → Option X) : Type 0 where
  pub here : g x ≡ o
  pub others : (k : ℕ) → (k ≡ x → ⊥) → g k ≡ f k

at_by : (b d : Bool) → (b ≡ true → d ≡ false) → is_eq (cond b Less (cond d Equal Greater)) ≡ d
at_by true true h = sym (h refl)
at_by true false h = refl
at_by false true h = refl
at_by false false h = refl

-- A look-up's test is that the numbers are one
at_eq : (x k : ℕ) → is_at (nat_cmp x) k ≡ nat_eq x k
at_eq x k = at_by (nat_lt x k) (nat_eq x k) (λ h. ne_eqb x k (λ e. omega (arith, ltb-true x k h)))

pub written : {X : Type 0} (m n : BTreeMap ℕ X) (x : ℕ) (o : Option X) → Updates nat_cmp m n x o → IsWritten x o (under m) (under n)
written m n x o u = record {
  here = u.1;
  others = λ k apart. u.2 k (at_eq x k ∙ ne_eqb x k (λ e. apart (sym e)));
}

-- A list made from the numbers, after one has another value, and after one more
range-set : {X : Type 0} (p q : ℕ → X) (n i : ℕ) (x : X) → i < n → q i ≡ x → ((k : ℕ) → (k ≡ i → ⊥) → q k ≡ p k)
    → map q (range_with_len 0 n) ≡ set (map p (range_with_len 0 n)) i x
range-set {X} p q n i x h here others =
    same_lists (map q (range_with_len 0 n)) (set (map p (range_with_len 0 n)) i x)
    (length-map-range_with_len q 0 n ∙ sym (length-map-range_with_len p 0 n) ∙ sym (length-set (map p (range_with_len 0 n)) i x))
    (λ k d l. each k d (omega (arith, l, length-map-range_with_len q 0 n)))
  where
    each : (k : ℕ) (d : X) → k < n → get_or (map q (range_with_len 0 n)) k d ≡ get_or (set (map p (range_with_len 0 n)) i x) k d
    each k d l =
        elim (cases_eq k i) [
          | inl e ↦
              get_or-map-range_with_len q 0 n k k d l (omega arith) ∙ ap q e ∙ here
              ∙ sym (get_or-set_same (map p (range_with_len 0 n)) i x d (omega (arith, h, length-map-range_with_len p 0 n)))
              ∙ ap (λ j. get_or (set (map p (range_with_len 0 n)) i x) j d) (sym e)
          | inr ne ↦
              get_or-map-range_with_len q 0 n k k d l (omega arith) ∙ others k ne ∙ sym (get_or-map-range_with_len p 0 n k k d l (omega arith))
              ∙ sym (get_or-set_other (map p (range_with_len 0 n)) i k x d ne)
        ]

range-same : {X : Type 0} (p q : ℕ → X) (n : ℕ) → ((k : ℕ) → k < n → q k ≡ p k) → map q (range_with_len 0 n) ≡ map p (range_with_len 0 n)
range-same {X} p q n h =
    same_lists (map q (range_with_len 0 n)) (map p (range_with_len 0 n)) (length-map-range_with_len q 0 n ∙ sym (length-map-range_with_len p 0 n))
    (λ k d l. each k d (omega (arith, l, length-map-range_with_len q 0 n)))
  where
    each : (k : ℕ) (d : X) → k < n → get_or (map q (range_with_len 0 n)) k d ≡ get_or (map p (range_with_len 0 n)) k d
    each k d l =
        get_or-map-range_with_len q 0 n k k d l (omega arith) ∙ h k l ∙ sym (get_or-map-range_with_len p 0 n k k d l (omega arith))

range-add : {X : Type 0} (p q : ℕ → X) (n : ℕ) (x : X) → q n ≡ x → ((k : ℕ) → k < n → q k ≡ p k)
    → map q (range_with_len 0 (n + 1)) ≡ map p (range_with_len 0 n) ++ x ∷ []
range-add p q n x here others =
    map-range_with_len_more q 0 n n (omega arith)
    ∙ ap (λ xs. xs ++ q n ∷ []) (range-same p q n others)
    ∙ ap (λ y. map p (range_with_len 0 n) ++ y ∷ []) here

-- What is held under a node
pub entry-inside : (n : ℕ) (f : ℕ → Option Held) (x : ℕ) → x < n → entry_at x (entries_in n f) ≡ entry_of (f x)
entry-inside n f x h = get_or-map-range_with_len (λ k. entry_of (f k)) 0 n x x None h (omega arith)

pub length-entries : (n : ℕ) (f : ℕ → Option Held) → length (entries_in n f) ≡ n
length-entries n f = length-map-range_with_len (λ k. entry_of (f k)) 0 n

pub entry-is : (n now : ℕ) (f : ℕ → Option Held) (x : ℕ) → IsKept n now f → entry_at x (entries_in n f) ≡ entry_of (f x)
entry-is n now f x kept =
    elim (cases_lt x n) [
      | inl l ↦ entry-inside n f x l
      | inr l ↦ at-past (entries_in n f) x None (omega (arith, length-entries n f)) ∙ ap entry_of (sym (kept.within x l))
    ]

pub entry-seen : (n now : ℕ) (f : ℕ → Option Held) (s : Schedule) (x : ℕ) → schedule_in n now f ≡ s → IsKept n now f → entry_at x s.entries ≡ entry_of (f x)
entry-seen n now f s x seen kept = subst (λ (t : Schedule). entry_at x t.entries ≡ entry_of (f x)) seen (entry-is n now f x kept)

pub is-held-some : (o : Option Held) → is_held (entry_of o) ≡ true → o ≡ None → ⊥
is-held-some None h none = cc
is-held-some (Some i) h none = cc

pub free-at-end : (n now : ℕ) (f : ℕ → Option Held) (s : Schedule) → schedule_in n now f ≡ s → IsKept n now f
    → (entry_at n s.entries ≡ None) × (n ≤ length s.entries)
free-at-end n now f s seen kept = (
  entry-seen n now f s n seen kept ∙ ap entry_of (kept.within n (omega arith)),
  let size = ap (λ (t : Schedule). length t.entries) seen in omega (arith, size, length-entries n f),
)

-- A node that is free has a number below the limit, where fewer are held
pub few-nodes : (n now x : ℕ) (f : ℕ → Option Held) (s : Schedule) → schedule_in n now f ≡ s → IsKept n now f → x ≤ length s.entries
    → ((k : ℕ) → k < x → is_held (entry_at k s.entries) ≡ true) → held_in s.entries < 2 ^ 31 → x < 2 ^ 31
few-nodes n now x f s seen kept within held few =
    let size : n ≡ length s.entries = sym (length-entries n f) ∙ ap (λ (t : Schedule). length t.entries) seen in
    elim (cases_lt x n) [
      | inl l ↦ let some = kept.few in omega (arith, some, l)
      | inr l ↦
          let all = all-held s.entries (λ k h. held k (omega (arith, h, size, l))) in
          omega (arith, all, size, l, within, few)
    ]

-- Nothing is held until a time before the present one,
later-held : (n now : ℕ) (f : ℕ → Option Held) (x : ℕ) (e : Entry) → IsKept n now f → entry_of (f x) ≡ Some e → now ≤ e.time
later-held n now f x e kept h = by_option (f x) (kept.later x) h
  where
    by_option : (o : Option Held) → IfSome o (λ i. now ≤ i.time) → entry_of o ≡ Some e → now ≤ e.time
    by_option None later h = cc
    by_option (Some i) later h =
        let same : (record { time = i.time; payload = i.payload }) ≡ e = cc in subst (λ (d : Entry). now ≤ d.time) same later

pub least-later : (n now : ℕ) (f : ℕ → Option Held) (s : Schedule) (r : Option ℕ) → schedule_in n now f ≡ s → IsKept n now f → r ≡ least_time s.entries
    → IfSome r (λ t. s.present ≤ t)
least-later n now f s r seen kept is =
    by_option r (λ u some. subst (λ p. p ≤ u) (ap (λ (t : Schedule). t.present) seen)
    (least-bound s.entries now (λ x e h. later-held n now f x e kept (sym (entry-seen n now f s x seen kept) ∙ h)) u (sym is ∙ some)))
  where
    by_option : (o : Option ℕ) → ((u : ℕ) → o ≡ Some u → s.present ≤ u) → IfSome o (λ t. s.present ≤ t)
    by_option None h = tt
    by_option (Some u) h = h u refl

pub seen-later : (n now time : ℕ) (f : ℕ → Option Held) (s : Schedule) → schedule_in n now f ≡ s → s.present ≤ time → now ≤ time
seen-later n now time f s seen later = let same = ap (λ (t : Schedule). t.present) seen in omega (arith, same, later)

-- Nor before a time that is not after what is held
pub kept-later : (n now time : ℕ) (f : ℕ → Option Held) (s : Schedule) → schedule_in n now f ≡ s → IsKept n now f
    → IfSome (least_time s.entries) (λ t. time ≤ t) → IsKept n time f
kept-later n now time f s seen kept least = record {
  few = kept.few;
  within = kept.within;
  later = λ k. by_option (f k) (λ i some. later-all s.entries time least k (record { time = i.time; payload = i.payload })
      (entry-seen n now f s k seen kept ∙ ap entry_of some));
}
  where
    by_option : (o : Option Held) → ((i : Held) → o ≡ Some i → time ≤ i.time) → IfSome o (λ i. time ≤ i.time)
    by_option None h = tt
    by_option (Some i) h = h i refl

-- What is due
pub none-due : (t : ℕ) (es : List (Option Entry)) → ((x : ℕ) → is_of t (entry_at x es) ≢ true) → has_time t es ≡ false
none-due t es h = has-no-time es t (λ x e is same. h x (ap (is_of t) is ∙ eq-eqb e.time t same))

pub takes-none : (n now t : ℕ) (f : ℕ → Option Held) (s : Schedule) (r : Option ℕ) → schedule_in n now f ≡ s
    → ((x : ℕ) → is_of t (entry_at x s.entries) ≢ true) → r ≡ None → Takes t r s (schedule_in n t f)
takes-none n now t f s r seen h none =
    subst (λ (o : Option ℕ). Takes t o s (schedule_in n t f)) (sym none)
    (none-due t s.entries h, ap (λ (u : Schedule). record { entries = u.entries; present = t }) seen)

-- Nothing is held behind the nodes
pub none-behind : (n now t : ℕ) (f : ℕ → Option Held) (s : Schedule) → schedule_in n now f ≡ s → IsKept n now f
    → ((x : ℕ) → x < n → is_of t (entry_at x s.entries) ≢ true) → (x : ℕ) → is_of t (entry_at x s.entries) ≢ true
none-behind n now t f s seen kept h x is =
    elim (cases_lt x n) [
      | inl l ↦ h x l is
      | inr l ↦ absurd (let none = ap (is_of t) (entry-seen n now f s x seen kept ∙ ap entry_of (kept.within x l)) in cc)
    ]

-- The least time of all, and of none
pub least-all : (es : List (Option Entry)) (k : ℕ) (r : Option ℕ) → k ≤ 0 → r ≡ least_time (drop k es) → r ≡ least_time es
least-all es zero r h is = is
least-all es (suc k) r h is = absurd (omega arith)

pub least-end : (n now : ℕ) (f : ℕ → Option Held) (s : Schedule) → schedule_in n now f ≡ s
    → (n ≤ length s.entries) × (None ≡ least_time (drop n s.entries))
least-end n now f s seen =
    let size : n ≡ length s.entries = sym (length-entries n f) ∙ ap (λ (t : Schedule). length t.entries) seen in
    (omega (arith, size), ap least_time (sym (drop-all n s.entries (omega (arith, size)))))
  where
    drop-all : (k : ℕ) (es : List (Option Entry)) → length es ≤ k → drop k es ≡ []
    drop-all zero [] h = refl
    drop-all zero (e ∷ es) h = absurd (omega arith)
    drop-all (suc k) [] h = refl
    drop-all (suc k) (e ∷ es) h = drop-all k es (omega arith)

-- Entries, after one is written
pub entries-set : (n x : ℕ) (o : Option Held) (f g : ℕ → Option Held) → x < n → IsWritten x o f g → entries_in n g ≡ set (entries_in n f) x (entry_of o)
entries-set n x o f g h w =
    range-set (λ k. entry_of (f k)) (λ k. entry_of (g k)) n x (entry_of o) h (ap entry_of w.here) (λ k ne. ap entry_of (w.others k ne))

pub entries-add : (n : ℕ) (o : Option Held) (f g : ℕ → Option Held) → IsWritten n o f g → entries_in (n + 1) g ≡ entries_in n f ++ entry_of o ∷ []
entries-add n o f g w =
    range-add (λ k. entry_of (f k)) (λ k. entry_of (g k)) n (entry_of o) (ap entry_of w.here) (λ k ne. ap entry_of (w.others k (λ e. omega (arith, ne, e))))

-- Something is held under a free node
pub schedules : (n now x m : ℕ) (h : Held) (f g : ℕ → Option Held) (old : Schedule) → schedule_in n now f ≡ old → IsKept n now f
    → entry_at x old.entries ≡ None → x ≤ length old.entries → m ≡ max n (x + 1) → IsWritten x (Some h) f g
    → Schedules x (record { time = h.time; payload = h.payload }) old (schedule_in m now g)
schedules n now x m h f g old seen kept free within is w =
    subst (λ (s : Schedule). Schedules x (record { time = h.time; payload = h.payload }) s (schedule_in m now g)) seen
    (record {
      free = free_in;
      there = elim (cases_eq x n) [
        | inl e ↦ entry-inside m g x (omega (arith, is, e)) ∙ ap entry_of w.here
        | inr ne ↦ entry-inside m g x (omega (arith, is, ne, within_in)) ∙ ap entry_of w.here
      ];
      entries = elim (cases_eq x n) [
        | inl e ↦
            let size : m ≡ n + 1 = omega (arith, is, e) in
            rw (eq-eqb x (length (entries_in n f)) (e ∙ sym (length-entries n f)))
            (ap (λ k. entries_in k g) size ∙ entries-add n (Some h) f g (subst (λ y. IsWritten y (Some h) f g) e w))
        | inr ne ↦
            let less : x < n = omega (arith, ne, within_in) in
            let size : m ≡ n = omega (arith, is, less) in
            rw (ne_eqb x (length (entries_in n f)) (λ e. ne (e ∙ length-entries n f)))
            (ap (λ k. entries_in k g) size ∙ entries-set n x (Some h) f g less w)
      ];
      within = omega (arith, within_in, length-entries n f);
      present = refl;
    })
  where
    free_in : entry_at x (entries_in n f) ≡ None
    free_in = subst (λ (s : Schedule). entry_at x s.entries ≡ None) (sym seen) free

    within_in : x ≤ n
    within_in =
        let inside : x ≤ length (entries_in n f) = subst (λ (s : Schedule). x ≤ length s.entries) (sym seen) within in
        omega (arith, inside, length-entries n f)

-- Nothing is held under a node
held-at : (n now : ℕ) (f : ℕ → Option Held) (x : ℕ) (h : Held) → IsKept n now f → f x ≡ Some h → x < n
held-at n now f x h kept some =
    elim (cases_lt x n) [ inl l ↦ l | inr l ↦ absurd (let none = kept.within x l in cc) ]

pub cancels : (n now x : ℕ) (h : Held) (f g : ℕ → Option Held) (old : Schedule) → schedule_in n now f ≡ old → IsKept n now f → f x ≡ Some h
    → IsWritten x None f g → schedule_in n now g ≡ after_cancel x old
cancels n now x h f g old seen kept some w =
    ap (λ (es : List (Option Entry)). record { entries = es; present = now }) (entries-set n x None f g (held-at n now f x h kept some) w)
    ∙ ap (after_cancel x) seen

-- One more is kept
pub kept-more : (n now x m : ℕ) (h : Held) (f g : ℕ → Option Held) → IsKept n now f → x < 2 ^ 31 → m ≡ max n (x + 1) → now ≤ h.time
    → IsWritten x (Some h) f g → IsKept m now g
kept-more n now x m h f g kept less is later w = record {
  few = let few = kept.few in omega (arith, is, less, few);
  within = λ k l. w.others k (λ e. omega (arith, is, e, l)) ∙ kept.within k (omega (arith, is, l));
  later = λ k. elim (cases_eq k x) [
    | inl e ↦
        let here : g k ≡ Some h = ap g e ∙ w.here in
        subst (λ (o : Option Held). IfSome o (λ i. now ≤ i.time)) (sym here) later
    | inr ne ↦ subst (λ (o : Option Held). IfSome o (λ i. now ≤ i.time)) (sym (w.others k ne)) (kept.later k)
  ];
}

past-none : (gs : List ℕ) (i : ℕ) → slice_get gs i ≡ None → length gs ≤ i
past-none gs i h = elim (cases_lt i (length gs)) [ inl l ↦ absurd (let some = slice_get-get_or gs i 0 l in cc) | inr l ↦ l ]

module _ {T : Type 0} where
  -- A slot's generation and value
  pub cell-some : (gs : List ℕ) (f : ℕ → Option T) (limit first i x : ℕ) (t : Table T) → table_in gs f limit first ≡ t → slice_get gs i ≡ Some x
      → slice_get t.cells i ≡ Some (record { generation = x; value = f i })
  cell-some gs f limit first i x t seen h =
      let inside = slice_get_within gs i x h in
      let n : ℕ = length gs in
      subst (λ (u : Table T). slice_get u.cells i ≡ Some (record { generation = x; value = f i })) seen
      (get-mapped (cell_at gs f) (range_with_len 0 n) i 0 (omega (arith, inside, length-range_with_len 0 n))
      ∙ ap (λ j. Some (cell_at gs f j)) (get_or-range_with_len 0 n i 0 inside)
      ∙ ap (λ j. Some (cell_at gs f j)) (nothing-more i)
      ∙ ap (λ g. Some (record { generation = g; value = f i })) (get_or_from_slice_get gs i x 0 h))
    where
      nothing-more : (k : ℕ) → 0 + k ≡ k
      nothing-more k = omega arith

  pub length-cells : (gs : List ℕ) (f : ℕ → Option T) (limit first : ℕ) (t : Table T) → table_in gs f limit first ≡ t → length t.cells ≡ length gs
  length-cells gs f limit first t seen =
      ap (λ (u : Table T). length u.cells) (sym seen) ∙ length-map-range_with_len (cell_at gs f) 0 (length gs)

  pub cell-none : (gs : List ℕ) (f : ℕ → Option T) (limit first i : ℕ) (t : Table T) → table_in gs f limit first ≡ t → length gs ≤ i
      → slice_get t.cells i ≡ None
  cell-none gs f limit first i t seen h =
      slice_get_past t.cells i (let size = length-cells gs f limit first t seen in omega (arith, size, h))

  pub cell-past : (gs : List ℕ) (f : ℕ → Option T) (limit first i : ℕ) (t : Table T) → table_in gs f limit first ≡ t → slice_get gs i ≡ None
      → slice_get t.cells i ≡ None
  cell-past gs f limit first i t seen h = cell-none gs f limit first i t seen (past-none gs i h)

  -- What a slot has
  pub held-one : (gs : List ℕ) (f : ℕ → Option T) (limit first i : ℕ) (t : Table T) → table_in gs f limit first ≡ t → IsWithin gs f
      → is_some (f i) ≡ is_held_one (slice_get t.cells i)
  held-one gs f limit first i t seen within =
      elim (cases_lt i (length gs)) [
        | inl l ↦ sym (ap is_held_one (cell-some gs f limit first i (get_or gs i 0) t seen (slice_get-get_or gs i 0 l)))
        | inr l ↦ ap (λ (o : Option T). is_some o) (within.within i l) ∙ sym (ap is_held_one (cell-none gs f limit first i t seen l))
      ]

  -- A key that finds its slot finds its value
  pub key-value : (gs : List ℕ) (f : ℕ → Option T) (limit first i g : ℕ) (t : Table T) → table_in gs f limit first ≡ t
      → is_of_generation g (slice_get t.cells i) ≡ true
      → (i < length gs) × (get_or gs i 0 ≡ g) × (value_at g (slice_get t.cells i) ≡ f i)
  key-value gs f limit first i g t seen h =
      elim (cases_lt i (length gs)) [
        | inl l ↦
            let cell = cell-some gs f limit first i (get_or gs i 0) t seen (slice_get-get_or gs i 0 l) in
            let same : nat_eq (get_or gs i 0) g ≡ true = sym (ap (is_of_generation g) cell) ∙ h in
            (l, eqb-true (get_or gs i 0) g same, ap (value_at g) cell ∙ ap (λ (b : Bool). cond b (f i) None) same)
        | inr l ↦ absurd (let none = ap (is_of_generation {T = T} g) (cell-none gs f limit first i t seen l) in cc)
      ]

  -- Cells, after one is written
  pub cells-set : (gs hs : List ℕ) (f g : ℕ → Option T) (i y : ℕ) (o : Option T) → i < length gs → hs ≡ set gs i y → IsWritten i o f g
      → cells_in hs g ≡ set (cells_in gs f) i (record { generation = y; value = o })
  cells-set gs hs f g i y o h is w =
      ap (λ ks. cells_in ks g) is ∙ ap (λ n. map (cell_at (set gs i y) g) (range_with_len 0 n)) (length-set gs i y)
      ∙ range-set (cell_at gs f) (cell_at (set gs i y) g) (length gs) i (record { generation = y; value = o }) h here others
    where
      here : cell_at (set gs i y) g i ≡ record { generation = y; value = o }
      here =
          ap (λ j. record { generation = j; value = g i }) (get_or-set_same gs i y 0 h) ∙ ap (λ (v : Option T). record { generation = y; value = v }) w.here

      others : (k : ℕ) → (k ≡ i → ⊥) → cell_at (set gs i y) g k ≡ cell_at gs f k
      others k ne =
          ap (λ j. record { generation = j; value = g k }) (get_or-set_other gs i k y 0 ne)
          ∙ ap (λ (v : Option T). record { generation = get_or gs k 0; value = v }) (w.others k ne)

  pub cells-add : (gs hs : List ℕ) (f g : ℕ → Option T) (y : ℕ) (o : Option T) → hs ≡ gs ++ y ∷ [] → IsWritten (length gs) o f g
      → cells_in hs g ≡ cells_in gs f ++ record { generation = y; value = o } ∷ []
  cells-add gs hs f g y o is w =
      ap (λ ks. cells_in ks g) is ∙ ap (λ n. map (cell_at (gs ++ y ∷ []) g) (range_with_len 0 n)) (length-append gs (y ∷ []))
      ∙ range-add (cell_at gs f) (cell_at (gs ++ y ∷ []) g) (length gs) (record { generation = y; value = o }) here others
    where
      here : cell_at (gs ++ y ∷ []) g (length gs) ≡ record { generation = y; value = o }
      here =
          ap (λ j. record { generation = j; value = g (length gs) }) (at-end gs y 0) ∙ ap (λ (v : Option T). record { generation = y; value = v }) w.here

      others : (k : ℕ) → k < length gs → cell_at (gs ++ y ∷ []) g k ≡ cell_at gs f k
      others k l =
          ap (λ j. record { generation = j; value = g k }) (at-before gs y k 0 l)
          ∙ ap (λ (v : Option T). record { generation = get_or gs k 0; value = v }) (w.others k (λ e. omega (arith, e, l)))

  -- A map with another value under a number that has one
  other_set_by : (b : Bool) (q h : ℕ) (t : T) (e : ℕ × T) (es rest : List (ℕ × T)) → is_at (nat_cmp h) e.0 ≡ b → (q ≡ h → ⊥)
      → lookup (is_at (nat_cmp q)) rest ≡ lookup (is_at (nat_cmp q)) es
      → lookup (is_at (nat_cmp q)) (cond b ((e.0, t) ∷ es) (e ∷ rest)) ≡ lookup (is_at (nat_cmp q)) (e ∷ es)
  other_set_by true q h t e es rest is apart kept =
      let same : h ≡ e.0 = eqb-true h e.0 (sym (at_eq h e.0) ∙ is) in
      let none : is_at (nat_cmp q) e.0 ≡ false = at_eq q e.0 ∙ ne_eqb q e.0 (λ other. apart (other ∙ sym same)) in
      rw none refl
  other_set_by false q h t e es rest is apart kept =
      ap (λ (o : Option T). cond (is_at (nat_cmp q) e.0) (Some e.1) o) kept

  other_set : (q h : ℕ) (t : T) (es : List (ℕ × T)) → (q ≡ h → ⊥)
      → lookup (is_at (nat_cmp q)) (set_value (is_at (nat_cmp h)) es t) ≡ lookup (is_at (nat_cmp q)) es
  other_set q h t [] apart = refl
  other_set q h t (e ∷ es) apart =
      other_set_by (is_at (nat_cmp h) e.0) q h t e es (set_value (is_at (nat_cmp h)) es t) refl apart (other_set q h t es apart)

  same_set_by : (b : Bool) (h : ℕ) (t x : T) (e : ℕ × T) (es rest : List (ℕ × T)) → is_at (nat_cmp h) e.0 ≡ b
      → cond b (Some e.1) (lookup (is_at (nat_cmp h)) es) ≡ Some x
      → (lookup (is_at (nat_cmp h)) es ≡ Some x → lookup (is_at (nat_cmp h)) rest ≡ Some t)
      → lookup (is_at (nat_cmp h)) (cond b ((e.0, t) ∷ es) (e ∷ rest)) ≡ Some t
  same_set_by true h t x e es rest is some kept = rw is refl
  same_set_by false h t x e es rest is some kept = rw is (kept some)

  same_set : (h : ℕ) (t x : T) (es : List (ℕ × T)) → lookup (is_at (nat_cmp h)) es ≡ Some x
      → lookup (is_at (nat_cmp h)) (set_value (is_at (nat_cmp h)) es t) ≡ Some t
  same_set h t x [] some = absurd (let e = some in cc)
  same_set h t x (e ∷ es) some =
      same_set_by (is_at (nat_cmp h) e.0) h t x e es (set_value (is_at (nat_cmp h)) es t) refl some (same_set h t x es)

  pub set-written : (m n : BTreeMap ℕ T) (x : ℕ) (old v : T) → under m x ≡ Some old → n.entries ≡ set_value (is_at (nat_cmp x)) m.entries v
      → IsWritten x (Some v) (under m) (under n)
  set-written m n x old v some is = record {
    here = ap (lookup (is_at (nat_cmp x))) is ∙ same_set x v old m.entries some;
    others = λ k apart. ap (lookup (is_at (nat_cmp k))) is ∙ other_set k x v m.entries apart;
  }

  -- No value behind the slots
  pub within-write : (gs hs : List ℕ) (f g : ℕ → Option T) (i : ℕ) (o : Option T) → IsWithin gs f → i < length hs → length gs ≤ length hs
      → length hs < 2 ^ 32 → IsWritten i o f g → IsWithin hs g
  within-write gs hs f g i o within inside more few w = record {
    few = few;
    within = λ k l. w.others k (λ e. omega (arith, e, l, inside)) ∙ within.within k (omega (arith, l, more));
  }

  -- What a free slot has
  pub free-slot : (gs : List ℕ) (f : ℕ → Option T) (limit first i : ℕ) (t : Table T) → table_in gs f limit first ≡ t
      → is_free_one (slice_get t.cells i) ≡ true → (i < length gs) × (get_or gs i 0 < GENERATIONS) × (f i ≡ None)
  free-slot gs f limit first i t seen h =
      elim (cases_lt i (length gs)) [
        | inl l ↦
            let cell = cell-some gs f limit first i (get_or gs i 0) t seen (slice_get-get_or gs i 0 l) in
            let parts = by_parts (f i) (nat_lt (get_or gs i 0) GENERATIONS) (sym (ap is_free_one cell) ∙ h) in
            (l, ltb-true (get_or gs i 0) GENERATIONS parts.1, parts.0)
        | inr l ↦ absurd (let none = ap (is_free_one {T = T}) (cell-none gs f limit first i t seen l) in cc)
      ]
    where
      by_parts : (o : Option T) (b : Bool) → (not (is_some o) && b) ≡ true → (o ≡ None) × (b ≡ true)
      by_parts None b h = (refl, h)
      by_parts (Some v) b h = cc

  pub any-free : (cs : List (Cell T)) (i : ℕ) → is_free_one (slice_get cs i) ≡ true → list_any is_free cs ≡ true
  any-free [] i h = cc
  any-free (c ∷ cs) zero h = rw h refl
  any-free (c ∷ cs) (suc i) h = or_right (is_free c) (list_any is_free cs) (any-free cs i h)
    where
      or_right : (a b : Bool) → b ≡ true → (a || b) ≡ true
      or_right true b h = refl
      or_right false b h = h

  pub none-free : (cs : List (Cell T)) → ((k : ℕ) → k < length cs → is_free_one (slice_get cs k) ≡ false) → list_any is_free cs ≡ false
  none-free [] h = refl
  none-free (c ∷ cs) h = rw (h 0 (omega arith)) (none-free cs (λ k l. h (suc k) (omega arith)))

  pub gives-reuse : (v : T) (i : ℕ) (old new : Table T) (r : Result Key (GiveFault T)) → is_free_one (slice_get old.cells i) ≡ true
      → IfOk r (λ key. Reuses key v old new) → IfOk r (λ key. Gives key v old new)
  gives-reuse v i old new (Ok key) h reuses = subst (λ (b : Bool). GivesBy b key v old new) (sym (any-free old.cells i h)) reuses
  gives-reuse v i old new (Err fault) h reuses = tt

  pub reuses : (gs : List ℕ) (f g : ℕ → Option T) (limit first i x : ℕ) (v : T) (t : Table T) → table_in gs f limit first ≡ t
      → is_free_one (slice_get t.cells i) ≡ true → x ≡ get_or gs i x → IsWritten i (Some v) f g
      → Reuses (record { slot = i; generation = x }) v t (table_in gs g limit first)
  reuses gs f g limit first i x v t seen h is w =
      let free = free-slot gs f limit first i t seen h in
      let same : x ≡ get_or gs i 0 = is ∙ default-other gs i x 0 free.0 in
      let cell = cell-some gs f limit first i x t seen (slice_get-get_or gs i x free.0 ∙ ap (λ k. Some k) (sym is)) in
      record {
        free = cell ∙ ap (λ (o : Option T). Some (record { generation = x; value = o })) free.2;
        usable = (let below = free.1 in omega (arith, below, same));
        after =
            ap (λ cs. record { cells = cs; limit = limit; first = first })
            (cells-set gs gs f g i x (Some v) free.0 (sym (ap (set gs i) is ∙ set-get_or gs i x)) w)
            ∙ ap (after_replace (record { slot = i; generation = x }) v) seen;
      }

  pub reused-below : (gs : List ℕ) (f : ℕ → Option T) (limit first i x : ℕ) (t : Table T) → table_in gs f limit first ≡ t
      → is_free_one (slice_get t.cells i) ≡ true → x ≡ get_or gs i x → x < GENERATIONS
  reused-below gs f limit first i x t seen h is =
      let free = free-slot gs f limit first i t seen h in
      let same : x ≡ get_or gs i 0 = is ∙ default-other gs i x 0 free.0 in
      let below = free.1 in
      omega (arith, below, same)

  pub opens : (gs hs : List ℕ) (f g : ℕ → Option T) (limit first n y : ℕ) (v : T) (t : Table T) → table_in gs f limit first ≡ t
      → hs ≡ gs ++ y ∷ [] → y ≡ first → n ≡ length gs → IsWritten n (Some v) f g
      → Opens (record { slot = n; generation = first }) v t (table_in hs g limit first)
  opens gs hs f g limit first n y v t seen is begins size w = record {
    slot = size ∙ sym (length-cells gs f limit first t seen);
    generation = ap (λ (u : Table T). u.first) seen;
    after =
        ap (λ cs. record { cells = cs; limit = limit; first = first })
        (cells-add gs hs f g first (Some v) (is ∙ ap (λ k. gs ++ k ∷ []) begins) (subst (λ k. IsWritten k (Some v) f g) size w))
        ∙ ap (λ (u : Table T). record { cells = u.cells ++ record { generation = u.first; value = Some v } ∷ []; limit = u.limit; first = u.first }) seen;
  }

  -- A value less, and another one
  pub takes : (gs hs : List ℕ) (f g : ℕ → Option T) (limit first y : ℕ) (key : Key) (t : Table T) → table_in gs f limit first ≡ t
      → key.slot < length gs → hs ≡ set gs key.slot y → y ≡ key.generation + 1 → IsWritten key.slot None f g
      → table_in hs g limit first ≡ after_take key t
  takes gs hs f g limit first y key t seen inside is more w =
      ap (λ cs. record { cells = cs; limit = limit; first = first })
      (cells-set gs hs f g key.slot y None inside is w ∙ ap (λ k. set (cells_in gs f) key.slot (record { generation = k; value = None })) more)
      ∙ ap (after_take key) seen

  pub replaces : (gs : List ℕ) (f g : ℕ → Option T) (limit first : ℕ) (key : Key) (v : T) (t : Table T) → table_in gs f limit first ≡ t
      → key.slot < length gs → get_or gs key.slot 0 ≡ key.generation → IsWritten key.slot (Some v) f g
      → table_in gs g limit first ≡ after_replace key v t
  replaces gs f g limit first key v t seen inside is w =
      ap (λ cs. record { cells = cs; limit = limit; first = first })
      (cells-set gs gs f g key.slot key.generation (Some v) inside (sym (ap (set gs key.slot) (sym is) ∙ set-get_or gs key.slot 0)) w)
      ∙ ap (after_replace key v) seen

  -- One more held, or as many
  pub held-more : (cs : List (Cell T)) (k n : ℕ) → k < length cs → is_held_one (slice_get cs k) ≡ true
      → n ≡ count_by (λ c. is_some c.value) (take k cs) → n + 1 ≡ count_by (λ c. is_some c.value) (take (k + 1) cs)
  held-more cs k n l h is =
      let d : Cell T = record { generation = 0; value = None } in
      let yes = count_by_more_yes (λ c. is_some c.value) cs k d l (sym (ap is_held_one (slice_get-get_or cs k d l)) ∙ h) in
      omega (arith, is, yes)

  pub held-same : (cs : List (Cell T)) (k n : ℕ) → k < length cs → is_held_one (slice_get cs k) ≡ false
      → n ≡ count_by (λ c. is_some c.value) (take k cs) → n ≡ count_by (λ c. is_some c.value) (take (k + 1) cs)
  held-same cs k n l h is =
      let d : Cell T = record { generation = 0; value = None } in
      let no = count_by_more_no (λ c. is_some c.value) cs k d l (sym (ap is_held_one (slice_get-get_or cs k d l)) ∙ h) in
      omega (arith, is, no)

-- A result, by what it is
pub if-ok : {E : Type 0} {X : Type 0} {P Q : X → Type 0} (r : Result X E) → ((x : X) → P x → Q x) → IfOk r P → IfOk r Q
if-ok (Ok x) h p = h x p
if-ok (Err e) h p = tt

pub if-err : {E : Type 0} {X : Type 0} {P Q : E → Type 0} (r : Result X E) → ((e : E) → P e → Q e) → IfErr r P → IfErr r Q
if-err (Ok x) h p = tt
if-err (Err e) h p = h e p

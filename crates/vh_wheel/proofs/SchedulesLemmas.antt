-- What each call makes of what is held.
use Rattle.std.proofs.Common.{◌≡◌, ℕ, zero, suc, ◌+◌, ◌/◌, ◌%◌, ◌<◌, ◌≤◌, ◌≢◌, List, [], ◌∷◌, ◌++◌, length, set, refl, ap, arith, ◌∙◌, sym, subst, true, false, eqb, Option, Some, None, inl, inr, cond}
use Rattle.std.specs.Prelude.{IfSome, count_by}
use Rattle.std.proofs.lemmas.Bool.{eq-eqb, ne_eqb, cases_eq, cases_lt}
use Rattle.std.proofs.lemmas.List.{get_or-set_same}
use Rattle.std.proofs.Math.Seq.{get_or-append_seam}
use Rattle.std.proofs.lemmas.List.Sums.{sum_by-set, sum_by_push}
use Rattle.vh_links.proofs.ListsLemmas.{length-mapped}
use Rattle.vh_wheel.specs.declared.node.Node.{Node}
use Rattle.vh_wheel.specs.Schedule.{Entry, Schedule, entry_at, is_held, held_in, least_time, has_time, without, after_cancel, Schedules, Takes, moves_left}
use Rattle.vh_wheel.specs.Views.{bucket_from, nowhere, node_at, bucket_at, with_bucket, entry_of, entries_of, schedule_in, HasPosition, ArePlaced, AreLater, AreFrom, IsLeast, moves_at, moves_of_all}
use Rattle.vh_wheel.proofs.TimesLemmas.{later-bucket, level-falls, low-time, bucket-now, bucket-range, has-bytes}
use Rattle.vh_wheel.proofs.NodesLemmas.{entry-held, entry-free, entry-is, held-node, node-held, least-is, least-none, later-all, has-no-time, all-held, moves-set, moves-add, moves-held, moves-free, moves-are}
use Rattle.vh_wheel.proofs.MovesLemmas.{nodes-set, nodes-add, entries-set, entries-add}

-- No held node is before the least time
pub later-nodes : (ns : List Node) (t : ℕ) → IfSome (least_time (entries_of ns)) (λ u. t ≤ u) → AreLater t ns
later-nodes ns t h x k held = later-all (entries_of ns) t h x _ (node-held ns x held)

-- The least time is that of the first bucket
pub least-of : (p : ℕ) (ns : List Node) (x t : ℕ) → ArePlaced p ns → x < length ns → bucket_at ns x < 2048 → AreFrom (bucket_at ns x) ns
    → IsLeast (bucket_at ns x) ns t → Some t ≡ least_time (entries_of ns)
least-of p ns x t placed h low from least =
    let b : ℕ = bucket_at ns x in
    let y : ℕ = least.some.0 in
    let n : Node = node_at ns y in
    let held : n.bucket ≢ 2048 = λ e. omega (arith, e, least.some.2, low) in
    let position : HasPosition p n = placed y least.some.1 held in
    let is : n.time ≡ t = least.some.3 in
    ap (λ u. Some u) (sym is) ∙
    least-is (entries_of ns) y (record { time = n.time; payload = n.payload }) (node-held ns y held)
    (λ z f k.
    let other = held-node ns z f k in
    let m : Node = node_at ns z in
    let its : HasPosition p m = placed z other.0 other.1 in
    let after : b ≤ m.bucket = from z other.0 in
    elim (cases_eq m.bucket b) [
      | inl e ↦ let l = least.all z other.0 e in omega (arith, l, is, other.2)
      | inr e ↦
          elim (cases_lt m.time n.time) [
            | inl l ↦
                let no = later-bucket 7 p m.time n.time its.later (omega (arith, l)) in
                absurd (omega (arith, no, its.bucket, position.bucket, least.some.2, after, e))
            | inr l ↦ omega (arith, l, other.2)
          ]
    ])

-- All nodes of a bucket of the lowest level have its time
pub least-low : (p : ℕ) (ns : List Node) (x : ℕ) → ArePlaced p ns → x < length ns → bucket_at ns x < 256 → IsLeast (bucket_at ns x) ns (node_at ns x).time
least-low p ns x placed h low =
    let n : Node = node_at ns x in
    let position : HasPosition p n = placed x h (λ e. omega (arith, e, low)) in
    record {
      some = (x, h, refl, refl);
      all = λ y k e.
          let m : Node = node_at ns y in
          let its : HasPosition p m = placed y k (λ f. omega (arith, e, f, low)) in
          let same : m.time ≡ n.time = low-time p n.time m.time (omega (arith, low, position.bucket)) (sym its.bucket ∙ e ∙ position.bucket) in
          omega (arith, same);
    }

-- Nothing is held where all nodes are free
beyond : (ns : List Node) (x : ℕ) → length ns ≤ x → node_at ns x ≡ nowhere
beyond [] x h = refl
beyond (n ∷ ns) zero h = absurd (omega arith)
beyond (n ∷ ns) (suc x) h = beyond ns x (omega arith)

all-free : (p : ℕ) (ns : List Node) → ArePlaced p ns → AreFrom 2048 ns → (x : ℕ) → bucket_at ns x ≡ 2048
all-free p ns placed from x =
    elim (cases_lt x (length ns)) [
      | inl l ↦
          elim (cases_eq (bucket_at ns x) 2048) [
            | inl e ↦ e
            | inr e ↦
                let position = placed x l e in
                let low = bucket-range 7 p (node_at ns x).time (has-bytes (node_at ns x).time position.fits) in
                absurd (omega (arith, low, position.bucket, from x l))
          ]
      | inr l ↦ ap (λ (n : Node). n.bucket) (beyond ns x l)
    ]

pub none-held : (p : ℕ) (ns : List Node) → ArePlaced p ns → AreFrom 2048 ns → None ≡ least_time (entries_of ns)
none-held p ns placed from = least-none (entries_of ns) (λ x. entry-is ns x ∙ entry-free (node_at ns x) (all-free p ns placed from x))

-- A node of the present time's bucket has that time
due-time : (t : ℕ) (n : Node) → HasPosition t n → n.bucket ≡ t % 256 → n.time ≡ t
due-time t n position at =
    elim (cases_eq n.time t) [
      | inl e ↦ e
      | inr e ↦
          let falls = level-falls 7 t t n.time (omega arith) position.later (sym position.bucket ∙ at ∙ sym (bucket-now t)) e in
          absurd (omega (arith, falls))
    ]

low-held : (t : ℕ) (n : Node) → n.bucket ≡ t % 256 → n.bucket ≢ 2048
low-held t n at e = omega (arith, at, e)

-- Nothing is due
pub takes-none : (t p : ℕ) (ns ms : List Node) (o : Option ℕ) (old : Schedule) → schedule_in ns p ≡ old → entries_of ms ≡ entries_of ns
    → ArePlaced t ms → ((x : ℕ) → x < length ms → bucket_at ms x ≢ t % 256) → o ≡ None → Takes t o old (schedule_in ms t)
takes-none t p ns ms o old seen same placed none is =
    let entries : entries_of ms ≡ old.entries = same ∙ ap (λ (s : Schedule). s.entries) seen in
    let nothing : has_time t (entries_of ms) ≡ false =
    has-no-time (entries_of ms) t (λ x e k s.
    let n = held-node ms x e k in
    let position = placed x n.0 n.1 in
    none x n.0 (position.bucket ∙ ap (λ u. bucket_from 7 t u) (n.2 ∙ s) ∙ bucket-now t)) in
    subst (λ (r : Option ℕ). Takes t r old (schedule_in ms t)) (sym is)
    (sym (ap (has_time t) entries) ∙ nothing, ap (λ (es : List (Option Entry)). record { entries = es; present = t }) entries)

-- One is taken
pub takes-due : (t p x v : ℕ) (ns ms ks : List Node) (old : Schedule) → schedule_in ns p ≡ old → entries_of ms ≡ entries_of ns
    → ArePlaced t ms → x < length ms → bucket_at ms x ≡ t % 256 → v ≡ (node_at ms x).payload
    → ks ≡ set ms x (with_bucket 2048 (node_at ms x)) → Takes t (Some v) old (schedule_in ks t)
takes-due t p x v ns ms ks old seen same placed h at payload made =
    let n : Node = node_at ms x in
    let entries : entries_of ms ≡ old.entries = same ∙ ap (λ (s : Schedule). s.entries) seen in
    let held : n.bucket ≢ 2048 = low-held t n at in
    let time : n.time ≡ t = due-time t n (placed x h held) at in
    let entry : entry_at x old.entries ≡ Some (record { time = t; payload = v }) =
    ap (entry_at x) (sym entries) ∙ node-held ms x held
    ∙ ap (λ u. Some (record { time = u; payload = n.payload })) time
    ∙ ap (λ u. Some (record { time = t; payload = u })) (sym payload) in
    let gone : entries_of ks ≡ without x old.entries =
    ap entries_of made ∙ entries-set ms x (with_bucket 2048 n) ∙ ap (λ (o : Option Entry). set (entries_of ms) x o) (entry-free (with_bucket 2048 n) refl)
    ∙ ap (without x) entries in
    (x, entry, ap (λ (es : List (Option Entry)). record { entries = es; present = t }) gone)

-- The moves that are left, before and after
pub moves-seen : (p : ℕ) (ns : List Node) (s : Schedule) → schedule_in ns p ≡ s → ArePlaced p ns → moves_left s ≡ moves_of_all ns
moves-seen p ns s seen placed = sym (ap moves_left seen) ∙ moves-are p ns placed

pub freed-placed : (t x : ℕ) (ms ks : List Node) → ArePlaced t ms → x < length ms → ks ≡ set ms x (with_bucket 2048 (node_at ms x)) → ArePlaced t ks
freed-placed t x ms ks placed h made =
    subst (λ (ns : List Node). ArePlaced t ns) (sym made)
    (nodes-set (λ (n : Node). n.bucket ≢ 2048 → HasPosition t n) ms x (with_bucket 2048 (node_at ms x)) h (λ ne. absurd (ne refl)) placed)

pub freed-moves : (x : ℕ) (ms ks : List Node) → x < length ms → ks ≡ set ms x (with_bucket 2048 (node_at ms x)) → moves_of_all ks ≤ moves_of_all ms
freed-moves x ms ks h made =
    let total = moves-set ms x (with_bucket 2048 (node_at ms x)) h in
    let none : moves_at (with_bucket 2048 (node_at ms x)) ≡ 0 = moves-free (with_bucket 2048 (node_at ms x)) refl in
    omega (arith, total, none, ap moves_of_all made)

-- What is held under a node is taken out
pub cancels : (p x : ℕ) (ns ms : List Node) (old : Schedule) → schedule_in ns p ≡ old → ms ≡ set ns x (with_bucket 2048 (node_at ns x))
    → schedule_in ms p ≡ after_cancel x old
cancels p x ns ms old seen made =
    let gone : entries_of ms ≡ without x (entries_of ns) =
    ap entries_of made ∙ entries-set ns x (with_bucket 2048 (node_at ns x))
    ∙ ap (λ (o : Option Entry). set (entries_of ns) x o) (entry-free (with_bucket 2048 (node_at ns x)) refl) in
    ap (λ (es : List (Option Entry)). record { entries = es; present = p }) gone ∙ ap (after_cancel x) seen

-- Something more is held, under a free node
pub schedules-put : (p x : ℕ) (n : Node) (ns ms : List Node) (old : Schedule) → schedule_in ns p ≡ old → x < length ns → bucket_at ns x ≡ 2048
    → n.bucket ≢ 2048 → ms ≡ set ns x n → Schedules x (record { time = n.time; payload = n.payload }) old (schedule_in ms p)
schedules-put p x n ns ms old seen h free held made =
    let e : Entry = record { time = n.time; payload = n.payload } in
    let other : eqb x (length (entries_of ns)) ≡ false = ne_eqb x (length (entries_of ns)) (λ s. omega (arith, s, h, length-mapped entry_of ns)) in
    let put : entries_of ms ≡ set (entries_of ns) x (Some e) =
    ap entries_of made ∙ entries-set ns x n ∙ ap (λ (o : Option Entry). set (entries_of ns) x o) (entry-held n held) in
    subst (λ (s : Schedule). Schedules x e s (schedule_in ms p)) seen
    (record {
      free = entry-is ns x ∙ entry-free (node_at ns x) free;
      there = ap (entry_at x) put ∙ get_or-set_same (entries_of ns) x (Some e) None (omega (arith, h, length-mapped entry_of ns));
      entries = rw other put;
      within = omega (arith, h, length-mapped entry_of ns);
      present = refl;
    })

-- Or under a new one
pub schedules-add : (p : ℕ) (n : Node) (ns ms : List Node) (old : Schedule) → schedule_in ns p ≡ old
    → n.bucket ≢ 2048 → ms ≡ ns ++ n ∷ [] → Schedules (length ns) (record { time = n.time; payload = n.payload }) old (schedule_in ms p)
schedules-add p n ns ms old seen held made =
    let e : Entry = record { time = n.time; payload = n.payload } in
    let same : eqb (length ns) (length (entries_of ns)) ≡ true = eq-eqb (length ns) (length (entries_of ns)) (sym (length-mapped entry_of ns)) in
    let put : entries_of ms ≡ entries_of ns ++ Some e ∷ [] =
    ap entries_of made ∙ entries-add ns n ∙ ap (λ (o : Option Entry). entries_of ns ++ o ∷ []) (entry-held n held) in
    subst (λ (s : Schedule). Schedules (length ns) e s (schedule_in ms p)) seen
    (record {
      free = entry-is ns (length ns) ∙ ap entry_of (end ns);
      there = ap (entry_at (length ns)) put ∙ ap (λ y. entry_at y (entries_of ns ++ Some e ∷ [])) (sym (length-mapped entry_of ns)) ∙ get_or-append_seam (entries_of ns) (Some e) [] None;
      entries = rw same put;
      within = omega (arith, length-mapped entry_of ns);
      present = refl;
    })
  where
    end : (ns : List Node) → node_at ns (length ns) ≡ nowhere
    end [] = refl
    end (n ∷ ns) = end ns

pub moves-put : (p x : ℕ) (n : Node) (ns ms : List Node) (old : Schedule) → schedule_in ns p ≡ old → x < length ns → bucket_at ns x ≡ 2048
    → ArePlaced p ns → HasPosition p n → n.bucket < 2048 → ms ≡ set ns x n → moves_left (schedule_in ms p) ≤ moves_left old + 8
moves-put p x n ns ms old seen h free placed position low made =
    let after : ArePlaced p ms = subst (λ (ks : List Node). ArePlaced p ks) (sym made)
    (nodes-set (λ (m : Node). m.bucket ≢ 2048 → HasPosition p m) ns x n h (λ _. position) placed) in
    let total = moves-set ns x n h in
    let none : moves_at (node_at ns x) ≡ 0 = moves-free (node_at ns x) free in
    let held : moves_at n ≡ n.bucket / 256 = moves-held n (λ e. omega (arith, e, low)) in
    omega (arith, total, none, held, low, ap moves_of_all made, moves-are p ms after, moves-seen p ns old seen placed)

pub moves-more : (p : ℕ) (n : Node) (ns ms : List Node) (old : Schedule) → schedule_in ns p ≡ old
    → ArePlaced p ns → HasPosition p n → n.bucket < 2048 → ms ≡ ns ++ n ∷ [] → moves_left (schedule_in ms p) ≤ moves_left old + 8
moves-more p n ns ms old seen placed position low made =
    let after : ArePlaced p ms = subst (λ (ks : List Node). ArePlaced p ks) (sym made)
    (nodes-add (λ (m : Node). m.bucket ≢ 2048 → HasPosition p m) ns n (λ _. position) placed) in
    let total = moves-add ns n in
    let held : moves_at n ≡ n.bucket / 256 = moves-held n (λ e. omega (arith, e, low)) in
    omega (arith, total, held, low, ap moves_of_all made, moves-are p ms after, moves-seen p ns old seen placed)

-- Fewer nodes than may be held, where none is free
pub few-nodes : (p k : ℕ) (ns : List Node) (s : Schedule) → schedule_in ns p ≡ s → ((x : ℕ) → x < length ns → bucket_at ns x ≢ 2048)
    → count_by is_held s.entries < k → length ns < k
few-nodes p k ns s seen held few =
    let all : count_by is_held (entries_of ns) ≡ length (entries_of ns) =
    all-held (entries_of ns) (λ x h. ap is_held (node-held ns x (held x (omega (arith, h, length-mapped entry_of ns))))) in
    let count : count_by is_held (entries_of ns) ≡ count_by is_held s.entries = ap (λ (t : Schedule). count_by is_held t.entries) seen in
    omega (arith, all, count, few, length-mapped entry_of ns)

-- How many are held
abbrev bit : Option Entry → ℕ
bit o = cond (is_held o) 1 0

entry-inside : (es : List (Option Entry)) (x : ℕ) (e : Entry) → entry_at x es ≡ Some e → x < length es
entry-inside [] x e h = cc
entry-inside (o ∷ es) zero e h = omega arith
entry-inside (o ∷ es) (suc x) e h = let rest = entry-inside es x e h in omega (arith, rest)

held-set : (es : List (Option Entry)) (x : ℕ) (e : Entry) → x < length es → entry_at x es ≡ None → held_in (set es x (Some e)) ≡ held_in es + 1
held-set es x e h free =
    let total = sum_by-set bit es x (Some e) None h in
    let none : bit (entry_at x es) ≡ 0 = ap bit free in
    omega (arith, total, none)

pub held-without : (es : List (Option Entry)) (x : ℕ) (e : Entry) → entry_at x es ≡ Some e → held_in (without x es) + 1 ≡ held_in es
held-without es x e is =
    let total = sum_by-set bit es x None None (entry-inside es x e is) in
    let one : bit (entry_at x es) ≡ 1 = ap bit is in
    omega (arith, total, one)

pub schedules-held : (x : ℕ) (e : Entry) (old new : Schedule) → Schedules x e old new → held_in new.entries ≡ held_in old.entries + 1
schedules-held x e old new s =
    elim (cases_eq x (length old.entries)) [
      | inl h ↦
          let is : new.entries ≡ old.entries ++ Some e ∷ [] = s.entries ∙ rw (eq-eqb x (length old.entries) h) refl in
          ap held_in is ∙ sum_by_push bit old.entries (Some e)
      | inr h ↦
          let is : new.entries ≡ set old.entries x (Some e) = s.entries ∙ rw (ne_eqb x (length old.entries) h) refl in
          ap held_in is ∙ held-set old.entries x e (omega (arith, s.within, h)) s.free
    ]

pub takes-held : (t p : ℕ) (old new : Schedule) → Takes t (Some p) old new → held_in new.entries + 1 ≡ held_in old.entries
takes-held t p old new s =
    ap (λ (k : Schedule). held_in k.entries + 1) s.2 ∙ held-without old.entries s.0 (record { time = t; payload = p }) s.1

pub cancels-held : (x : ℕ) (old new : Schedule) → new ≡ after_cancel x old → is_held (entry_at x old.entries) ≡ true → held_in new.entries + 1 ≡ held_in old.entries
cancels-held x old new made held =
    let some = held-some (entry_at x old.entries) held in
    ap (λ (k : Schedule). held_in k.entries + 1) made ∙ held-without old.entries x some.0 some.1
  where
    held-some : (o : Option Entry) → is_held o ≡ true → (e : Entry) × (o ≡ Some e)
    held-some None h = cc
    held-some (Some e) h = (e, refl)

-- What the index keeps beside the callbacks, through a registration and a removal.
use Rattle.std.proofs.Common.{◌≡◌, ◌<◌, ◌≤◌, ◌+◌, ◌++◌, ℕ, List, [], ◌∷◌, map, filter, length, Bool, true, false, cond, not, refl, sym, ap, ◌∙◌, arith, slice_get, Option, Some, None, Less, Equal, Greater}
use Rattle.std.proofs.lemmas.Bool.{eqb-true, ne_eqb, eq-eqb, and_parts}
use Rattle.std.proofs.lemmas.List.{append-nil}
use Rattle.std.proofs.lemmas.List.Elements.{filter-append}
use Rattle.std.specs.BTreeMap.{is_at}
use Rattle.std.specs.Cmp.{nat_eq_equiv}
use Rattle.std.specs.Map.{lookup, set_value}
use Rattle.std.specs.Option.{option_cmp}
use Rattle.std.specs.Ordering.{nat_cmp, is_eq, ordering_then}
use Rattle.std.specs.declared.cmp.Ordering.{Ordering}
use Rattle.std.specs.Prelude.{nat_eq, ◌&&◌, is_some}
use Rattle.vh_base.specs.declared.limits.TheConstants.{MOST_CALLBACKS}
use Rattle.vh_base.specs.declared.orders.Object.{Object}
use Rattle.vh_base.specs.declared.words.Reason.{Reason}
use Rattle.vh_callbacks.specs.declared.index.Watch.{Watch}
use Rattle.vh_callbacks.specs.declared.live.Live.{Live}
use Rattle.vh_callbacks.specs.Registration.{same_word, same_reason, same_object}
use Rattle.vh_callbacks.specs.Callbacks.{Rise, IsRising, live_at, without, changed, changed_by, has_reason, numbers_of, any_of}
use Rattle.vh_callbacks.specs.Watching.{watch, watch_cmp, watches, watchers, listed, list_under, numbers_under, if_any, Indexes}
use Rattle.vh_callbacks.specs.Marks.{without_number, IsSet}
use Rattle.vh_callbacks.proofs.CallbacksLemmas.{from_lower, at_eq, live_below, live_above, some}

-- ---- when two watch the same

is_eq_then : (p q : Ordering) → is_eq (ordering_then p q) ≡ (is_eq p && is_eq q)
is_eq_then Less q = refl
is_eq_then Equal q = refl
is_eq_then Greater q = refl

is_eq_option : (x y : Option ℕ) → is_eq (option_cmp nat_cmp x y) ≡ same_word x y
is_eq_option None None = refl
is_eq_option None (Some y) = refl
is_eq_option (Some x) None = refl
is_eq_option (Some x) (Some y) = at_eq x y

and_both : (p p' q q' : Bool) → p ≡ p' → q ≡ q' → (p && q) ≡ (p' && q')
and_both p p' q q' e f = rw (e, f) refl

abbrev watch_eq : Watch → Watch → Bool
watch_eq a b = nat_eq a.reason b.reason && (same_word a.object b.object && same_word a.word b.word)

at_watch : (a b : Watch) → is_at (watch_cmp a) b ≡ watch_eq a b
at_watch a b =
    let objects : Ordering = option_cmp nat_cmp a.object b.object in
    let words : Ordering = option_cmp nat_cmp a.word b.word in
    is_eq_then (nat_cmp a.reason b.reason) (ordering_then objects words)
    ∙ and_both (is_eq (nat_cmp a.reason b.reason)) (nat_eq a.reason b.reason) (is_eq (ordering_then objects words)) (same_word a.object b.object && same_word a.word b.word)
    (at_eq a.reason b.reason)
    (is_eq_then objects words ∙ and_both (is_eq objects) (same_word a.object b.object) (is_eq words) (same_word a.word b.word) (is_eq_option a.object b.object) (is_eq_option a.word b.word))

same_word_turned : (x y : Option ℕ) → same_word x y ≡ same_word y x
same_word_turned None None = refl
same_word_turned None (Some y) = refl
same_word_turned (Some x) None = refl
same_word_turned (Some x) (Some y) = nat_eq_equiv.symm x y

pub watch_turned : (a b : Watch) → is_at (watch_cmp a) b ≡ is_at (watch_cmp b) a
watch_turned a b =
    at_watch a b
    ∙ and_both (nat_eq a.reason b.reason) (nat_eq b.reason a.reason) (same_word a.object b.object && same_word a.word b.word) (same_word b.object a.object && same_word b.word a.word)
    (nat_eq_equiv.symm a.reason b.reason)
    (and_both (same_word a.object b.object) (same_word b.object a.object) (same_word a.word b.word) (same_word b.word a.word) (same_word_turned a.object b.object) (same_word_turned a.word b.word))
    ∙ sym (at_watch b a)

same_watch : (a b : Reason) (x y : Option Object) → watch_eq (watch a x) (watch b y) ≡ (same_reason a b && same_object x y)
same_watch a b None None = refl
same_watch a b None (Some y) = refl
same_watch a b (Some x) None = refl
same_watch a b (Some x) (Some y) = refl

same_word_exact : (x y : Option ℕ) → same_word x y ≡ true → x ≡ y
same_word_exact None None same = refl
same_word_exact None (Some y) same = cc
same_word_exact (Some x) None same = cc
same_word_exact (Some x) (Some y) same = ap (λ (n : ℕ). Some n) (eqb-true x y same)

abbrev made : ℕ → Option ℕ → Option ℕ → Watch
made r o w = record { reason = r; object = o; word = w }

same_parts : (r r' : ℕ) (o o' w w' : Option ℕ) → r ≡ r' → o ≡ o' → w ≡ w' → made r o w ≡ made r' o' w'
same_parts r r' o o' w w' e f g = rw (e, f, g) refl

watch_exact : (a b : Watch) → is_at (watch_cmp a) b ≡ true → a ≡ b
watch_exact a b same =
    let all : watch_eq a b ≡ true = sym (at_watch a b) ∙ same in
    let first = and_parts (nat_eq a.reason b.reason) (same_word a.object b.object && same_word a.word b.word) all in
    let second = and_parts (same_word a.object b.object) (same_word a.word b.word) first.1 in
    same_parts a.reason b.reason a.object b.object a.word b.word (eqb-true a.reason b.reason first.0)
    (same_word_exact a.object b.object second.0) (same_word_exact a.word b.word second.1)

-- ---- what a change of the index at one place does everywhere

abbrev pub Entries : Type 0
Entries = List (Watch × List ℕ)

-- The index has w under k, and elsewhere what it had.
abbrev pub ChangesAt : Watch → Entries → Entries → Option (List ℕ) → Type 0
ChangesAt k old new w = (q : Watch) → lookup (is_at (watch_cmp q)) new ≡ cond (is_at (watch_cmp k) q) w (lookup (is_at (watch_cmp q)) old)

-- So it has what that is.
pub list_changed : (k : Watch) (old new : Entries) (w o : Option (List ℕ)) → ChangesAt k old new w → w ≡ o
    → (q : Watch) → list_under q new ≡ cond (is_at (watch_cmp k) q) o (list_under q old)
list_changed k old new w o upd is q = upd q ∙ ap (λ (p : Option (List ℕ)). cond (is_at (watch_cmp k) q) p (list_under q old)) is

same_head : (k q : Watch) (old : Entries) (o : Option (List ℕ)) (b : Bool) → is_at (watch_cmp k) q ≡ b → list_under k old ≡ o
    → list_under q old ≡ cond b o (list_under q old)
same_head k q old o true is was = ap (λ (z : Watch). list_under z old) (sym (watch_exact k q is)) ∙ was
same_head k q old o false is was = refl

-- What is there already.
pub list_same : (k : Watch) (old : Entries) (o : Option (List ℕ)) → list_under k old ≡ o
    → (q : Watch) → list_under q old ≡ cond (is_at (watch_cmp k) q) o (list_under q old)
list_same k old o was q = same_head k q old o (is_at (watch_cmp k) q) refl was

-- ---- lists that are there where they have a number

listed_any : (ns : List ℕ) → listed (if_any ns) ≡ ns
listed_any [] = refl
listed_any (n ∷ ns) = refl

any_more : (ns : List ℕ) (n : ℕ) → if_any (ns ++ n ∷ []) ≡ Some (ns ++ n ∷ [])
any_more [] n = refl
any_more (m ∷ ns) n = refl

filled : (ns : List ℕ) → not (nat_eq (length ns) 0) ≡ is_some (slice_get ns 0)
filled [] = refl
filled (n ∷ ns) = ap not (ne_eqb (length (n ∷ ns)) 0 (λ none. omega arith))

module _ {B : Type 0} where
  watches_reason : (reason : Reason) (object : Option Object) (e : ℕ × Live B) → watches (watch reason object) e ≡ has_reason reason object e
  watches_reason reason object e =
      at_watch (watch reason object) (watch e.1.registration.reason e.1.registration.object) ∙ same_watch reason e.1.registration.reason object e.1.registration.object

  -- the numbers of a first entry, if it is kept, and the others
  abbrev kept : Bool → ℕ × Live B → List (ℕ × Live B) → List ℕ
  kept b e es = map (λ (f : ℕ × Live B). f.0) (cond b (e ∷ es) es)

  kept_same : (b : Bool) (e : ℕ × Live B) (fs gs : List (ℕ × Live B)) → map (λ (f : ℕ × Live B). f.0) fs ≡ map (λ (f : ℕ × Live B). f.0) gs → kept b e fs ≡ kept b e gs
  kept_same true e fs gs is = ap (λ (t : List ℕ). e.0 ∷ t) is
  kept_same false e fs gs is = is

  -- Those that watch what a reason and an object say are the matching ones.
  pub watchers_are : (reason : Reason) (object : Option Object) (es : List (ℕ × Live B)) → watchers (watch reason object) es ≡ numbers_of reason object es
  watchers_are reason object [] = refl
  watchers_are reason object (e ∷ es) =
      rw (watches_reason reason object e)
      (kept_same (has_reason reason object e) e (filter (watches (watch reason object)) es) (filter (has_reason reason object) es) (watchers_are reason object es))

  -- ---- a registration

  added_head : (w : Watch) (b : Bool) (e new : ℕ × Live B) (es : List (ℕ × Live B)) (added : List ℕ) → watchers w (es ++ new ∷ []) ≡ watchers w es ++ added
      → kept b e (filter (watches w) (es ++ new ∷ [])) ≡ kept b e (filter (watches w) es) ++ added
  added_head w true e new es added rest = ap (λ (t : List ℕ). e.0 ∷ t) rest
  added_head w false e new es added rest = rest

  one_kept : (b : Bool) (e : ℕ × Live B) → kept b e [] ≡ cond b (e.0 ∷ []) []
  one_kept true e = refl
  one_kept false e = refl

  pub watchers_more : (w : Watch) (es : List (ℕ × Live B)) (new : ℕ × Live B) → watchers w (es ++ new ∷ []) ≡ watchers w es ++ cond (watches w new) (new.0 ∷ []) []
  watchers_more w [] new = one_kept (watches w new) new
  watchers_more w (e ∷ es) new = added_head w (watches w e) e new es (cond (watches w new) (new.0 ∷ []) []) (watchers_more w es new)

  -- ---- a removal

  -- the list without a number, where the first stays or goes
  gone_head : (w : Watch) (c : ℕ) (b : Bool) (e : ℕ × Live B) (es : List (ℕ × Live B)) → nat_eq e.0 c ≡ false → without_number c (watchers w es) ≡ watchers w es
      → without_number c (kept b e (filter (watches w) es)) ≡ kept b e (filter (watches w) es)
  gone_head w c true e es apart rest = rw apart (ap (λ (t : List ℕ). e.0 ∷ t) rest)
  gone_head w c false e es apart rest = rest

  absent_head : (w : Watch) (c : ℕ) (here : Bool) (e : ℕ × Live B) (es : List (ℕ × Live B)) → is_at (nat_cmp c) e.0 ≡ here
      → cond here (Some e.1) (live_at c es) ≡ None → (live_at c es ≡ None → without_number c (watchers w es) ≡ watchers w es)
      → without_number c (watchers w (e ∷ es)) ≡ watchers w (e ∷ es)
  absent_head w c true e es is none rest = cc
  absent_head w c false e es is none rest =
      gone_head w c (watches w e) e es (nat_eq_equiv.symm e.0 c ∙ sym (at_eq c e.0) ∙ is) (rest none)

  -- A number of none is nowhere.
  pub watchers_absent : (w : Watch) (c : ℕ) (es : List (ℕ × Live B)) → live_at c es ≡ None → without_number c (watchers w es) ≡ watchers w es
  watchers_absent w c [] none = refl
  watchers_absent w c (e ∷ es) none = absent_head w c (is_at (nat_cmp c) e.0) e es refl none (watchers_absent w c es)

  first_gone : (c : ℕ) (b : Bool) (e : ℕ × Live B) (es : List (ℕ × Live B)) → nat_eq e.0 c ≡ true → without_number c (kept b e es) ≡ without_number c (map (λ (f : ℕ × Live B). f.0) es)
  first_gone c true e es same = rw same refl
  first_gone c false e es same = refl

  first_stays : (c : ℕ) (b : Bool) (e : ℕ × Live B) (fs gs : List (ℕ × Live B)) → nat_eq e.0 c ≡ false
      → map (λ (f : ℕ × Live B). f.0) fs ≡ without_number c (map (λ (f : ℕ × Live B). f.0) gs) → kept b e fs ≡ without_number c (kept b e gs)
  first_stays c true e fs gs apart rest = rw apart (ap (λ (t : List ℕ). e.0 ∷ t) rest)
  first_stays c false e fs gs apart rest = rest

  taken_head : (w : Watch) (c least : ℕ) (here : Bool) (e : ℕ × Live B) (es : List (ℕ × Live B)) (next : ℕ) → is_at (nat_cmp c) e.0 ≡ here → Rise least (e ∷ es) next
      → watchers w (without c es) ≡ without_number c (watchers w es)
      → watchers w (cond here es (e ∷ without c es)) ≡ without_number c (watchers w (e ∷ es))
  taken_head w c least true e es next is h rest =
      let same : c ≡ e.0 = eqb-true c e.0 (sym (at_eq c e.0) ∙ is) in
      sym (first_gone c (watches w e) e (filter (watches w) es) (eq-eqb e.0 c (sym same))
      ∙ watchers_absent w c es (live_below c (e.0 + 1) es next (omega arith) h.1))
  taken_head w c least false e es next is h rest =
      first_stays c (watches w e) e (filter (watches w) (without c es)) (filter (watches w) es) (nat_eq_equiv.symm e.0 c ∙ sym (at_eq c e.0) ∙ is) rest

  -- Without a callback its number is gone,
  pub watchers_without : (w : Watch) (c least : ℕ) (es : List (ℕ × Live B)) (next : ℕ) → Rise least es next → watchers w (without c es) ≡ without_number c (watchers w es)
  watchers_without w c least [] next h = refl
  watchers_without w c least (e ∷ es) next h =
      taken_head w c least (is_at (nat_cmp c) e.0) e es next refl h (watchers_without w c (e.0 + 1) es next h.1)

  other_kept : (b : Bool) (e : ℕ × Live B) (es : List (ℕ × Live B)) → b ≡ false → map (λ (f : ℕ × Live B). f.0) es ≡ kept b e es
  other_kept true e es no_one = cc
  other_kept false e es no_one = refl

  left_head : (w : Watch) (c : ℕ) (here : Bool) (l : Live B) (e : ℕ × Live B) (es : List (ℕ × Live B))
      → cond here (Some e.1) (live_at c es) ≡ Some l → watches w (c, l) ≡ false
      → (live_at c es ≡ Some l → watchers w (without c es) ≡ watchers w es)
      → watchers w (cond here es (e ∷ without c es)) ≡ watchers w (e ∷ es)
  left_head w c true l e es is other rest =
      let same : e.1 ≡ l = cc in
      other_kept (watches w e) e (filter (watches w) es) (ap (λ (k : Live B). watches w (c, k)) same ∙ other)
  left_head w c false l e es is other rest = kept_same (watches w e) e (filter (watches w) (without c es)) (filter (watches w) es) (rest is)

  -- and where something else is watched nothing changes.
  pub watchers_left : (w : Watch) (c : ℕ) (l : Live B) (es : List (ℕ × Live B)) → live_at c es ≡ Some l → watches w (c, l) ≡ false → watchers w (without c es) ≡ watchers w es
  watchers_left w c l [] is other = cc
  watchers_left w c l (e ∷ es) is other = left_head w c (is_at (nat_cmp c) e.0) l e es is other (λ rest. watchers_left w c l es rest other)

  -- ---- a change that leaves what is watched

  kept_value : (b : Bool) (n : ℕ) (x y : Live B) (es : List (ℕ × Live B)) → kept b (n, x) es ≡ kept b (n, y) es
  kept_value true n x y es = refl
  kept_value false n x y es = refl

  set_head : (w : Watch) (c : ℕ) (here : Bool) (x y : Live B) (e : ℕ × Live B) (es : List (ℕ × Live B))
      → cond here (Some e.1) (live_at c es) ≡ Some y → watches w (c, x) ≡ watches w (c, y)
      → (live_at c es ≡ Some y → watchers w (set_value (is_at (nat_cmp c)) es x) ≡ watchers w es)
      → watchers w (cond here ((e.0, x) ∷ es) (e ∷ set_value (is_at (nat_cmp c)) es x)) ≡ watchers w (e ∷ es)
  set_head w c true x y e es found same rest =
      let one : y ≡ e.1 = cc in
      let mine : watches w (c, x) ≡ watches w e = same ∙ ap (λ (z : Live B). watches w (c, z)) one in
      rw mine (kept_value (watches w e) e.0 x e.1 (filter (watches w) es))
  set_head w c false x y e es found same rest =
      kept_same (watches w e) e (filter (watches w) (set_value (is_at (nat_cmp c)) es x)) (filter (watches w) es) (rest found)

  watchers_set : (w : Watch) (c : ℕ) (x y : Live B) (es : List (ℕ × Live B)) → live_at c es ≡ Some y → watches w (c, x) ≡ watches w (c, y)
      → watchers w (set_value (is_at (nat_cmp c)) es x) ≡ watchers w es
  watchers_set w c x y [] found same = refl
  watchers_set w c x y (e ∷ es) found same =
      set_head w c (is_at (nat_cmp c) e.0) x y e es found same (λ rest. watchers_set w c x y es rest same)

  watchers_changed_by : (w : Watch) (f : Live B → Live B) (c : ℕ) (o : Option (Live B)) (es : List (ℕ × Live B)) → ((l : Live B) → watches w (c, f l) ≡ watches w (c, l))
      → live_at c es ≡ o → watchers w (changed_by o f c es) ≡ watchers w es
  watchers_changed_by w f c None es same found = refl
  watchers_changed_by w f c (Some l) es same found = watchers_set w c (f l) l es found (same l)

  -- A change that leaves what each callback watches leaves the index.
  pub indexed_changed : (f : Live B → Live B) (c : ℕ) (es : List (ℕ × Live B)) (index : Entries)
      → ((w : Watch) (l : Live B) → watches w (c, f l) ≡ watches w (c, l))
      → Indexes index es → Indexes index (changed f c es)
  indexed_changed f c es index same indexed w =
      indexed w ∙ ap if_any (sym (watchers_changed_by w f c (live_at c es) es (same w) refl))

  -- ---- the index beside the callbacks

  pub numbers_are : (es : List (ℕ × Live B)) (index : Entries) → Indexes index es → (w : Watch) → numbers_under w index ≡ watchers w es
  numbers_are es index indexed w = ap listed (indexed w) ∙ listed_any (watchers w es)

  end_by : (b : Bool) (low n : ℕ) (e : ℕ × Live B) (rest : List (ℕ × Live B)) → low ≤ e.0
      → IsRising (e.0 + 1) (map (λ (f : ℕ × Live B). f.0) rest ++ n ∷ []) → IsRising low (kept b e rest ++ n ∷ [])
  end_by true low n e rest above rising = (above, rising)
  end_by false low n e rest above rising = from_lower (e.0 + 1) low (map (λ (f : ℕ × Live B). f.0) rest ++ n ∷ []) (omega arith) rising

  rising_end : (w : Watch) (low n : ℕ) (es : List (ℕ × Live B)) → Rise low es n → IsRising low (watchers w es ++ n ∷ [])
  rising_end w low n [] rise = (rise, tt)
  rising_end w low n (e ∷ es) rise = end_by (watches w e) low n e (filter (watches w) es) rise.0 (rising_end w (e.0 + 1) n es rise.1)

  few_end_by : (b : Bool) (n : ℕ) (e : ℕ × Live B) (es rest : List (ℕ × Live B))
      → length (map (λ (f : ℕ × Live B). f.0) rest ++ n ∷ []) ≤ length es + 1 → length (kept b e rest ++ n ∷ []) ≤ length (e ∷ es) + 1
  few_end_by true n e es rest few = omega arith
  few_end_by false n e es rest few = omega arith

  few_end : (w : Watch) (n : ℕ) (es : List (ℕ × Live B)) → length (watchers w es ++ n ∷ []) ≤ length es + 1
  few_end w n [] = omega arith
  few_end w n (e ∷ es) = few_end_by (watches w e) n e es (filter (watches w) es) (few_end w n es)

  -- Those that watch this, with a number above all, are a set where one more may be live.
  pub set_end : (w : Watch) (n : ℕ) (es : List (ℕ × Live B)) → Rise 1 es n → length es < MOST_CALLBACKS → IsSet (watchers w es ++ n ∷ [])
  set_end w n es rise room = record {
    rising = from_lower 1 0 (watchers w es ++ n ∷ []) (omega arith) (rising_end w 1 n es rise);
    few = (let few = few_end w n es in omega arith);
  }

  more_head : (k q : Watch) (n : ℕ) (l : Live B) (b : Bool) (es : List (ℕ × Live B)) (old : Entries) (after : Option (List ℕ))
      → k ≡ watch l.registration.reason l.registration.object → is_at (watch_cmp k) q ≡ b → Indexes old es
      → after ≡ cond b (Some (numbers_under k old ++ n ∷ [])) (list_under q old) → after ≡ if_any (watchers q (es ++ (n, l) ∷ []))
  more_head k q n l true es old after watched is indexed more =
      let mine : watches q (n, l) ≡ true = ap (λ (z : Watch). is_at (watch_cmp q) z) (sym watched) ∙ watch_turned q k ∙ is in
      let all : watchers q (es ++ (n, l) ∷ []) ≡ watchers q es ++ n ∷ [] =
      watchers_more q es (n, l) ∙ ap (λ (b : Bool). watchers q es ++ cond b (n ∷ []) []) mine in
      let was : numbers_under k old ≡ watchers q es = ap (λ (z : Watch). numbers_under z old) (watch_exact k q is) ∙ numbers_are es old indexed q in
      more ∙ ap (λ (ns : List ℕ). Some (ns ++ n ∷ [])) was ∙ sym (ap if_any all ∙ any_more (watchers q es) n)
  more_head k q n l false es old after watched is indexed more =
      let other : watches q (n, l) ≡ false = ap (λ (z : Watch). is_at (watch_cmp q) z) (sym watched) ∙ watch_turned q k ∙ is in
      let all : watchers q (es ++ (n, l) ∷ []) ≡ watchers q es =
      watchers_more q es (n, l) ∙ ap (λ (b : Bool). watchers q es ++ cond b (n ∷ []) []) other ∙ append-nil (watchers q es) in
      more ∙ indexed q ∙ ap if_any (sym all)

  -- A callback that is new has its number added where it watches.
  pub indexed_more : (k : Watch) (n : ℕ) (l : Live B) (es : List (ℕ × Live B)) (old new : Entries) → k ≡ watch l.registration.reason l.registration.object
      → Indexes old es
      → ((q : Watch) → list_under q new ≡ cond (is_at (watch_cmp k) q) (Some (numbers_under k old ++ n ∷ [])) (list_under q old))
      → Indexes new (es ++ (n, l) ∷ [])
  indexed_more k n l es old new watched indexed more q =
      more_head k q n l (is_at (watch_cmp k) q) es old (list_under q new) watched refl indexed (more q)

  undone_head : (k q : Watch) (n : ℕ) (b : Bool) (es : List (ℕ × Live B)) (old added : Entries) (after : Option (List ℕ)) → live_at n es ≡ None
      → is_at (watch_cmp k) q ≡ b → Indexes old es
      → ((q : Watch) → list_under q added ≡ cond (is_at (watch_cmp k) q) (Some (numbers_under k old ++ n ∷ [])) (list_under q old))
      → after ≡ cond b (if_any (without_number n (numbers_under k added))) (list_under q added) → after ≡ if_any (watchers q es)
  undone_head k q n true es old added after none is indexed more less =
      let here : is_at (watch_cmp k) k ≡ true = ap (λ (z : Watch). is_at (watch_cmp k) z) (watch_exact k q is) ∙ is in
      let all : numbers_under k added ≡ watchers k es ++ n ∷ [] =
      ap listed (more k ∙ ap (λ (b : Bool). cond b (Some (numbers_under k old ++ n ∷ [])) (list_under k old)) here)
      ∙ ap (λ (ns : List ℕ). ns ++ n ∷ []) (numbers_are es old indexed k) in
      let last : without_number n (n ∷ []) ≡ [] = rw (eq-eqb n n refl) refl in
      let back : without_number n (numbers_under k added) ≡ watchers k es =
      ap (without_number n) all ∙ filter-append (λ m. not (nat_eq m n)) (watchers k es) (n ∷ [])
      ∙ ap (λ (t : List ℕ). without_number n (watchers k es) ++ t) last ∙ append-nil (without_number n (watchers k es)) ∙ watchers_absent k n es none in
      less ∙ ap if_any (back ∙ ap (λ (z : Watch). watchers z es) (watch_exact k q is))
  undone_head k q n false es old added after none is indexed more less =
      less ∙ more q ∙ ap (λ (b : Bool). cond b (Some (numbers_under k old ++ n ∷ [])) (list_under q old)) is ∙ indexed q

  -- A number that was added and taken again leaves what was.
  pub undone : (k : Watch) (n : ℕ) (es : List (ℕ × Live B)) (old added new : Entries) → Rise 1 es n → Indexes old es
      → ((q : Watch) → list_under q added ≡ cond (is_at (watch_cmp k) q) (Some (numbers_under k old ++ n ∷ [])) (list_under q old))
      → ((q : Watch) → list_under q new ≡ cond (is_at (watch_cmp k) q) (if_any (without_number n (numbers_under k added))) (list_under q added))
      → Indexes new es
  undone k n es old added new rising indexed more less q =
      undone_head k q n (is_at (watch_cmp k) q) es old added (list_under q new) (live_above n 1 es n (omega arith) rising) refl indexed more (less q)

  removed_head : (k q : Watch) (c : ℕ) (l : Live B) (b : Bool) (es : List (ℕ × Live B)) (next : ℕ) (old : Entries) (after : Option (List ℕ))
      → k ≡ watch l.registration.reason l.registration.object → is_at (watch_cmp k) q ≡ b → Rise 1 es next → live_at c es ≡ Some l → Indexes old es
      → after ≡ cond b (if_any (without_number c (numbers_under k old))) (list_under q old) → after ≡ if_any (watchers q (without c es))
  removed_head k q c l true es next old after watched is rising found indexed less =
      let was : numbers_under k old ≡ watchers q es = ap (λ (z : Watch). numbers_under z old) (watch_exact k q is) ∙ numbers_are es old indexed q in
      less ∙ ap if_any (ap (without_number c) was ∙ sym (watchers_without q c 1 es next rising))
  removed_head k q c l false es next old after watched is rising found indexed less =
      let other : watches q (c, l) ≡ false = ap (λ (z : Watch). is_at (watch_cmp q) z) (sym watched) ∙ watch_turned q k ∙ is in
      less ∙ indexed q ∙ ap if_any (sym (watchers_left q c l es found other))

  -- A callback that is gone has its number taken where it watched.
  pub indexed_removed : (k : Watch) (c n : ℕ) (l : Live B) (es : List (ℕ × Live B)) (next : ℕ) (old new : Entries) → n ≡ c → k ≡ watch l.registration.reason l.registration.object
      → Rise 1 es next → live_at n es ≡ Some l → Indexes old es
      → ((q : Watch) → list_under q new ≡ cond (is_at (watch_cmp k) q) (if_any (without_number c (numbers_under k old))) (list_under q old))
      → Indexes new (without n es)
  indexed_removed k c n l es next old new same watched rising found indexed less q =
      let here : live_at c es ≡ Some l = ap (λ (z : ℕ). live_at z es) (sym same) ∙ found in
      removed_head k q c l (is_at (watch_cmp k) q) es next old (list_under q new) watched refl rising here indexed (less q)
      ∙ ap (λ (z : ℕ). if_any (watchers q (without z es))) (sym same)

  -- ---- what is read of the index

  pub listed_all : (reason : Reason) (object : Option Object) (es : List (ℕ × Live B)) (index : Entries) → Indexes index es
      → numbers_under (watch reason object) index ≡ numbers_of reason object es
  listed_all reason object es index indexed = numbers_are es index indexed (watch reason object) ∙ watchers_are reason object es

  pub any_listed : (reason : Reason) (object : Option Object) (es : List (ℕ × Live B)) (index : Entries) → Indexes index es
      → not (nat_eq (length (numbers_under (watch reason object) index)) 0) ≡ any_of reason object es
  any_listed reason object es index indexed =
      ap (λ (ns : List ℕ). not (nat_eq (length ns) 0)) (listed_all reason object es index indexed) ∙ filled (numbers_of reason object es) ∙ sym (some reason object es)

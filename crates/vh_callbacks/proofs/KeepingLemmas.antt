-- What the registry keeps: its live and held callbacks in one map, through each change.
use Rattle.std.proofs.Common.{◌≡◌, ◌<◌, ◌≤◌, ◌+◌, ◌-◌, ◌++◌, ℕ, List, [], ◌∷◌, length, Bool, true, false, cond, not, refl, sym, ap, subst, ◌∙◌, arith, length-append, Option, Some, None, Result, OnOk, OnErr, IfSome, IfNone}
use Rattle.std.proofs.lemmas.Bool.{eqb-true}
use Rattle.std.proofs.lemmas.List.{append-nil}
use Rattle.std.specs.BTreeMap.{is_at, insert_entry}
use Rattle.std.specs.Cmp.{nat_eq_equiv}
use Rattle.std.specs.Option.{option_map, option_or}
use Rattle.std.specs.Ordering.{nat_cmp}
use Rattle.std.specs.Prelude.{nat_eq, is_some}
use Rattle.vh_base.specs.declared.faults.NoMemory.{NoMemory}
use Rattle.vh_base.specs.declared.orders.Object.{Object}
use Rattle.vh_base.specs.declared.words.Reason.{Reason}
use Rattle.vh_callbacks.specs.Registration.{is_some_for}
use Rattle.vh_callbacks.specs.declared.index.Watch.{Watch}
use Rattle.vh_callbacks.specs.declared.live.Kept.{Kept}
use Rattle.vh_callbacks.specs.declared.live.Live.{Live}
use Rattle.vh_callbacks.specs.Callbacks.{IsSound, numbers_of, Rise, live_at, without, changed, is_running}
use Rattle.vh_callbacks.specs.Marks.{IsMarked, IsSet, is_among, set_at, without_number}
use Rattle.vh_callbacks.specs.Watching.{Indexes, watches}
use Rattle.vh_callbacks.specs.Keeping.{passing, is_live_one, is_held_one, live_of, held_among, shown, inside, unmarked, only, IsKept}
use Rattle.vh_callbacks.proofs.CallbacksLemmas.{member, rising_all, few_matching, at_eq, known_below, known_from, same_entries, rise_from, rise_more, rise_without, rise_changed, rise_insert, live_below, live_more_new, live_more_other, live_without, live_without_other, live_insert, live_changed, length_less, length_changed, without_absent}
use Rattle.vh_callbacks.proofs.LawsLemmas.{runs_by, runs_changed_by, some_changed, without_found}
use Rattle.vh_callbacks.proofs.MarksLemmas.{set_without, among_less, taken_sets, filled_sets}
use Rattle.vh_callbacks.proofs.WatchingLemmas.{indexed_changed}

module _ {B : Type 0} where
  -- ---- those that pass

  rise_head : (test : Kept B → Bool) (b : Bool) (least : ℕ) (e : ℕ × Kept B) (es : List (ℕ × Kept B)) (next : ℕ) → least ≤ e.0
      → Rise (e.0 + 1) (passing test es) next → Rise least (cond b ((e.0, e.1.callback) ∷ passing test es) (passing test es)) next
  rise_head test true least e es next low rest = (low, rest)
  rise_head test false least e es next low rest = rise_from (e.0 + 1) least (passing test es) next (omega arith) rest

  pub rise_passing : (test : Kept B → Bool) (least : ℕ) (es : List (ℕ × Kept B)) (next : ℕ) → Rise least es next → Rise least (passing test es) next
  rise_passing test least [] next h = h
  rise_passing test least (e ∷ es) next h = rise_head test (test e.1) least e es next h.0 (rise_passing test (e.0 + 1) es next h.1)

  at_head : (test : Kept B → Bool) (c : ℕ) (b here : Bool) (e : ℕ × Kept B) (es : List (ℕ × Kept B)) → test e.1 ≡ b → is_at (nat_cmp c) e.0 ≡ here
      → (here ≡ true → live_at c (passing test es) ≡ None) → live_at c (passing test es) ≡ only test (live_at c es)
      → live_at c (cond b ((e.0, e.1.callback) ∷ passing test es) (passing test es)) ≡ only test (cond here (Some e.1) (live_at c es))
  at_head test c true true e es is at none rest = rw (at, is) refl
  at_head test c true false e es is at none rest = rw at rest
  at_head test c false true e es is at none rest = none refl ∙ sym (ap (λ (b : Bool). cond b (Some e.1.callback) None) is)
  at_head test c false false e es is at none rest = rest

  below_head : (test : Kept B → Bool) (c : ℕ) (e : ℕ × Kept B) (es : List (ℕ × Kept B)) (next : ℕ) → Rise (e.0 + 1) es next → is_at (nat_cmp c) e.0 ≡ true
      → live_at c (passing test es) ≡ None
  below_head test c e es next h here =
      let same : c ≡ e.0 = eqb-true c e.0 (sym (at_eq c e.0) ∙ here) in
      live_below c (e.0 + 1) (passing test es) next (omega arith) (rise_passing test (e.0 + 1) es next h)

  -- What each number finds among those that pass.
  pub passing_at : (test : Kept B → Bool) (c least : ℕ) (es : List (ℕ × Kept B)) (next : ℕ) → Rise least es next
      → live_at c (passing test es) ≡ only test (live_at c es)
  passing_at test c least [] next h = refl
  passing_at test c least (e ∷ es) next h =
      at_head test c (test e.1) (is_at (nat_cmp c) e.0) e es refl refl (below_head test c e es next h.1) (passing_at test c (e.0 + 1) es next h.1)

  more_head : (test : Kept B → Bool) (b : Bool) (e : ℕ × Kept B) (es fs : List (ℕ × Kept B)) → passing test (es ++ fs) ≡ passing test es ++ passing test fs
      → cond b ((e.0, e.1.callback) ∷ passing test (es ++ fs)) (passing test (es ++ fs))
      ≡ cond b ((e.0, e.1.callback) ∷ passing test es) (passing test es) ++ passing test fs
  more_head test true e es fs rest = ap (λ (t : List (ℕ × Live B)). (e.0, e.1.callback) ∷ t) rest
  more_head test false e es fs rest = rest

  pub passing_more : (test : Kept B → Bool) (es fs : List (ℕ × Kept B)) → passing test (es ++ fs) ≡ passing test es ++ passing test fs
  passing_more test [] fs = refl
  passing_more test (e ∷ es) fs = more_head test (test e.1) e es fs (passing_more test es fs)

  abbrev pub live_kept : Live B → Kept B
  live_kept l = record { callback = l; is_live = true }

  pub live_more : (es : List (ℕ × Kept B)) (n : ℕ) (l : Live B) → live_of (es ++ (n, live_kept l) ∷ []) ≡ live_of es ++ (n, l) ∷ []
  live_more es n l = passing_more is_live_one es ((n, live_kept l) ∷ [])

  pub held_more : (es : List (ℕ × Kept B)) (n : ℕ) (l : Live B) → held_among (es ++ (n, live_kept l) ∷ []) ≡ held_among es
  held_more es n l = passing_more is_held_one es ((n, live_kept l) ∷ []) ∙ append-nil (held_among es)

  -- ---- one less

  only_without : (test : Kept B → Bool) (b : Bool) (o : Option (Kept B)) → only test (cond b None o) ≡ cond b None (only test o)
  only_without test true o = refl
  only_without test false o = refl

  pub passing_without : (test : Kept B → Bool) (c : ℕ) (es : List (ℕ × Kept B)) (next : ℕ) → Rise 1 es next
      → passing test (without c es) ≡ without c (passing test es)
  passing_without test c es next h =
      let r = rise_without c 1 es next h in
      let p = rise_passing test 1 es next h in
      same_entries 1 (passing test (without c es)) (without c (passing test es)) next next (rise_passing test 1 (without c es) next r) (rise_without c 1 (passing test es) next p)
      (λ d.
      passing_at test d 1 (without c es) next r ∙ ap (only test) (live_without c d 1 es next h) ∙ only_without test (nat_eq c d) (live_at d es)
      ∙ sym (live_without c d 1 (passing test es) next p ∙ ap (λ (o : Option (Live B)). cond (nat_eq c d) None o) (passing_at test d 1 es next h)))

  -- ---- one that is changed

  pass_by : (f : Live B → Live B) (b : Bool) (l : Live B) → cond b (Some (f l)) None ≡ option_map f (cond b (Some l) None)
  pass_by f true l = refl
  pass_by f false l = refl

  only_changed : (test : Kept B → Bool) (f : Live B → Live B) (b : Bool) (o : Option (Kept B)) → ((k : Kept B) → test (inside f k) ≡ test k)
      → only test (cond b (option_map (inside f) o) o) ≡ cond b (option_map f (only test o)) (only test o)
  only_changed test f true None same = refl
  only_changed test f true (Some k) same = ap (λ (b : Bool). cond b (Some (f k.callback)) None) (same k) ∙ pass_by f (test k) k.callback
  only_changed test f false o same = refl

  pub passing_changed : (test : Kept B → Bool) (f : Live B → Live B) (c : ℕ) (es : List (ℕ × Kept B)) (next : ℕ) → ((k : Kept B) → test (inside f k) ≡ test k) → Rise 1 es next
      → passing test (changed (inside f) c es) ≡ changed f c (passing test es)
  passing_changed test f c es next same h =
      let r = rise_changed (inside f) c 1 es next h in
      let p = rise_passing test 1 es next h in
      same_entries 1 (passing test (changed (inside f) c es)) (changed f c (passing test es)) next next (rise_passing test 1 (changed (inside f) c es) next r) (rise_changed f c 1 (passing test es) next p)
      (λ d.
      passing_at test d 1 (changed (inside f) c es) next r ∙ ap (only test) (live_changed (inside f) c d es) ∙ only_changed test f (nat_eq c d) (live_at d es) same
      ∙ sym (live_changed f c d (passing test es) ∙ ap (λ (o : Option (Live B)). cond (nat_eq c d) (option_map f o) o) (passing_at test d 1 es next h)))

  -- ---- one that is live no more

  only_unmarked : (b : Bool) (o : Option (Kept B)) → only is_live_one (cond b (option_map unmarked o) o) ≡ cond b None (only is_live_one o)
  only_unmarked true None = refl
  only_unmarked true (Some k) = refl
  only_unmarked false o = refl

  pub live_unmarked : (c : ℕ) (es : List (ℕ × Kept B)) (next : ℕ) → Rise 1 es next → live_of (changed unmarked c es) ≡ without c (live_of es)
  live_unmarked c es next h =
      let r = rise_changed unmarked c 1 es next h in
      let p = rise_passing is_live_one 1 es next h in
      same_entries 1 (live_of (changed unmarked c es)) (without c (live_of es)) next next (rise_passing is_live_one 1 (changed unmarked c es) next r) (rise_without c 1 (live_of es) next p)
      (λ d.
      passing_at is_live_one d 1 (changed unmarked c es) next r ∙ ap (only is_live_one) (live_changed unmarked c d es) ∙ only_unmarked (nat_eq c d) (live_at d es)
      ∙ sym (live_without c d 1 (live_of es) next p ∙ ap (λ (o : Option (Live B)). cond (nat_eq c d) None o) (passing_at is_live_one d 1 es next h)))

  only_held : (b : Bool) (k : Kept B) (o : Option (Kept B)) → (b ≡ true → o ≡ Some k)
      → only is_held_one (cond b (option_map unmarked o) o) ≡ cond b (Some k.callback) (only is_held_one o)
  only_held true k o is = ap (λ (p : Option (Kept B)). only is_held_one (option_map unmarked p)) (is refl)
  only_held false k o is = refl

  pub held_unmarked : (c : ℕ) (k : Kept B) (es : List (ℕ × Kept B)) (next : ℕ) → Rise 1 es next → live_at c es ≡ Some k
      → held_among (changed unmarked c es) ≡ insert_entry nat_cmp (held_among es) c k.callback
  held_unmarked c k es next h found =
      let r = rise_changed unmarked c 1 es next h in
      let p = rise_passing is_held_one 1 es next h in
      let there : is_some (live_at c es) ≡ true = ap is_some found in
      same_entries 1 (held_among (changed unmarked c es)) (insert_entry nat_cmp (held_among es) c k.callback) next next (rise_passing is_held_one 1 (changed unmarked c es) next r)
      (rise_insert c 1 k.callback (held_among es) next (known_from c 1 es next h there) (known_below c 1 es next h there) p)
      (λ d.
      passing_at is_held_one d 1 (changed unmarked c es) next r ∙ ap (only is_held_one) (live_changed unmarked c d es)
      ∙ only_held (nat_eq c d) k (live_at d es) (λ same. ap (λ (n : ℕ). live_at n es) (sym (eqb-true c d same)) ∙ found)
      ∙ sym (live_insert c d k.callback (held_among es) ∙ ap (λ (o : Option (Live B)). cond (nat_eq c d) (Some k.callback) o) (passing_at is_held_one d 1 es next h)))

  -- ---- what contracts see of it

  found_apart : (o : Option (Kept B)) → is_some (only is_live_one o) ≡ true → only is_held_one o ≡ None
  found_apart None there = refl
  found_apart (Some k) there = apart_mark k.is_live k there
    where
      apart_mark : (b : Bool) (k : Kept B) → is_some (cond b (Some k.callback) None) ≡ true → cond (not b) (Some k.callback) None ≡ None
      apart_mark true k there = refl
      apart_mark false k there = cc

  pub kept_sound : (es : List (ℕ × Kept B)) (index : List (Watch × List ℕ)) (next many : ℕ) (marks : List (List ℕ)) → IsKept es index next many marks
      → IsSound ((shown es next marks).callbacks)
  kept_sound es index next many marks kept = record {
    rise = rise_passing is_live_one 1 es next kept.rise;
    few = (let same = kept.count in let few = kept.few in omega arith);
    held = rise_passing is_held_one 1 es next kept.rise;
    apart = λ c there.
        passing_at is_held_one c 1 es next kept.rise
        ∙ found_apart (live_at c es) (ap is_some (sym (passing_at is_live_one c 1 es next kept.rise)) ∙ there);
    runs = kept.runs;
  }

  pub kept_marked : (es : List (ℕ × Kept B)) (index : List (Watch × List ℕ)) (next many : ℕ) (marks : List (List ℕ)) → IsKept es index next many marks
      → IsMarked (shown es next marks)
  kept_marked es index next many marks kept = record {
    sound = kept_sound es index next many marks kept;
    sets = kept.sets;
    live = kept.live;
  }

  pub known_is : (c : ℕ) (es : List (ℕ × Kept B)) (next : ℕ) → Rise 1 es next
      → option_or (live_at c (live_of es)) (live_at c (held_among es)) ≡ option_map (λ (k : Kept B). k.callback) (live_at c es)
  known_is c es next h =
      rw (passing_at is_live_one c 1 es next h, passing_at is_held_one c 1 es next h) (known_of (live_at c es))
    where
      known_mark : (b : Bool) (l : Live B) → option_or (cond b (Some l) None) (cond (not b) (Some l) None) ≡ Some l
      known_mark true l = refl
      known_mark false l = refl

      known_of : (o : Option (Kept B)) → option_or (only is_live_one o) (only is_held_one o) ≡ option_map (λ (k : Kept B). k.callback) o
      known_of None = refl
      known_of (Some k) = known_mark k.is_live k.callback

  -- ---- a registration

  still_by : (b : Bool) (c : ℕ) (es : List (ℕ × Live B)) (next : ℕ) (l : Live B) → nat_eq c next ≡ b → Rise 1 es next
      → is_some (live_at c es) ≡ true → is_some (live_at c (es ++ (next, l) ∷ [])) ≡ true
  still_by true c es next l is h there =
      let same : next ≡ c = sym (eqb-true c next is) in
      let P : ℕ → Type 0 = λ n. is_some (live_at n (es ++ (next, l) ∷ [])) ≡ true in
      subst P same (ap is_some (live_more_new 1 es next l h))
  still_by false c es next l is h there = ap is_some (live_more_other c es next l is) ∙ there

  pub kept_registered : (es : List (ℕ × Kept B)) (index old : List (Watch × List ℕ)) (next many : ℕ) (marks : List (List ℕ)) (l : Live B)
      → IsKept es old next many marks → many < 65536 → Indexes index (live_of (es ++ (next, live_kept l) ∷ []))
      → IsKept (es ++ (next, live_kept l) ∷ []) index (next + 1) (many + 1) marks
  kept_registered es index old next many marks l kept room indexed = record {
    rise = rise_more 1 es next (live_kept l) kept.rise;
    count = (let same = kept.count in let more = length-append (live_of es) ((next, l) ∷ []) in rw (live_more es next l) (omega arith));
    few = omega arith;
    runs = λ c k found. kept.runs c k (ap (live_at c) (sym (held_more es next l)) ∙ found);
    sets = kept.sets;
    live = λ depth c among.
        let P : List (ℕ × Live B) → Type 0 = λ xs. is_some (live_at c xs) ≡ true in
        subst P (sym (live_more es next l)) (still_by (nat_eq c next) c (live_of es) next l refl (rise_passing is_live_one 1 es next kept.rise) (kept.live depth c among));
    indexed = indexed;
  }

  -- ---- a removal

  pub kept_gone : (c : ℕ) (es fs : List (ℕ × Kept B)) (index old : List (Watch × List ℕ)) (next many : ℕ) (marks left : List (List ℕ))
      → IsKept es old next many marks → Rise 1 fs next → live_of fs ≡ without c (live_of es) → is_some (live_at c (live_of es)) ≡ true
      → ((d : ℕ) (l : Live B) → live_at d (held_among fs) ≡ Some l → is_running l ≡ true)
      → Indexes index (without c (live_of es)) → ((d : ℕ) → set_at d left ≡ without_number c (set_at d marks))
      → IsKept fs index next (many - 1) left
  kept_gone c es fs index old next many marks left kept rise less there runs indexed marked = record {
    rise = rise;
    count = (let same = kept.count in let shorter = length_less c (live_of es) there in rw less (omega arith));
    few = (let few = kept.few in omega arith);
    runs = runs;
    sets = λ d. subst IsSet (sym (marked d)) (set_without c (set_at d marks) (kept.sets d));
    live = λ depth d among.
        let k = among_less d c (set_at depth marks) (ap (is_among d) (sym (marked depth)) ∙ among) in
        let apart : nat_eq c d ≡ false = nat_eq_equiv.symm c d ∙ k.1 in
        ap (λ (xs : List (ℕ × Live B)). is_some (live_at d xs)) less ∙ ap is_some (live_without_other c d (live_of es) apart) ∙ kept.live depth d k.0;
    indexed = subst (Indexes index) (sym less) indexed;
  }

  -- Of those that are held after one is, activations run,
  pub runs_unmarked : (c : ℕ) (k : Kept B) (es : List (ℕ × Kept B)) (next : ℕ) → Rise 1 es next → live_at c es ≡ Some k → is_running k.callback ≡ true
      → ((d : ℕ) (l : Live B) → live_at d (held_among es) ≡ Some l → is_running l ≡ true)
      → (d : ℕ) (l : Live B) → live_at d (held_among (changed unmarked c es)) ≡ Some l → is_running l ≡ true
  runs_unmarked c k es next h found running runs d l at =
      runs_by (nat_eq c d) k.callback l (live_at d (held_among es)) running (runs d l)
      (sym (ap (live_at d) (held_unmarked c k es next h found) ∙ live_insert c d k.callback (held_among es)) ∙ at)

  -- and so where one is gone.
  pub runs_without : (c : ℕ) (es : List (ℕ × Kept B)) (next : ℕ) → Rise 1 es next
      → ((d : ℕ) (l : Live B) → live_at d (held_among es) ≡ Some l → is_running l ≡ true)
      → (d : ℕ) (l : Live B) → live_at d (held_among (without c es)) ≡ Some l → is_running l ≡ true
  runs_without c es next h runs d l at =
      runs d l
      (without_found (nat_eq c d) (live_at d (held_among es)) l
      (sym (ap (live_at d) (passing_without is_held_one c es next h) ∙ live_without c d 1 (held_among es) next (rise_passing is_held_one 1 es next h)) ∙ at))

  -- ---- a callback that is changed

  pub kept_changed : (f : Live B → Live B) (c : ℕ) (es : List (ℕ × Kept B)) (index : List (Watch × List ℕ)) (next many : ℕ) (marks : List (List ℕ))
      → IsKept es index next many marks → ((w : Watch) (l : Live B) → watches w (c, f l) ≡ watches w (c, l))
      → ((l : Live B) → live_at c (held_among es) ≡ Some l → is_running (f l) ≡ true)
      → IsKept (changed (inside f) c es) index next many marks
  kept_changed f c es index next many marks kept same runs =
      let live : live_of (changed (inside f) c es) ≡ changed f c (live_of es) = passing_changed is_live_one f c es next (λ k. refl) kept.rise in
      let held : held_among (changed (inside f) c es) ≡ changed f c (held_among es) = passing_changed is_held_one f c es next (λ k. refl) kept.rise in
      record {
        rise = rise_changed (inside f) c 1 es next kept.rise;
        count = kept.count ∙ sym (ap (λ (xs : List (ℕ × Live B)). length xs) live ∙ length_changed f c (live_of es));
        few = kept.few;
        runs = λ d l at.
            runs_changed_by f (nat_eq c d) (live_at d (held_among es)) l
            (λ is k found. runs k (ap (λ (n : ℕ). live_at n (held_among es)) (eqb-true c d is) ∙ found))
            (kept.runs d)
            (sym (ap (live_at d) held ∙ live_changed f c d (held_among es)) ∙ at);
        sets = kept.sets;
        live = λ depth d among.
            ap is_some (ap (live_at d) live ∙ live_changed f c d (live_of es)) ∙ some_changed f (nat_eq c d) (live_at d (live_of es)) ∙ kept.live depth d among;
        indexed = subst (Indexes index) (sym live) (indexed_changed f c (live_of es) index same kept.indexed);
      }

  -- ---- a held one that is gone

  pub live_gone : (c : ℕ) (es : List (ℕ × Kept B)) (next : ℕ) → Rise 1 es next → live_at c (live_of es) ≡ None → live_of (without c es) ≡ live_of es
  live_gone c es next h none = passing_without is_live_one c es next h ∙ without_absent c (live_of es) none

  pub kept_forgotten : (c : ℕ) (es : List (ℕ × Kept B)) (index : List (Watch × List ℕ)) (next many : ℕ) (marks : List (List ℕ))
      → IsKept es index next many marks → live_at c (live_of es) ≡ None → IsKept (without c es) index next many marks
  kept_forgotten c es index next many marks kept none =
      let live : live_of (without c es) ≡ live_of es = live_gone c es next kept.rise none in
      record {
        rise = rise_without c 1 es next kept.rise;
        count = kept.count ∙ sym (ap (λ (xs : List (ℕ × Live B)). length xs) live);
        few = kept.few;
        runs = runs_without c es next kept.rise kept.runs;
        sets = kept.sets;
        live = λ depth d among. ap (λ (xs : List (ℕ × Live B)). is_some (live_at d xs)) live ∙ kept.live depth d among;
        indexed = subst (Indexes index) (sym live) kept.indexed;
      }

  -- ---- other sets

  pub kept_marks : (es : List (ℕ × Kept B)) (index : List (Watch × List ℕ)) (next many : ℕ) (marks left : List (List ℕ))
      → IsKept es index next many marks → ((d : ℕ) → IsSet (set_at d left))
      → ((d c : ℕ) → is_among c (set_at d left) ≡ true → is_some (live_at c (live_of es)) ≡ true)
      → IsKept es index next many left
  kept_marks es index next many marks left kept sets live = record {
    rise = kept.rise;
    count = kept.count;
    few = kept.few;
    runs = kept.runs;
    sets = sets;
    live = live;
    indexed = kept.indexed;
  }

  pub kept_taken : (depth : ℕ) (r : Option ℕ) (es : List (ℕ × Kept B)) (index : List (Watch × List ℕ)) (next many : ℕ) (marks left : List (List ℕ))
      → IfSome r (λ c. (d : ℕ) → set_at d left ≡ cond (nat_eq d depth) (without_number c (set_at d marks)) (set_at d marks))
      → IfNone r ((d : ℕ) → set_at d left ≡ set_at d marks)
      → IsKept es index next many marks → IsKept es index next many left
  kept_taken depth r es index next many marks left some none kept =
      let P : List ℕ → Type 0 = λ xs. (c : ℕ) → is_among c xs ≡ true → is_some (live_at c (live_of es)) ≡ true in
      kept_marks es index next many marks left kept
      (λ d. taken_sets IsSet depth r marks left set_without some none d (kept.sets d))
      (λ d. taken_sets P depth r marks left (λ c xs p e among. p e (among_less e c xs among).0) some none d (kept.live d))

  pub kept_filled : (depth : ℕ) (r : Result (Unit {0}) NoMemory) (numbers : List ℕ) (es : List (ℕ × Kept B)) (index : List (Watch × List ℕ)) (next many : ℕ) (marks left : List (List ℕ))
      → IsSet numbers → ((c : ℕ) → is_among c numbers ≡ true → is_some (live_at c (live_of es)) ≡ true)
      → OnOk r ((d : ℕ) → set_at d left ≡ cond (nat_eq d depth) numbers (set_at d marks))
      → OnErr r ((d : ℕ) → set_at d left ≡ set_at d marks)
      → IsKept es index next many marks → IsKept es index next many left
  kept_filled depth r numbers es index next many marks left set live ok err kept =
      let P : List ℕ → Type 0 = λ xs. (c : ℕ) → is_among c xs ≡ true → is_some (live_at c (live_of es)) ≡ true in
      kept_marks es index next many marks left kept
      (λ d. filled_sets IsSet depth r numbers marks left set ok err d (kept.sets d))
      (λ d. filled_sets P depth r numbers marks left live ok err d (kept.live d))

  some_told : (reason : Reason) (object : Option Object) (o : Option (Live B))
      → is_some_for reason object (option_map (λ (l : Live B). l.registration) o) ≡ true → is_some o ≡ true
  some_told reason object None is = cc
  some_told reason object (Some l) is = refl

  -- The matching numbers are a set of live ones.
  pub matching_set : (reason : Reason) (object : Option Object) (es : List (ℕ × Kept B)) (index : List (Watch × List ℕ)) (next many : ℕ) (marks : List (List ℕ))
      → IsKept es index next many marks → IsSet (numbers_of reason object (live_of es))
  matching_set reason object es index next many marks kept = record {
    rising = rising_all reason object next (live_of es) (rise_passing is_live_one 1 es next kept.rise);
    few = (let fewer = few_matching reason object (live_of es) in let same = kept.count in let few = kept.few in omega arith);
  }

  pub matching_live : (reason : Reason) (object : Option Object) (es : List (ℕ × Kept B)) (next c : ℕ) → Rise 1 es next
      → is_among c (numbers_of reason object (live_of es)) ≡ true → is_some (live_at c (live_of es)) ≡ true
  matching_live reason object es next c h among =
      some_told reason object (live_at c (live_of es))
      (sym (member reason object c 1 (live_of es) next (rise_passing is_live_one 1 es next h)) ∙ among)

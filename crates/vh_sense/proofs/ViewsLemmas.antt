-- Lemmas on `specs/Views.antt`: which objects terms name, what is put into sets or taken out, and that the sets hold who waits.
use Rattle.std.proofs.Common.{◌≡◌, ◌<◌, ◌+◌, ◌∙◌, ℕ, zero, suc, Bool, true, false, ◌&&◌, ◌||◌, ◌==◌, cond, if◌then◌else◌, nat_lt, List, [], ◌∷◌, ◌++◌, map, length, take, set, slice_index_or, Option, Some, None, slice_get, refl, sym, ap, arith, inl, inr}
use Rattle.std.proofs.lemmas.Bool.{eq-eqb, eqb-true}
use Rattle.std.proofs.lemmas.Bool.Decides.{eqb_tells}
use Rattle.std.proofs.lemmas.List.{take_more}
use Rattle.std.proofs.lemmas.Option.{slice_get_within, get_or_from_slice_get, slice_get-get_or}
use Rattle.std.specs.BTreeMap.{is_at}
use Rattle.std.specs.BTreeSet.{BTreeSet, insert_key}
use Rattle.std.specs.Cmp.{nat_cmp_is}
use Rattle.std.specs.List.{list_all}
use Rattle.std.specs.List.Sorted.{IsStrictlySortedBy}
use Rattle.std.specs.Map.{keys_of, lookup}
use Rattle.std.specs.Ordering.{nat_cmp, is_eq}
use Rattle.std.specs.declared.cmp.Ordering.TheVariants.{Less, Equal, Greater}
use Rattle.vh_design_nodes.specs.declared.object.ObjectInfo.{ObjectInfo}
use Rattle.vh_design_nodes.specs.Fits.{has_kind, is_width}
use Rattle.vh_design_nodes.specs.Kinds.{is_vector, is_memory, is_event}
use Rattle.vh_design_nodes.proofs.FitsLemmas.{and_left, and_right, has_kind-inside}
use Rattle.vh_design_code.specs.declared.wait.Term.{Term}
use Rattle.vh_design_code.specs.declared.wait.Term.TheVariants as term
use Rattle.vh_design_code.specs.declared.wait.WaitInfo.{WaitInfo}
use Rattle.vh_design_code.specs.Codes.{fits_term, fits_wait}
use Rattle.vh_design.specs.Shape.{Shape}
use Rattle.vh_design.specs.Validity.{IsValid}
use Rattle.vh_sense.specs.declared.follow.Key.{Key}
use Rattle.vh_sense.specs.contracts.follow.KeyOrd.TheImpl.{cmp-value}
use Rattle.vh_sense.specs.Waits.{object_of}
use Rattle.vh_sense.specs.Follows.{follow_cmp}
use Rattle.vh_sense.specs.Views.{names, wait_names, names_at, is_in, AllEmpty, set_to, SetsTo, Holds, follow_at, follows_in, follows_at, noted}
use Rattle.vh_sense.proofs.FollowsLemmas.{map-insert_key, same_order}

-- A term names its object; so do some terms, and one more.
pub named : (ts : List Term) (i : ℕ) (t : Term) → slice_get ts i ≡ Some t → names ts (object_of t) ≡ true
named [] i t at = cc
named (s ∷ ts) zero t at =
    let same : s ≡ t = cc in
    rw (ap object_of same, eq-eqb (object_of t) (object_of t) refl) refl
named (s ∷ ts) (suc i) t at = or_right (object_of s == object_of t) (named ts i t at)
  where
    or_right : (a : Bool) {b : Bool} → b ≡ true → (a || b) ≡ true
    or_right true h = refl
    or_right false h = h

-- What was put into some of the sets is taken out again.
pub set_back : (m n : Bool) (p q : ℕ) (w : Bool) → (m ≡ true → n ≡ true) → set_to false n p q (set_to true m p q w) ≡ set_to false n p q w
set_back m n p q w some = by_cases m n (p == q) some
  where
    by_cases : (m n b : Bool) → (m ≡ true → n ≡ true) → (if n && b then false else (if m && b then true else w)) ≡ (if n && b then false else w)
    by_cases true true true some = refl
    by_cases true true false some = refl
    by_cases true false true some = let h : false ≡ true = some refl in cc
    by_cases true false false some = refl
    by_cases false true true some = refl
    by_cases false true false some = refl
    by_cases false false true some = refl
    by_cases false false false some = refl

-- Another set in place of one.
get_same : {X : Type 0} (xs : List X) (i : ℕ) (y : X) → i < length xs → slice_get (set xs i y) i ≡ Some y
get_same [] i y h = absurd (omega arith)
get_same (z ∷ xs) zero y h = refl
get_same (z ∷ xs) (suc i) y h = get_same xs i y (omega arith)

get_other : {X : Type 0} (xs : List X) (i j : ℕ) (y : X) → (j ≡ i → ⊥) → slice_get (set xs i y) j ≡ slice_get xs j
get_other [] i j y h = refl
get_other (z ∷ xs) zero zero y h = absurd (h refl)
get_other (z ∷ xs) zero (suc j) y h = refl
get_other (z ∷ xs) (suc i) zero y h = refl
get_other (z ∷ xs) (suc i) (suc j) y h = get_other xs i j y (λ e. h (omega (arith, e)))

-- A statement is put into the set of an object.
pub follows_put : (sets : List (BTreeSet Key)) (i : ℕ) (old new : BTreeSet Key) (k : Key) (o : ℕ) → slice_get sets i ≡ Some old
    → i < length sets → new.keys ≡ insert_key (cmp-value).it old.keys k
    → follows_at (set sets i new) o ≡ noted (i == o) (follow_at k) (follows_at sets o)
follows_put sets i old new k o at within is =
    elim (eqb_tells i o) [
      | inl e ↦
          rw (e.0, ← e.1, get_same sets i new within, at, is)
          (map-insert_key follow_at (cmp-value).it follow_cmp same_order old.keys k)
      | inr e ↦ rw (e.0, get_other sets i o new (λ s. e.1 (sym s))) refl
    ]

-- One wait more, once more.
pub one_wait_more : (ws : List WaitInfo) (i : ℕ) (w : WaitInfo) (ts : List Term) (copied : List WaitInfo) → slice_get ws i ≡ Some w
    → ts ≡ w.terms → copied ≡ take i ws → copied ++ record { terms = ts } ∷ [] ≡ take (i + 1) ws
one_wait_more ws i w ts copied at same is =
    rw (take_more ws i w (slice_get_within ws i w at), get_or_from_slice_get ws i w w at, same, is) refl

-- What the first terms name, all do.
pub names_taken : (ts : List Term) (i o : ℕ) → names (take i ts) o ≡ true → names ts o ≡ true
names_taken [] zero o h = h
names_taken [] (suc i) o h = h
names_taken (t ∷ ts) zero o h = cc
names_taken (t ∷ ts) (suc i) o h = by_test (object_of t == o) (names_taken ts i o) h
  where
    by_test : (b : Bool) → (names (take i ts) o ≡ true → names ts o ≡ true) → (b || names (take i ts) o) ≡ true → (b || names ts o) ≡ true
    by_test true rest h = refl
    by_test false rest h = rest h

-- The terms of a wait name what its number does.
pub names_of_wait : (waits : List WaitInfo) (number : ℕ) (w : WaitInfo) (ts : List Term) (o : ℕ) → number < length waits
    → ts ≡ (slice_index_or waits number w).terms → names_at waits (Some number) o ≡ names ts o
names_of_wait waits number w ts o within is =
    rw (is, slice_get-get_or waits number w within) refl

-- A process is found by its own number.
pub at_is : (p q : ℕ) → is_at (nat_cmp p) q ≡ (p == q)
at_is p q = elim (eqb_tells p q) [
  | inl e ↦ ap is_eq (sym (nat_cmp_is p q Equal e.1)) ∙ sym e.0
  | inr e ↦ rw e.0 (by_order (nat_lt p q))
]
  where
    by_order : (b : Bool) → is_eq (cond b Less (cond false Equal Greater)) ≡ false
    by_order true = refl
    by_order false = refl

-- Whether a wait names an object, after a process waits or waits for nothing.
names_by : (waits : List WaitInfo) (o : ℕ) (b : Bool) (now before : Option ℕ)
    → names_at waits (cond b now before) o ≡ (if b then names_at waits now o else names_at waits before o)
names_by waits o true now before = refl
names_by waits o false now before = refl

put_by : (b n x : Bool) → (b ≡ true → x ≡ false) → (if n && b then true else x) ≡ (if b then n else x)
put_by true true x free = refl
put_by true false x free = free refl
put_by false true x free = refl
put_by false false x free = refl

taken_by : (b n x : Bool) → (b ≡ true → x ≡ n) → (if n && b then false else x) ≡ (if b then false else x)
taken_by true true x same = refl
taken_by true false x same = same refl
taken_by false true x same = refl
taken_by false false x same = refl

free_by : (b n x : Bool) → (b ≡ true → x ≡ false) → (if n && b then false else x) ≡ x
free_by true true x free = sym (free refl)
free_by true false x free = refl
free_by false true x free = refl
free_by false false x free = refl

-- A process that waited for nothing waits.
pub holds-entered : (waits : List WaitInfo) (old new : List (BTreeSet ℕ)) (es fs : List (ℕ × ℕ)) (p number : ℕ) (ts : List Term)
    → Holds waits old es → number < length waits → ((o : ℕ) → names_at waits (Some number) o ≡ names ts o)
    → SetsTo true (names ts) p old new → length new ≡ length old → lookup (is_at (nat_cmp p)) es ≡ None
    → ((q : ℕ) → lookup (is_at (nat_cmp q)) fs ≡ cond (is_at (nat_cmp p) q) (Some number) (lookup (is_at (nat_cmp q)) es))
    → IsStrictlySortedBy nat_cmp (keys_of fs) → Holds waits new fs
holds-entered waits old new es fs p number ts holds there same sets size free updates sorted = record {
  sorted = sorted;
  placed = λ w o h. rw size (holds.placed w o h);
  known = λ q w h. known_by (is_at (nat_cmp p) q) q w (sym (updates q) ∙ h);
  watched = λ o q.
      sets o q ∙ ap (λ (x : Bool). set_to true (names ts o) p q x) (holds.watched o q)
      ∙ put_by (p == q) (names ts o) (names_at waits (lookup (is_at (nat_cmp q)) es) o)
      (λ e. ap (λ (n : ℕ). names_at waits (lookup (is_at (nat_cmp n)) es) o) (sym (eqb-true p q e)) ∙ ap (λ (l : Option ℕ). names_at waits l o) free)
      ∙ ap (λ (x : Bool). if p == q then x else names_at waits (lookup (is_at (nat_cmp q)) es) o) (sym (same o))
      ∙ sym (names_by waits o (p == q) (Some number) (lookup (is_at (nat_cmp q)) es))
      ∙ ap (λ (b : Bool). names_at waits (cond b (Some number) (lookup (is_at (nat_cmp q)) es)) o) (sym (at_is p q))
      ∙ ap (λ (l : Option ℕ). names_at waits l o) (sym (updates q));
}
  where
    known_by : (b : Bool) (q w : ℕ) → cond b (Some number) (lookup (is_at (nat_cmp q)) es) ≡ Some w → w < length waits
    known_by true q w h = let e : number ≡ w = cc in omega (arith, there, e)
    known_by false q w h = holds.known q w h

-- A process that waited waits for nothing.
pub holds-left : (waits : List WaitInfo) (old new : List (BTreeSet ℕ)) (es fs : List (ℕ × ℕ)) (p number : ℕ) (ts : List Term)
    → Holds waits old es → lookup (is_at (nat_cmp p)) es ≡ Some number → ((o : ℕ) → names_at waits (Some number) o ≡ names ts o)
    → SetsTo false (names ts) p old new → length new ≡ length old
    → ((q : ℕ) → lookup (is_at (nat_cmp q)) fs ≡ cond (is_at (nat_cmp p) q) None (lookup (is_at (nat_cmp q)) es))
    → IsStrictlySortedBy nat_cmp (keys_of fs) → Holds waits new fs
holds-left waits old new es fs p number ts holds waited same sets size updates sorted = record {
  sorted = sorted;
  placed = λ w o h. rw size (holds.placed w o h);
  known = λ q w h. known_by (is_at (nat_cmp p) q) q w (sym (updates q) ∙ h);
  watched = λ o q.
      sets o q ∙ ap (λ (x : Bool). set_to false (names ts o) p q x) (holds.watched o q)
      ∙ taken_by (p == q) (names ts o) (names_at waits (lookup (is_at (nat_cmp q)) es) o)
      (λ e. ap (λ (n : ℕ). names_at waits (lookup (is_at (nat_cmp n)) es) o) (sym (eqb-true p q e)) ∙ ap (λ (l : Option ℕ). names_at waits l o) waited ∙ same o)
      ∙ sym (names_by waits o (p == q) None (lookup (is_at (nat_cmp q)) es))
      ∙ ap (λ (b : Bool). names_at waits (cond b None (lookup (is_at (nat_cmp q)) es)) o) (sym (at_is p q))
      ∙ ap (λ (l : Option ℕ). names_at waits l o) (sym (updates q));
}
  where
    known_by : (b : Bool) (q w : ℕ) → cond b None (lookup (is_at (nat_cmp q)) es) ≡ Some w → w < length waits
    known_by true q w h = cc
    known_by false q w h = holds.known q w h

-- A process that waited for nothing is in none of the sets anyway.
pub holds-free : (waits : List WaitInfo) (old new : List (BTreeSet ℕ)) (es : List (ℕ × ℕ)) (p : ℕ) (ts : List Term)
    → Holds waits old es → SetsTo false (names ts) p old new → length new ≡ length old → lookup (is_at (nat_cmp p)) es ≡ None
    → Holds waits new es
holds-free waits old new es p ts holds sets size free = record {
  sorted = holds.sorted;
  placed = λ w o h. rw size (holds.placed w o h);
  known = holds.known;
  watched = λ o q.
      sets o q ∙ ap (λ (x : Bool). set_to false (names ts o) p q x) (holds.watched o q)
      ∙ free_by (p == q) (names ts o) (names_at waits (lookup (is_at (nat_cmp q)) es) o)
      (λ e. ap (λ (n : ℕ). names_at waits (lookup (is_at (nat_cmp n)) es) o) (sym (eqb-true p q e)) ∙ ap (λ (l : Option ℕ). names_at waits l o) free);
}

-- Nobody waits before all.
empty_in : (found : Option (BTreeSet ℕ)) (p : ℕ) → ((s : BTreeSet ℕ) → found ≡ Some s → s.keys ≡ []) → is_in found p ≡ false
empty_in None p empty = refl
empty_in (Some s) p empty = rw (empty s refl) refl

pub holds-nobody : (waits : List WaitInfo) (sets : List (BTreeSet ℕ)) (es : List (ℕ × ℕ)) → AllEmpty sets → es ≡ []
    → ((w o : ℕ) → names_at waits (Some w) o ≡ true → o < length sets) → IsStrictlySortedBy nat_cmp (keys_of es)
    → Holds waits sets es
holds-nobody waits sets es empty none placed sorted = record {
  sorted = sorted;
  placed = placed;
  known = λ p w h. absurd (let e : None ≡ Some w = ap (λ (l : List (ℕ × ℕ)). lookup (is_at (nat_cmp p)) l) (sym none) ∙ h in cc);
  watched = λ o p.
      empty_in (slice_get sets o) p (empty o)
      ∙ ap (λ (l : List (ℕ × ℕ)). names_at waits (lookup (is_at (nat_cmp p)) l) o) (sym none);
}

-- The waits of a valid design name its objects.
term_inside : (os : List ObjectInfo) (t : Term) → fits_term os t ≡ true → object_of t < length os
term_inside os (term.Digits o low width edge) fits = has_kind-inside os is_vector o (and_left (has_kind is_vector os o) (is_width width) fits)
term_inside os (term.Event o) fits = has_kind-inside os is_event o fits
term_inside os (term.Reads o) fits = either (has_kind is_vector os o) (has_kind is_memory os o) fits (has_kind-inside os is_vector o) (has_kind-inside os is_memory o)
  where
    either : (a b : Bool) → (a || b) ≡ true → (a ≡ true → o < length os) → (b ≡ true → o < length os) → o < length os
    either true b h f g = f refl
    either false b h f g = g h

terms_inside : (os : List ObjectInfo) (ts : List Term) (o : ℕ) → list_all (fits_term os) ts ≡ true → names ts o ≡ true → o < length os
terms_inside os [] o fits h = cc
terms_inside os (t ∷ ts) o fits h =
    first (object_of t == o) refl (terms_inside os ts o (and_right (fits_term os t) (list_all (fits_term os) ts) fits)) h
  where
    first : (b : Bool) → (object_of t == o) ≡ b → (names ts o ≡ true → o < length os) → (b || names ts o) ≡ true → o < length os
    first true is rest h =
        let at = term_inside os t (and_left (fits_term os t) (list_all (fits_term os) ts) fits) in
        let e = eqb-true (object_of t) o is in omega (arith, at, e)
    first false is rest h = rest h

wait_inside : (os : List ObjectInfo) (found : Option WaitInfo) (o : ℕ) → ((w : WaitInfo) → found ≡ Some w → fits_wait os w ≡ true)
    → wait_names found o ≡ true → o < length os
wait_inside os None o fits h = cc
wait_inside os (Some w) o fits h = terms_inside os w.terms o (fits w refl) h

pub waits_inside : (d : Shape) (w o : ℕ) → IsValid d → names_at d.waits (Some w) o ≡ true → o < length d.objects
waits_inside d w o valid h = wait_inside d.objects (slice_get d.waits w) o (λ i at. valid.names.waits w i at) h

-- The statements of an object's set, as contracts see them.
pub readers_are : (sets : List (BTreeSet Key)) (o : ℕ) → slice_index_or (map follows_in sets) o [] ≡ follows_at sets o
readers_are [] o = refl
readers_are (s ∷ sets) zero = refl
readers_are (s ∷ sets) (suc o) = readers_are sets o

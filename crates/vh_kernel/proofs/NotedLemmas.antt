-- Lemmas on `specs/Noted.antt`: what is noted of follow entries tells which stand, in every state.
use Rattle.std.proofs.Common.{◌≡◌, ◌≢◌, ◌∙◌, ◌<◌, ◌+◌, ◌==◌, ◌&&◌, ◌||◌, ℕ, zero, suc, Bool, true, false, cond, List, [], ◌∷◌, ◌++◌, map, filter, find, nat_eq, nat_lt, Option, Some, None, is_some, slice_get, Less, Equal, Greater, refl, sym, ap, subst, arith, inl, inr, ◌⊎◌}
use Rattle.std.proofs.lemmas.Bool.{eqb-true, eqb-false, eq-eqb, ne_eqb, ltb-true}
use Rattle.std.specs.BTreeMap.{is_at, insert_entry}
use Rattle.std.specs.List.{list_any, AllByRecursion}
use Rattle.std.specs.Map.{lookup}
use Rattle.std.specs.Option.{option_map}
use Rattle.std.specs.Ordering.{nat_cmp, match_ordering, is_eq}
use Rattle.vh_kernel.specs.Noted.{is_layer, is_follow_of, FitsNoted, IsNoted, OpensNoted, StaysNoted, TellsStanding, StandsOnce}
use Rattle.vh_kernel.proofs.KeepsLemmas.{is_follow, KeepsNotes}
use Rattle.vh_kernel.proofs.SoundLemmas.{opens-so, stays-so}
use Rattle.vh_queue.specs.declared.entry.Entry.{Entry}
use Rattle.vh_queue.specs.declared.region.Region.{Region}
use Rattle.vh_queue.specs.declared.work.Work.{Work}
use Rattle.vh_queue.specs.declared.work.Work.TheVariants as work
use Rattle.vh_queue.specs.Events.{Events, Rises, added}
use Rattle.vh_queue.proofs.EventsLemmas.{rises-added, rises-filter, rises-map, rises-empty, rises-one}
use Rattle.vh_proc_simulation.specs.Follows.{Serials, no_serials, last_of, noted, is_standing}

-- Keys that are the same, and keys that aren't.
at-by : (b d : Bool) → (b ≡ true → d ≡ false) → is_eq (cond b Less (cond d Equal Greater)) ≡ d
at-by true true h = sym (h refl)
at-by true false h = refl
at-by false true h = refl
at-by false false h = refl

at-eq : (c k : ℕ) → is_at (nat_cmp c) k ≡ nat_eq c k
at-eq c k = at-by (nat_lt c k) (nat_eq c k) (λ h. ne_eqb c k (λ e. omega (arith, ltb-true c k h)))

at-same : (c k : ℕ) → c ≡ k → is_at (nat_cmp c) k ≡ true
at-same c k same = at-eq c k ∙ eq-eqb c k same

at-other : (c k : ℕ) → c ≢ k → is_at (nat_cmp c) k ≡ false
at-other c k other = at-eq c k ∙ ne_eqb c k other

-- What was put in is found,
found-by : (b d : Bool) (x n : ℕ) (e : ℕ × ℕ) (es rest : List (ℕ × ℕ)) → nat_eq x e.0 ≡ d → lookup (is_at (nat_cmp x)) rest ≡ Some n
    → lookup (is_at (nat_cmp x)) (match_ordering (cond b Less (cond d Equal Greater)) ((x, n) ∷ e ∷ es) ((e.0, n) ∷ es) (e ∷ rest)) ≡ Some n
found-by true d x n e es rest is found = rw (at-same x x refl) refl
found-by false true x n e es rest is found = rw (at-same x e.0 (eqb-true x e.0 is)) refl
found-by false false x n e es rest is found = rw (at-eq x e.0, is) found

found-put : (x n : ℕ) (us : List (ℕ × ℕ)) → lookup (is_at (nat_cmp x)) (insert_entry nat_cmp us x n) ≡ Some n
found-put x n [] = rw (at-same x x refl) refl
found-put x n (e ∷ es) = found-by (nat_lt x e.0) (nat_eq x e.0) x n e es (insert_entry nat_cmp es x n) refl (found-put x n es)

-- And all else as before.
other-by : (b d : Bool) (y x n : ℕ) (e : ℕ × ℕ) (es rest : List (ℕ × ℕ)) → nat_eq x e.0 ≡ d → y ≢ x
    → lookup (is_at (nat_cmp y)) rest ≡ lookup (is_at (nat_cmp y)) es
    → lookup (is_at (nat_cmp y)) (match_ordering (cond b Less (cond d Equal Greater)) ((x, n) ∷ e ∷ es) ((e.0, n) ∷ es) (e ∷ rest))
    ≡ lookup (is_at (nat_cmp y)) (e ∷ es)
other-by true d y x n e es rest is other same = rw (at-other y x other) refl
other-by false true y x n e es rest is other same =
    let here : x ≡ e.0 = eqb-true x e.0 is in
    let apart : is_at (nat_cmp y) e.0 ≡ false = at-other y e.0 (λ it. other (it ∙ sym here)) in rw apart refl
other-by false false y x n e es rest is other same =
    ap (λ (o : Option ℕ). cond (is_at (nat_cmp y) e.0) (Some e.1) o) same

other-put : (y x n : ℕ) (us : List (ℕ × ℕ)) → y ≢ x
    → lookup (is_at (nat_cmp y)) (insert_entry nat_cmp us x n) ≡ lookup (is_at (nat_cmp y)) us
other-put y x n [] other = rw (at-other y x other) refl
other-put y x n (e ∷ es) other =
    other-by (nat_lt x e.0) (nat_eq x e.0) y x n e es (insert_entry nat_cmp es x n) refl other (other-put y x n es other)

noted-other : (f force : Bool) (x o serial : ℕ) (n : Serials) → work.Follow x f ≢ work.Follow o force
    → last_of f x (noted force o serial n) ≡ last_of f x n
noted-other true true x o serial n other = other-put x o serial n.forces (λ same. other (ap (λ (y : ℕ). work.Follow y true) same))
noted-other true false x o serial n other = refl
noted-other false true x o serial n other = refl
noted-other false false x o serial n other = other-put x o serial n.assigns (λ same. other (ap (λ (y : ℕ). work.Follow y false) same))

noted-same : (f force : Bool) (x o serial : ℕ) (n : Serials) → work.Follow x f ≡ work.Follow o force
    → last_of f x (noted force o serial n) ≡ Some serial
noted-same true true x o serial n same =
    let at : x ≡ o = cc in
    ap (λ (y : ℕ). lookup (is_at (nat_cmp y)) (insert_entry nat_cmp n.forces o serial)) at ∙ found-put o serial n.forces
noted-same true false x o serial n same = absurd (cc)
noted-same false true x o serial n same = absurd (cc)
noted-same false false x o serial n same =
    let at : x ≡ o = cc in
    ap (λ (y : ℕ). lookup (is_at (nat_cmp y)) (insert_entry nat_cmp n.assigns o serial)) at ∙ found-put o serial n.assigns

-- Two follows are the same, or they aren't.
abbrev Compares : ℕ → Bool → ℕ → Bool → Type 0
Compares x f o force = (work.Follow x f ≡ work.Follow o force) ⊎ (work.Follow x f ≢ work.Follow o force)

by-number : (b : Bool) (x o : ℕ) (f : Bool) → nat_eq x o ≡ b → Compares x f o f
by-number true x o f is = inl (ap (λ (y : ℕ). work.Follow y f) (eqb-true x o is))
by-number false x o f is = inr (λ it. let at : x ≡ o = cc in eqb-false x o is at)

compares : (x : ℕ) (f : Bool) (o : ℕ) (force : Bool) → Compares x f o force
compares x true o true = by-number (nat_eq x o) x o true refl
compares x true o false = inr (λ it. absurd (cc))
compares x false o true = inr (λ it. absurd (cc))
compares x false o false = by-number (nat_eq x o) x o false refl

-- What holds of all entries holds with one more, with fewer, and of what becomes of them.
all-more : (P : Entry → Type 0) (es : List Entry) (e : Entry) → AllByRecursion P es → P e → AllByRecursion P (es ++ e ∷ [])
all-more P [] e all here = (here, tt)
all-more P (x ∷ es) e all here = (all.0, all-more P es e all.1 here)

fewer-by : (P : Entry → Type 0) (b : Bool) (e : Entry) (es : List Entry) → P e → AllByRecursion P es → AllByRecursion P (cond b (e ∷ es) es)
fewer-by P true e es here all = (here, all)
fewer-by P false e es here all = all

all-fewer : (P : Entry → Type 0) (test : Entry → Bool) (es : List Entry) → AllByRecursion P es → AllByRecursion P (filter test es)
all-fewer P test [] all = tt
all-fewer P test (e ∷ es) all = fewer-by P (test e) e (filter test es) all.0 (all-fewer P test es all.1)

all-mapped : (P : Entry → Type 0) (f : Entry → Entry) (es : List Entry) → ((e : Entry) → P e → P (f e)) → AllByRecursion P es
    → AllByRecursion P (map f es)
all-mapped P f [] each all = tt
all-mapped P f (e ∷ es) each all = (each e all.0, all-mapped P f es each all.1)

all-by-three : (P Q R S : Entry → Type 0) (es : List Entry) → ((e : Entry) → P e → Q e → R e → S e)
    → AllByRecursion P es → AllByRecursion Q es → AllByRecursion R es → AllByRecursion S es
all-by-three P Q R S [] each p q r = tt
all-by-three P Q R S (e ∷ es) each p q r = (each e p.0 q.0 r.0, all-by-three P Q R S es each p.1 q.1 r.1)

-- Serials that stand are below the next one.
all-below : (low high : ℕ) (es : List Entry) → Rises low high es → AllByRecursion (λ e. e.serial < high) es
all-below low high [] rises = tt
all-below low high (e ∷ es) rises =
    let less = rises-empty (e.serial + 1) high es rises.1 in (omega (arith, less), all-below (e.serial + 1) high es rises.1)

-- No entry has a serial that doesn't stand.
apart-by : (b : Bool) (s : ℕ) (e : Entry) (es : List Entry) → (e.serial == s) ≡ b
    → (is_some (option_map (λ (f : Entry). f.work) (find (λ (f : Entry). f.serial == s) es)) ≡ false → AllByRecursion (λ (f : Entry). f.serial ≢ s) es)
    → is_some (option_map (λ (f : Entry). f.work) (cond b (Some e) (find (λ (f : Entry). f.serial == s) es))) ≡ false
    → AllByRecursion (λ (f : Entry). f.serial ≢ s) (e ∷ es)
apart-by true s e es is rest none = absurd (cc)
apart-by false s e es is rest none = (eqb-false e.serial s is, rest none)

all-apart : (s : ℕ) (es : List Entry) → is_some (option_map (λ (f : Entry). f.work) (find (λ (f : Entry). f.serial == s) es)) ≡ false
    → AllByRecursion (λ (f : Entry). f.serial ≢ s) es
all-apart s [] none = tt
all-apart s (e ∷ es) none = apart-by (e.serial == s) s e es refl (all-apart s es) none

-- Nor is one the follow of what doesn't stand.
all-weaker : (P Q : Entry → Type 0) (es : List Entry) → ((e : Entry) → P e → Q e) → AllByRecursion P es → AllByRecursion Q es
all-weaker P Q es each all = all-by-three P P P Q es (λ e p q r. each e p) all all all

all-others : (n : Serials) (q : Events) (force : Bool) (o : ℕ) (last : Option ℕ) → last_of force o n ≡ last → is_standing q last ≡ false
    → AllByRecursion (FitsNoted n) q.entries → AllByRecursion (λ (e : Entry). e.work ≢ work.Follow o force) q.entries
all-others n q force o None is none all =
    all-weaker (FitsNoted n) (λ (e : Entry). e.work ≢ work.Follow o force) q.entries
    (λ e fits it. let at = fits.told force o it in absurd (cc)) all
all-others n q force o (Some s) is none all =
    all-by-three (FitsNoted n) (FitsNoted n) (λ (e : Entry). e.serial ≢ s) (λ (e : Entry). e.work ≢ work.Follow o force) q.entries
    (λ e fits fits_too apart it. let at = fits.told force o it in let same : e.serial ≡ s = cc in apart same)
    all all (all-apart s q.entries none)

-- An entry more that follows nothing.
fits-other : (n : Serials) (q : Events) (time : Option ℕ) (r : Region) (w : Work) → IsNoted n q → is_follow w ≡ false
    → FitsNoted n (record { serial = q.next; time = time; region = r; work = w })
fits-other n q time r w h other = record {
  told = λ force o is. let yes : is_follow w ≡ true = ap is_follow is in absurd (cc);
  heard = λ force o is. let less = h.below force o q.next is in absurd (omega (arith, less));
}

noted-added : (n : Serials) (time : ℕ) (r : Region) (w : Work) (q : Events) → is_follow w ≡ false → IsNoted n q → IsNoted n (added (Some time) r w q)
noted-added n time r w q other h = record {
  rising = rises-added (Some time) r w 1 q.next q.entries h.rising;
  below = λ force o serial is. let less = h.below force o serial is in omega (arith, less);
  each = all-more (FitsNoted n) q.entries _ h.each (fits-other n q (Some time) r w h other);
}

-- A follow more that is noted.
fits-old : (n : Serials) (next : ℕ) (force : Bool) (o : ℕ) (e : Entry) → FitsNoted n e → e.serial < next → e.work ≢ work.Follow o force
    → FitsNoted (noted force o next n) e
fits-old n next force o e fits less apart = record {
  told = λ f x is. elim (compares x f o force) [
    | inl same ↦ absurd (apart (is ∙ same))
    | inr other ↦ noted-other f force x o next n other ∙ fits.told f x is
  ];
  heard = λ f x is. elim (compares x f o force) [
    | inl same ↦ let at : Some next ≡ Some e.serial = sym (noted-same f force x o next n same) ∙ is in let equal : next ≡ e.serial = cc in absurd (omega (arith, equal, less))
    | inr other ↦ fits.heard f x (sym (noted-other f force x o next n other) ∙ is)
  ];
}

fits-new : (n : Serials) (q : Events) (force : Bool) (o : ℕ) (time : Option ℕ) (r : Region) → IsNoted n q
    → FitsNoted (noted force o q.next n) (record { serial = q.next; time = time; region = r; work = work.Follow o force })
fits-new n q force o time r h = record {
  told = λ f x is. noted-same f force x o q.next n (sym is);
  heard = λ f x is. elim (compares x f o force) [
    | inl same ↦ sym same
    | inr other ↦ let less = h.below f x q.next (sym (noted-other f force x o q.next n other) ∙ is) in absurd (omega (arith, less))
  ];
}

noted-follow : (n : Serials) (q : Events) (force : Bool) (o time : ℕ) (r : Region) → is_standing q (last_of force o n) ≡ false → IsNoted n q
    → IsNoted (noted force o q.next n) (added (Some time) r (work.Follow o force) q)
noted-follow n q force o time r none h = record {
  rising = rises-added (Some time) r (work.Follow o force) 1 q.next q.entries h.rising;
  below = λ f x serial is. elim (compares x f o force) [
    | inl same ↦ let at : Some q.next ≡ Some serial = sym (noted-same f force x o q.next n same) ∙ is in let equal : q.next ≡ serial = cc in omega (arith, equal)
    | inr other ↦ let less = h.below f x serial (sym (noted-other f force x o q.next n other) ∙ is) in omega (arith, less)
  ];
  each = all-more (FitsNoted (noted force o q.next n)) q.entries _
      (all-by-three (FitsNoted n) (λ (e : Entry). e.serial < q.next) (λ (e : Entry). e.work ≢ work.Follow o force) (FitsNoted (noted force o q.next n)) q.entries
      (fits-old n q.next force o) h.each (all-below 1 q.next q.entries h.rising) (all-others n q force o (last_of force o n) refl none h.each))
      (fits-new n q force o (Some time) r h);
}

-- With other regions and times; and before all.
fits-moved : (n : Serials) (e g : Entry) → g.serial ≡ e.serial → g.work ≡ e.work → FitsNoted n e → FitsNoted n g
fits-moved n e g serial work fits = record {
  told = λ force o is. fits.told force o (sym work ∙ is) ∙ ap Some (sym serial);
  heard = λ force o is. work ∙ fits.heard force o (is ∙ ap Some serial);
}

none-noted : (force : Bool) (o : ℕ) → last_of force o no_serials ≡ None
none-noted true o = refl
none-noted false o = refl

notes-keep : KeepsNotes IsNoted
notes-keep = record {
  each = λ n. record {
    adds = noted-added n;
    drops = λ test q h. record {
      rising = rises-filter test 1 q.next q.entries h.rising;
      below = h.below;
      each = all-fewer (FitsNoted n) test q.entries h.each;
    };
  };
  follows = noted-follow;
  moves = λ n q time f serial work h. record {
    rising = rises-map f serial 1 q.next q.entries h.rising;
    below = h.below;
    each = all-mapped (FitsNoted n) f q.entries (λ e fits. fits-moved n e (f e) (serial e) (work e) fits) h.each;
  };
  clears = λ n q h. record { rising = rises-empty 1 q.next q.entries h.rising; below = h.below; each = tt };
  before = λ time. record {
    rising = omega arith;
    below = λ force o serial is. let none = none-noted force o in absurd (cc);
    each = tt;
  };
}

pub opens-noted : OpensNoted
opens-noted d scripts s opens = opens-so IsNoted notes-keep d scripts s opens

pub stays-noted : StaysNoted
stays-noted s t l holds step = stays-so IsNoted notes-keep s t l holds step

-- The serial tells whether an entry stands.
and-parts : (a b : Bool) → (a && b) ≡ true → (a ≡ true) × (b ≡ true)
and-parts true true is = (refl, refl)
and-parts true false is = absurd (cc)
and-parts false b is = absurd (cc)

layer-is : (force f : Bool) → is_layer force f ≡ true → f ≡ force
layer-is true f is = is
layer-is false true is = absurd (cc)
layer-is false false is = refl

layer-itself : (force : Bool) → is_layer force force ≡ true
layer-itself true = refl
layer-itself false = refl

follow-is : (force : Bool) (o : ℕ) (w : Work) → is_follow_of force o w ≡ true → w ≡ work.Follow o force
follow-is force o (work.Evaluate p) is = absurd (cc)
follow-is force o (work.Drive driver value) is = absurd (cc)
follow-is force o (work.Assign object low value) is = absurd (cc)
follow-is force o (work.Follow object f) is =
    let both = and-parts (object == o) (is_layer force f) is in
    ap (λ (x : ℕ). work.Follow x f) (eqb-true object o both.0) ∙ ap (λ (g : Bool). work.Follow o g) (layer-is force f both.1)
follow-is force o (work.Put object value) is = absurd (cc)
follow-is force o (work.Strobe n) is = absurd (cc)
follow-is force o work.MonitorShow is = absurd (cc)
follow-is force o (work.Call callback) is = absurd (cc)

follow-itself : (force : Bool) (o : ℕ) → is_follow_of force o (work.Follow o force) ≡ true
follow-itself force o = rw (eq-eqb o o refl) (layer-itself force)

-- Has an entry this serial, where there is one?
abbrev has_serial : Option ℕ → Entry → Bool
has_serial None e = false
has_serial (Some s) e = e.serial == s

told-by : (b : Bool) (n : Serials) (force : Bool) (o : ℕ) (last : Option ℕ) (e : Entry) → last_of force o n ≡ last → FitsNoted n e
    → is_follow_of force o e.work ≡ b → b ≡ has_serial last e
told-by true n force o None e is fits follows = let at = fits.told force o (follow-is force o e.work follows) in absurd (cc)
told-by true n force o (Some s) e is fits follows =
    let at = fits.told force o (follow-is force o e.work follows) in let same : e.serial ≡ s = cc in sym (eq-eqb e.serial s same)
told-by false n force o None e is fits follows = refl
told-by false n force o (Some s) e is fits follows =
    sym (ne_eqb e.serial s (λ same.
    let heard = fits.heard force o (is ∙ ap Some (sym same)) in
    let yes : is_follow_of force o e.work ≡ true = ap (λ (w : Work). is_follow_of force o w) heard ∙ follow-itself force o in absurd (cc)))

any-alike : (f g : Entry → Bool) (es : List Entry) → AllByRecursion (λ e. f e ≡ g e) es → list_any f es ≡ list_any g es
any-alike f g [] all = refl
any-alike f g (e ∷ es) all = rw (all.0, any-alike f g es all.1) refl

found-any-by : (b : Bool) (e : Entry) (o : Option Entry) (any : Bool) → is_some (option_map (λ (f : Entry). f.work) o) ≡ any
    → is_some (option_map (λ (f : Entry). f.work) (cond b (Some e) o)) ≡ (b || any)
found-any-by true e o any is = refl
found-any-by false e o any is = is

found-any : (s : ℕ) (es : List Entry)
    → is_some (option_map (λ (f : Entry). f.work) (find (λ (f : Entry). f.serial == s) es)) ≡ list_any (has_serial (Some s)) es
found-any s [] = refl
found-any s (e ∷ es) = found-any-by (e.serial == s) e (find (λ (f : Entry). f.serial == s) es) _ (found-any s es)

none-any : (es : List Entry) → false ≡ list_any (has_serial None) es
none-any [] = refl
none-any (e ∷ es) = none-any es

standing-any : (q : Events) (last : Option ℕ) → is_standing q last ≡ list_any (has_serial last) q.entries
standing-any q None = none-any q.entries
standing-any q (Some s) = found-any s q.entries

pub tells-standing : TellsStanding
tells-standing n q force o h =
    let last = last_of force o n in
    standing-any q last
    ∙ sym (any-alike (λ e. is_follow_of force o e.work) (has_serial last) q.entries
    (all-weaker (FitsNoted n) (λ e. is_follow_of force o e.work ≡ has_serial last e) q.entries
    (λ e fits. told-by (is_follow_of force o e.work) n force o last e refl fits refl) h.each))

-- One stands at most.
all-at : (P : Entry → Type 0) (es : List Entry) (i : ℕ) (e : Entry) → AllByRecursion P es → slice_get es i ≡ Some e → P e
all-at P [] i e all at = absurd (cc)
all-at P (x ∷ es) zero e all at = let same : x ≡ e = cc in let Q : Entry → Type 0 = P in subst Q same all.0
all-at P (x ∷ es) (suc i) e all at = all-at P es i e all.1 at

pub stands-once : StandsOnce
stands-once n q force o i j e f h at_i at_j e_is f_is =
    let first = (all-at (FitsNoted n) q.entries i e h.each at_i).told force o e_is in
    let second = (all-at (FitsNoted n) q.entries j f h.each at_j).told force o f_is in
    let same : e.serial ≡ f.serial = cc in
    rises-one 1 q.next q.entries i j e f h.rising at_i at_j same

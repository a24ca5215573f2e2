-- The set of a frame, from its occurrence on.
use Rattle.std.proofs.Common.{◌≡◌, ℕ, zero, suc, ◌+◌, ◌<◌, ◌≤◌, List, [], ◌∷◌, map, filter, Bool, true, false, cond, not, ◌&&◌, ◌||◌, nat_eq, Some, slice_get, refl, sym, ap, subst, ◌∙◌, arith}
use Rattle.std.proofs.Math.Path.{fun_ext}
use Rattle.std.proofs.lemmas.Bool.{eqb-true, eq-eqb, and_parts}
use Rattle.vh_base.specs.declared.orders.Answer.{Answer}
use Rattle.vh_base.specs.declared.orders.Order.{Order}
use Rattle.vh_callbacks.specs.Callbacks.{Callbacks, is_live, removed, IsSound}
use Rattle.vh_orders.specs.declared.who.Body.{Body}
use Rattle.vh_orders.specs.declared.who.Who.{Who}
use Rattle.vh_kernel.specs.declared.label.Label.{Label}
use Rattle.vh_kernel.specs.declared.label.Label.TheVariants as label
use Rattle.vh_kernel_laws.specs.Firing.{Frame}
use Rattle.vh_callbacks.specs.Marks.{is_among, without_number}
use Rattle.vh_kernel.specs.Occurrences.{Occurrence, set_of}
use Rattle.vh_kernel.specs.Outcome.{Move}
use Rattle.vh_kernel.specs.State.{State}
use Rattle.vh_kernel_laws.specs.Firing.{frames_of, left_of}
use Rattle.vh_kernel_laws.specs.Paths.{Deed, other, deed_of, fires_for, is_fire, any, was_removed, IsPath, end_of}
use Rattle.vh_kernel_laws.proofs.CallbacksLemmas.{works-turn, turns_sound, live_low, live_registered, live_removed, gone_removed}
use Rattle.vh_kernel_laws.proofs.Splits.{not_both, or_right, or_left}
use Rattle.vh_kernel_laws.proofs.Works.{View, view_of, taken_from, changes_none, opens_one, registers_one, removes_one, frees_one, Works, works_none, empties, orders_one, tells_one, fires_one, closes_one}
use Rattle.vh_kernel_laws.proofs.WorksLemmas.{made-works}

-- Lists and tests.
filter-by : (b : Bool) (p : ℕ → Bool) (x : ℕ) (xs ys : List ℕ) → p x ≡ b → filter p xs ≡ ys → filter p (x ∷ xs) ≡ cond b (x ∷ ys) ys
filter-by b p x xs ys is rest = rw is (ap (λ (zs : List ℕ). cond b (x ∷ zs) zs) rest)

-- A test that all pass keeps all.
pub filter-all : (p : ℕ → Bool) (xs : List ℕ) → ((c : ℕ) → is_among c xs ≡ true → p c ≡ true) → filter p xs ≡ xs
filter-all p [] all = refl
filter-all p (x ∷ xs) all =
    filter-by true p x xs xs (all x (or_left (nat_eq x x) (is_among x xs) (eq-eqb x x refl)))
    (filter-all p xs (λ c among. all c (or_right (nat_eq c x) (is_among c xs) among)))

-- Tests that agree on what is among them keep the same.
same-by : (b : Bool) (p q : ℕ → Bool) (x : ℕ) (xs : List ℕ) → q x ≡ b → p x ≡ b → filter p xs ≡ filter q xs
    → filter p (x ∷ xs) ≡ filter q (x ∷ xs)
same-by b p q x xs second first rest = rw (first, second, rest) refl

pub filter-agree : (p q : ℕ → Bool) (xs : List ℕ) → ((c : ℕ) → is_among c xs ≡ true → p c ≡ q c) → filter p xs ≡ filter q xs
filter-agree p q [] agree = refl
filter-agree p q (x ∷ xs) agree =
    same-by (q x) p q x xs refl (agree x (or_left (nat_eq x x) (is_among x xs) (eq-eqb x x refl)))
    (filter-agree p q xs (λ c among. agree c (or_right (nat_eq c x) (is_among c xs) among)))

both-by : (a b : Bool) (p q : ℕ → Bool) (x : ℕ) (xs : List ℕ) → q x ≡ a → p x ≡ b
    → filter p (filter q xs) ≡ filter (λ c. q c && p c) xs → filter p (filter q (x ∷ xs)) ≡ filter (λ c. q c && p c) (x ∷ xs)
both-by true b p q x xs first second rest = rw (first, second, rest) refl
both-by false b p q x xs first second rest = rw (first, rest) refl

filter-both : (p q : ℕ → Bool) (xs : List ℕ) → filter p (filter q xs) ≡ filter (λ c. q c && p c) xs
filter-both p q [] = refl
filter-both p q (x ∷ xs) = both-by (q x) (p x) p q x xs refl refl (filter-both p q xs)

-- And what is among all and passes is among those.
passes-by : (b : Bool) (same : Bool) (c x : ℕ) (p : ℕ → Bool) (xs rest : List ℕ) → p x ≡ b → nat_eq c x ≡ same → p c ≡ true
    → (is_among c xs ≡ true → is_among c rest ≡ true) → (same || is_among c xs) ≡ true → is_among c (cond b (x ∷ rest) rest) ≡ true
passes-by true true c x p xs rest at is passes more among = rw is refl
passes-by true false c x p xs rest at is passes more among = or_right (nat_eq c x) (is_among c rest) (more among)
passes-by false true c x p xs rest at is passes more among =
    let same : c ≡ x = eqb-true c x is in absurd (not_both (p x) (ap p (sym same) ∙ passes) at)
passes-by false false c x p xs rest at is passes more among = more among

pub filter-among : (c : ℕ) (p : ℕ → Bool) (xs : List ℕ) → is_among c xs ≡ true → p c ≡ true → is_among c (filter p xs) ≡ true
filter-among c p [] among passes = absurd (cc)
filter-among c p (x ∷ xs) among passes =
    passes-by (p x) (nat_eq c x) c x p xs (filter p xs) refl refl passes (λ there. filter-among c p xs there passes) among

-- What is left of a set after one label.
abbrev pub left_by : ℕ → Label → Callbacks Body → List ℕ → List ℕ
left_by n l callbacks set = filter (λ c. not (is_fire n c l) && is_live c callbacks) set

four : (a rest live gone : Bool) → (not (a || rest) && not (not live || gone)) ≡ ((not a && live) && (not rest && not gone))
four true rest live gone = refl
four false true true gone = refl
four false true false gone = refl
four false false true gone = refl
four false false false gone = refl

-- What is left after one label and more.
pub left-more : (n : ℕ) (m : Move) (moves : List Move) (set : List ℕ)
    → left_of n moves (left_by n m.0 m.1.world.callbacks set) ≡ left_of n (m ∷ moves) set
left-more n m moves set =
    filter-both (λ c. not (any (is_fire n c) moves) && not (was_removed c moves)) (λ c. not (is_fire n c m.0) && is_live c m.1.world.callbacks) set
    ∙ ap (λ (p : ℕ → Bool). filter p set)
    (fun_ext (λ c. sym (four (is_fire n c m.0) (any (is_fire n c) moves) (is_live c m.1.world.callbacks) (was_removed c moves))))

-- The numbers of the frames fall from the top on, and are below this one.
abbrev pub Falls : ℕ → List Frame → Type 0
Falls high [] = Unit {0}
Falls high (f ∷ fs) = (f.number < high) × Falls f.number fs

falls-higher : (low high : ℕ) (fs : List Frame) → low ≤ high → Falls low fs → Falls high fs
falls-higher low high [] below falls = tt
falls-higher low high (f ∷ fs) below falls = (let h = falls.0 in omega arith, falls.1)

pub falls-below : (high i : ℕ) (fs : List Frame) (f : Frame) → Falls high fs → slice_get fs i ≡ Some f → f.number < high
falls-below high i [] f falls at = absurd (cc)
falls-below high zero (g ∷ fs) f falls at =
    let same : g ≡ f = cc in subst (λ (x : Frame). x.number < high) same falls.0
falls-below high (suc i) (g ∷ fs) f falls at =
    let low : f.number < g.number = falls-below g.number i fs f falls.1 at in let h = falls.0 in omega arith

falls-map : (c high : ℕ) (fs : List Frame) → Falls high fs → Falls high (map (taken_from c) fs)
falls-map c high [] falls = tt
falls-map c high (f ∷ fs) falls = (falls.0, falls-map c f.number fs falls.1)

pub works-falls : (s : State) (l : Label) (w : View) → Works s l w → Falls s.occurrence (frames_of s) → Falls w.occurrence w.frames
works-falls s l w (works_none quiet is) falls = subst (λ (x : View). Falls x.occurrence x.frames) (sym is) falls
works-falls s l w (empties quiet is at_finish) falls = subst (λ (x : View). Falls x.occurrence x.frames) (sym is) tt
works-falls s l w (orders_one who o a is (changes_none plain after)) falls = subst (λ (x : View). Falls x.occurrence x.frames) (sym after) falls
works-falls s l w (orders_one who o a is (opens_one h x gives fresh finds after)) falls =
    subst (λ (x : View). Falls x.occurrence x.frames) (sym after) falls
works-falls s l w (orders_one who o a is (registers_one h r b gives fresh room asks after)) falls =
    subst (λ (x : View). Falls x.occurrence x.frames) (sym after) falls
works-falls s l w (orders_one who o a is (removes_one c h by one names after)) falls =
    subst (λ (x : View). Falls x.occurrence x.frames) (sym after) (falls-map c s.occurrence (frames_of s) falls)
works-falls s l w (orders_one who o a is (frees_one h by one live after)) falls =
    subst (λ (x : View). Falls x.occurrence x.frames) (sym after) falls
works-falls s l w (tells_one n what is number after) falls =
    subst (λ (x : View). Falls x.occurrence x.frames) (sym after)
    (omega arith, subst (λ (k : ℕ). Falls k (frames_of s)) (sym number) falls)
works-falls s l w (fires_one n c f rest is on number among after) falls =
    let there : Falls s.occurrence (f ∷ rest) = subst (λ (fs : List Frame). Falls s.occurrence fs) on falls in
    subst (λ (x : View). Falls x.occurrence x.frames) (sym after) (there.0, there.1)
works-falls s l w (closes_one n f rest is on number none after) falls =
    let there : Falls s.occurrence (f ∷ rest) = subst (λ (fs : List Frame). Falls s.occurrence fs) on falls in
    subst (λ (x : View). Falls x.occurrence x.frames) (sym after)
    (falls-higher f.number s.occurrence rest (let h = there.0 in omega arith) there.1)

-- The number of the next occurrence doesn't fall.
pub works-number : (s : State) (l : Label) (w : View) → Works s l w → s.occurrence ≤ w.occurrence
works-number s l w (works_none quiet is) = let e : w.occurrence ≡ s.occurrence = ap (λ (x : View). x.occurrence) is in omega arith
works-number s l w (empties quiet is at_finish) = let e : w.occurrence ≡ s.occurrence = ap (λ (x : View). x.occurrence) is in omega arith
works-number s l w (orders_one who o a is (changes_none plain after)) =
    let e : w.occurrence ≡ s.occurrence = ap (λ (x : View). x.occurrence) after in omega arith
works-number s l w (orders_one who o a is (opens_one h x gives fresh finds after)) =
    let e : w.occurrence ≡ s.occurrence = ap (λ (x : View). x.occurrence) after in omega arith
works-number s l w (orders_one who o a is (registers_one h r b gives fresh room asks after)) =
    let e : w.occurrence ≡ s.occurrence = ap (λ (x : View). x.occurrence) after in omega arith
works-number s l w (orders_one who o a is (removes_one c h by one names after)) =
    let e : w.occurrence ≡ s.occurrence = ap (λ (x : View). x.occurrence) after in omega arith
works-number s l w (orders_one who o a is (frees_one h by one live after)) =
    let e : w.occurrence ≡ s.occurrence = ap (λ (x : View). x.occurrence) after in omega arith
works-number s l w (tells_one n what is number after) =
    let e : w.occurrence ≡ n + 1 = ap (λ (x : View). x.occurrence) after in omega arith
works-number s l w (fires_one n c f rest is on number among after) =
    let e : w.occurrence ≡ s.occurrence = ap (λ (x : View). x.occurrence) after in omega arith
works-number s l w (closes_one n f rest is on number none after) =
    let e : w.occurrence ≡ s.occurrence = ap (λ (x : View). x.occurrence) after in omega arith

-- From its telling on: the frames of the occurrence have this set, all of it live.
pub record HasSet (n : ℕ) (set : List ℕ) (v : View) : Type 0 where
  pub below : n < v.occurrence
  pub falls : Falls v.occurrence v.frames
  pub live : (c : ℕ) → is_among c set ≡ true → is_live c v.callbacks ≡ true
  pub sets : (i : ℕ) (f : Frame) → slice_get v.frames i ≡ Some f → f.number ≡ n → f.left ≡ set

-- A label that fires none of it, where those stay live, leaves the set.
left-all : (n : ℕ) (l : Label) (callbacks : Callbacks Body) (set : List ℕ) → ((c : ℕ) → is_fire n c l ≡ false)
    → ((c : ℕ) → is_among c set ≡ true → is_live c callbacks ≡ true) → left_by n l callbacks set ≡ set
left-all n l callbacks set silent live =
    filter-all (λ c. not (is_fire n c l) && is_live c callbacks) set (λ c among. rw (silent c, live c among) refl)

quiet-fire : (l : Label) → deed_of l ≡ other → (n c : ℕ) → is_fire n c l ≡ false
quiet-fire l quiet n c = ap (λ (d : Deed). fires_for n c d) quiet

order-fire : (l : Label) (who : Who) (o : Order) (a : Answer) → l ≡ label.Do who o a → (n c : ℕ) → is_fire n c l ≡ false
order-fire l who o a is n c = ap (λ (x : Label). is_fire n c x) is

-- What is among those that pass passes.
passing-by : (b same : Bool) (c x : ℕ) (p : ℕ → Bool) (rest : List ℕ) → p x ≡ b → nat_eq c x ≡ same
    → (is_among c rest ≡ true → p c ≡ true) → is_among c (cond b (x ∷ rest) rest) ≡ true → p c ≡ true
passing-by true true c x p rest at is more among = ap p (eqb-true c x is) ∙ at
passing-by true false c x p rest at is more among = more (rw is at among)
passing-by false same c x p rest at is more among = more among

pub filter-passes : (c : ℕ) (p : ℕ → Bool) (xs : List ℕ) → is_among c (filter p xs) ≡ true → p c ≡ true
filter-passes c p [] among = absurd (cc)
filter-passes c p (x ∷ xs) among =
    passing-by (p x) (nat_eq c x) c x p (filter p xs) refl refl (filter-passes c p xs) among

-- What is left is live.
live-left : (n : ℕ) (l : Label) (callbacks : Callbacks Body) (set : List ℕ) (c : ℕ)
    → is_among c (left_by n l callbacks set) ≡ true → is_live c callbacks ≡ true
live-left n l callbacks set c among =
    (and_parts (not (is_fire n c l)) (is_live c callbacks)
    (filter-passes c (λ d. not (is_fire n d l) && is_live d callbacks) set among)).1

-- The sets of the frames of an occurrence after a label.
abbrev SetsAre : ℕ → List ℕ → List Frame → Type 0
SetsAre n set fs = (i : ℕ) (f : Frame) → slice_get fs i ≡ Some f → f.number ≡ n → f.left ≡ set

sets-same : (n : ℕ) (s : State) (l : Label) (w : View) (set : List ℕ) → w.frames ≡ frames_of s
    → left_by n l w.callbacks set ≡ set → SetsAre n set (frames_of s) → SetsAre n (left_by n l w.callbacks set) w.frames
sets-same n s l w set same all sets =
    subst (λ (fs : List Frame). SetsAre n (left_by n l w.callbacks set) fs) (sym same)
    (subst (λ (xs : List ℕ). SetsAre n xs (frames_of s)) (sym all) sets)

pub map-at : (c i : ℕ) (fs : List Frame) (f : Frame) → slice_get (map (taken_from c) fs) i ≡ Some f
    → (g : Frame) × (slice_get fs i ≡ Some g) × (taken_from c g ≡ f)
map-at c i [] f at = absurd (cc)
map-at c zero (g ∷ fs) f at = (g, refl, cc)
map-at c (suc i) (g ∷ fs) f at = map-at c i fs f at

-- A removal.
less-by : (b : Bool) (c d : ℕ) (callbacks : Callbacks Body) → nat_eq d c ≡ b → IsSound callbacks → is_live d callbacks ≡ true
    → is_live d (removed c callbacks) ≡ not b
less-by true c d callbacks is sound alive =
    let same : d ≡ c = eqb-true d c is in
    subst (λ (x : ℕ). is_live x (removed c callbacks) ≡ false) (sym same) (gone_removed c callbacks sound)
less-by false c d callbacks is sound alive = live_removed c d callbacks is ∙ alive

left-without : (n c : ℕ) (l : Label) (callbacks : Callbacks Body) (set : List ℕ) → ((d : ℕ) → is_fire n d l ≡ false)
    → IsSound callbacks → ((d : ℕ) → is_among d set ≡ true → is_live d callbacks ≡ true)
    → left_by n l (removed c callbacks) set ≡ without_number c set
left-without n c l callbacks set silent sound live =
    filter-agree (λ d. not (is_fire n d l) && is_live d (removed c callbacks)) (λ d. not (nat_eq d c)) set
    (λ d among. rw (silent d) (less-by (nat_eq d c) c d callbacks refl sound (live d among)))

-- A fire for the occurrence.
and-true : (b : Bool) → (b && true) ≡ b
and-true true = refl
and-true false = refl

left-fired : (n k c : ℕ) (l : Label) (callbacks : Callbacks Body) (set : List ℕ) → l ≡ label.Fire k c → n ≡ k
    → ((d : ℕ) → is_among d set ≡ true → is_live d callbacks ≡ true) → left_by n l callbacks set ≡ without_number c set
left-fired n k c l callbacks set is same live =
    filter-agree (λ d. not (is_fire n d l) && is_live d callbacks) (λ d. not (nat_eq d c)) set
    (λ d among. rw (live d among, ap (λ (x : Label). is_fire n d x) is, eq-eqb n k same) (and-true (not (nat_eq d c))))

other-fire : (n k c d : ℕ) (l : Label) → l ≡ label.Fire k c → nat_eq n k ≡ false → is_fire n d l ≡ false
other-fire n k c d l is apart = ap (λ (x : Label). is_fire n d x) is ∙ ap (λ (b : Bool). b && nat_eq d c) apart

fires-sets : (b : Bool) (n k c : ℕ) (s : State) (l : Label) (f : Frame) (rest : List Frame) (set : List ℕ) → nat_eq n k ≡ b
    → l ≡ label.Fire k c → frames_of s ≡ f ∷ rest → k ≡ f.number → HasSet n set (view_of s)
    → SetsAre n (left_by n l s.world.callbacks set) (taken_from c f ∷ rest)
fires-sets true n k c s l f rest set is fires on number has zero g at of =
    let same : n ≡ k = eqb-true n k is in
    let here : taken_from c f ≡ g = cc in
    let there : f.left ≡ set = has.sets 0 f (ap (λ (fs : List Frame). slice_get fs 0) on) (sym number ∙ sym same) in
    sym (ap (λ (x : Frame). x.left) here) ∙ ap (λ (xs : List ℕ). without_number c xs) there
    ∙ sym (left-fired n k c l s.world.callbacks set fires same has.live)
fires-sets true n k c s l f rest set is fires on number has (suc i) g at of =
    let same : n ≡ k = eqb-true n k is in
    let falls : Falls s.occurrence (f ∷ rest) = subst (λ (fs : List Frame). Falls s.occurrence fs) on has.falls in
    let low : g.number < f.number = falls-below f.number i rest g falls.1 at in absurd (omega arith)
fires-sets false n k c s l f rest set is fires on number has zero g at of =
    let here : taken_from c f ≡ g = cc in
    let same : g.number ≡ f.number = ap (λ (x : Frame). x.number) (sym here) in
    absurd (not_both (nat_eq n k) (eq-eqb n k (sym of ∙ same ∙ sym number)) is)
fires-sets false n k c s l f rest set is fires on number has (suc i) g at of =
    has.sets (suc i) g (ap (λ (fs : List Frame). slice_get fs (suc i)) on ∙ at) of
    ∙ sym (left-all n l s.world.callbacks set (λ d. other-fire n k c d l fires is) has.live)

removed-set : (n c i : ℕ) (s : State) (set : List ℕ) (f : Frame) → HasSet n set (view_of s)
    → slice_get (map (taken_from c) (frames_of s)) i ≡ Some f → f.number ≡ n → f.left ≡ without_number c set
removed-set n c i s set f has at of =
    let from = map-at c i (frames_of s) f at in
    let number : from.0.number ≡ n = ap (λ (x : Frame). x.number) from.2 ∙ of in
    sym (ap (λ (x : Frame). x.left) from.2) ∙ ap (λ (xs : List ℕ). without_number c xs) (has.sets i from.0 from.1 number)

told-set : (n k i : ℕ) (s : State) (what : Occurrence) (set : List ℕ) (f : Frame) → HasSet n set (view_of s) → k ≡ s.occurrence
    → slice_get (record { number = k; what = what; left = set_of what s.world.callbacks } ∷ frames_of s) i ≡ Some f
    → f.number ≡ n → f.left ≡ set
told-set n k zero s what set f has number at of =
    let here : record { number = k; what = what; left = set_of what s.world.callbacks } ≡ f = cc in
    let same : k ≡ f.number = ap (λ (x : Frame). x.number) here in
    let low = has.below in absurd (omega arith)
told-set n k (suc i) s what set f has number at of = has.sets i f at of

works-sets : (n : ℕ) (set : List ℕ) (s : State) (l : Label) (w : View) → Works s l w → IsSound s.world.callbacks → HasSet n set (view_of s)
    → SetsAre n (left_by n l w.callbacks set) w.frames
works-sets n set s l w (works_none quiet is) sound has =
    sets-same n s l w set (ap (λ (x : View). x.frames) is)
    (left-all n l w.callbacks set (quiet-fire l quiet n)
    (λ c among. ap (λ (x : View). is_live c x.callbacks) is ∙ has.live c among)) has.sets
works-sets n set s l w (empties quiet is at_finish) sound has =
    subst (λ (fs : List Frame). SetsAre n (left_by n l w.callbacks set) fs) (sym (ap (λ (x : View). x.frames) is))
    (λ i f at of. absurd (cc))
works-sets n set s l w (orders_one who o a is (changes_none plain after)) sound has =
    sets-same n s l w set (ap (λ (x : View). x.frames) after)
    (left-all n l w.callbacks set (order-fire l who o a is n)
    (λ c among. ap (λ (x : View). is_live c x.callbacks) after ∙ has.live c among)) has.sets
works-sets n set s l w (orders_one who o a is (opens_one h x gives fresh finds after)) sound has =
    sets-same n s l w set (ap (λ (x : View). x.frames) after)
    (left-all n l w.callbacks set (order-fire l who o a is n)
    (λ c among. ap (λ (x : View). is_live c x.callbacks) after ∙ has.live c among)) has.sets
works-sets n set s l w (orders_one who o a is (registers_one h r b gives fresh room asks after)) sound has =
    sets-same n s l w set (ap (λ (x : View). x.frames) after)
    (left-all n l w.callbacks set (order-fire l who o a is n)
    (λ c among. ap (λ (x : View). is_live c x.callbacks) after
    ∙ live_registered c r b s.world.callbacks (live_low c s.world.callbacks sound (has.live c among)) ∙ has.live c among)) has.sets
works-sets n set s l w (orders_one who o a is (removes_one c h by one names after)) sound has =
    let less : left_by n l w.callbacks set ≡ without_number c set =
    ap (λ (x : View). left_by n l x.callbacks set) after
    ∙ left-without n c l s.world.callbacks set (order-fire l who o a is n) sound has.live in
    subst (λ (fs : List Frame). SetsAre n (left_by n l w.callbacks set) fs) (sym (ap (λ (x : View). x.frames) after))
    (λ i f at of. removed-set n c i s set f has at of ∙ sym less)
works-sets n set s l w (orders_one who o a is (frees_one h by one live after)) sound has =
    sets-same n s l w set (ap (λ (x : View). x.frames) after)
    (left-all n l w.callbacks set (order-fire l who o a is n)
    (λ c among. ap (λ (x : View). is_live c x.callbacks) after ∙ has.live c among)) has.sets
works-sets n set s l w (tells_one k what is number after) sound has =
    subst (λ (fs : List Frame). SetsAre n (left_by n l w.callbacks set) fs) (sym (ap (λ (x : View). x.frames) after))
    (λ i f at of. told-set n k i s what set f has number at of ∙ sym (left-all n l w.callbacks set
    (λ c. ap (λ (x : Label). is_fire n c x) is) (λ c among. ap (λ (x : View). is_live c x.callbacks) after ∙ has.live c among)))
works-sets n set s l w (fires_one k c f rest is on number among after) sound has =
    subst (λ (x : View). SetsAre n (left_by n l x.callbacks set) x.frames) (sym after)
    (fires-sets (nat_eq n k) n k c s l f rest set refl is on number has)
works-sets n set s l w (closes_one k f rest is on number none after) sound has =
    subst (λ (fs : List Frame). SetsAre n (left_by n l w.callbacks set) fs) (sym (ap (λ (x : View). x.frames) after))
    (λ i g at of. has.sets (suc i) g (ap (λ (fs : List Frame). slice_get fs (suc i)) on ∙ at) of
    ∙ sym (left-all n l w.callbacks set (λ c. ap (λ (x : Label). is_fire n c x) is)
    (λ c among. ap (λ (x : View). is_live c x.callbacks) after ∙ has.live c among)))

works-has : (n : ℕ) (set : List ℕ) (s : State) (l : Label) (w : View) → Works s l w → IsSound s.world.callbacks → HasSet n set (view_of s)
    → HasSet n (left_by n l w.callbacks set) w
works-has n set s l w works sound has = record {
  below = (let more = works-number s l w works in let low = has.below in omega arith);
  falls = works-falls s l w works has.falls;
  live = live-left n l w.callbacks set;
  sets = works-sets n set s l w works sound has;
}

-- Along a path.
pub has-on : (n : ℕ) (set : List ℕ) (s : State) (moves : List Move) → IsPath s moves → IsSound s.world.callbacks → HasSet n set (view_of s)
    → HasSet n (left_of n moves set) (view_of (end_of s moves))
has-on n set s [] path sound has =
    subst (λ (xs : List ℕ). HasSet n xs (view_of s)) (sym (filter-all (λ c. true) set (λ c among. refl))) has
has-on n set s (m ∷ moves) path sound has =
    let works : Works s m.0 (view_of m.1) = made-works s m path.0 in
    subst (λ (xs : List ℕ). HasSet n xs (view_of (end_of m.1 moves))) (left-more n m moves set)
    (has-on n (left_by n m.0 m.1.world.callbacks set) m.1 moves path.1
    (turns_sound s.world.callbacks m.1.world.callbacks (works-turn s m.0 (view_of m.1) works) sound)
    (works-has n set s m.0 (view_of m.1) works sound has))

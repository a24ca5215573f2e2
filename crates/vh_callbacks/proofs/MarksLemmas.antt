-- Sets of numbers: what is left without one of them, and the sets by depth.
use Rattle.std.proofs.Common.{◌≡◌, ◌<◌, ◌≤◌, ◌+◌, ℕ, zero, suc, List, [], ◌∷◌, length, get_or, Bool, true, false, not, cond, nat_eq, Option, Some, None, IsSome, OnSome, IfSome, IfNone, OnOk, OnErr, Result, Ok, Err, slice_get, refl, ap, subst, sym, ◌∙◌, arith, ◌||◌, ⊎_elim}
use Rattle.std.specs.List.{remove}
use Rattle.std.specs.List.Sorted.{IsBinarySearchResult}
use Rattle.std.specs.Ordering.{nat_cmp}
use Rattle.std.specs.Result.{MatchResult}
use Rattle.vh_base.specs.declared.faults.NoMemory.{NoMemory}
use Rattle.std.specs.Prelude.{unwrap_or, nat_lt}
use Rattle.std.proofs.lemmas.Bool.{ne_eqb, eq-eqb, eqb-true, lt-ltb, le-ltb, or_parts, cases_lt, cases_eq}
use Rattle.std.proofs.lemmas.List.Sorted.{searched}
use Rattle.std.proofs.lemmas.Option.{slice_get_past, slice_get-get_or}
use Rattle.vh_callbacks.specs.Callbacks.{IsRising}
use Rattle.vh_callbacks.specs.Marks.{without_number, is_among, set_at, IsSet}
use Rattle.vh_callbacks.proofs.CallbacksLemmas.{from_lower}

-- ---- without a number

rising_by : (b : Bool) (low n : ℕ) (ns : List ℕ) → low ≤ n → IsRising (n + 1) ns → IsRising low (cond b (n ∷ ns) ns)
rising_by true low n ns above rising = (above, rising)
rising_by false low n ns above rising = from_lower (n + 1) low ns (omega arith) rising

pub rising_without : (c low : ℕ) (ns : List ℕ) → IsRising low ns → IsRising low (without_number c ns)
rising_without c low [] rising = tt
rising_without c low (n ∷ ns) rising =
    rising_by (not (nat_eq n c)) low n (without_number c ns) rising.0 (rising_without c (n + 1) ns rising.1)

few_by : (b : Bool) (n : ℕ) (ns rest : List ℕ) → length rest ≤ length ns → length (cond b (n ∷ rest) rest) ≤ length (n ∷ ns)
few_by true n ns rest few = omega arith
few_by false n ns rest few = omega arith

pub few_without : (c : ℕ) (ns : List ℕ) → length (without_number c ns) ≤ length ns
few_without c [] = omega arith
few_without c (n ∷ ns) = few_by (not (nat_eq n c)) n ns (without_number c ns) (few_without c ns)

-- A set without a number is a set.
pub set_without : (c : ℕ) (ns : List ℕ) → IsSet ns → IsSet (without_number c ns)
set_without c ns set =
    let few = few_without c ns in
    let most = set.few in
    record { rising = rising_without c 0 ns set.rising; few = omega arith }

-- A number below them isn't among them.
pub absent : (c low : ℕ) (ns : List ℕ) → c < low → IsRising low ns → without_number c ns ≡ ns
absent c low [] below rising = refl
absent c low (n ∷ ns) below rising =
    let above : low ≤ n = rising.0 in
    let apart : nat_eq n c ≡ false = ne_eqb n c (λ same. omega arith) in
    rw apart (ap (λ (ms : List ℕ). n ∷ ms) (absent c (n + 1) ns (omega arith) rising.1))

-- Each is at least the first bound.
above : (low : ℕ) (ns : List ℕ) (k c : ℕ) → IsRising low ns → slice_get ns k ≡ Some c → low ≤ c
above low [] k c rising is = absurd (cc)
above low (n ∷ ns) zero c rising is = let same : n ≡ c = cc in let h = rising.0 in omega arith
above low (n ∷ ns) (suc k) c rising is = let h : n + 1 ≤ c = above (n + 1) ns k c rising.1 is in let m = rising.0 in omega arith

-- The list without the k-th is the set without its number.
pub removed_is : (low : ℕ) (ns : List ℕ) (k c : ℕ) → IsRising low ns → slice_get ns k ≡ Some c → remove ns k ≡ without_number c ns
removed_is low [] k c rising is = absurd (cc)
removed_is low (n ∷ ns) zero c rising is =
    let same : n ≡ c = cc in
    let P : ℕ → Type 0 = λ m. ns ≡ without_number m (n ∷ ns) in
    let own : nat_eq n n ≡ true = eq-eqb n n refl in
    subst P same (rw own (sym (absent n (n + 1) ns (omega arith) rising.1)))
removed_is low (n ∷ ns) (suc k) c rising is =
    let later : n + 1 ≤ c = above (n + 1) ns k c rising.1 is in
    let apart : nat_eq n c ≡ false = ne_eqb n c (λ same. omega arith) in
    rw apart (ap (λ (ms : List ℕ). n ∷ ms) (removed_is (n + 1) ns k c rising.1 is))

-- Rising numbers don't fall.
pub never_fall : (low : ℕ) (ns : List ℕ) → IsRising low ns → (i j : ℕ) → i ≤ j → j < length ns → get_or ns i 0 ≤ get_or ns j 0
never_fall low [] rising i j le within = absurd (omega arith)
never_fall low (n ∷ ns) rising zero zero le within = omega arith
never_fall low (n ∷ ns) rising zero (suc j) le within =
    let h : n + 1 ≤ get_or ns j 0 = above (n + 1) ns j (get_or ns j 0) rising.1 (slice_get-get_or ns j 0 (omega arith)) in omega arith
never_fall low (n ∷ ns) rising (suc i) zero le within = absurd (omega arith)
never_fall low (n ∷ ns) rising (suc i) (suc j) le within = never_fall (n + 1) ns rising.1 i j (omega arith) (omega arith)

-- A number that is at no place leaves the list.
nowhere : (c : ℕ) (ns : List ℕ) → ((k : ℕ) → k < length ns → get_or ns k 0 ≡ c → ⊥) → without_number c ns ≡ ns
nowhere c [] never = refl
nowhere c (n ∷ ns) never =
    let apart : nat_eq n c ≡ false = ne_eqb n c (never 0 (omega arith)) in
    rw apart (ap (λ (ms : List ℕ). n ∷ ms) (nowhere c ns (λ k within. never (suc k) (omega arith))))

-- What a search for a number says of the list without it: it is at that place, or nowhere.
pub searched_is : (c : ℕ) (ns : List ℕ) (r : Result ℕ ℕ) → IsRising 0 ns → IsBinarySearchResult (λ n. nat_cmp n c) ns r
    → MatchResult r (λ k. remove ns k ≡ without_number c ns) (λ k. ns ≡ without_number c ns)
searched_is c ns (Ok k) rising ended =
    let at = searched ns c (Ok k) ended (never_fall 0 ns rising) in
    removed_is 0 ns k c rising (slice_get-get_or ns k 0 at.0 ∙ ap (λ (n : ℕ). Some n) at.1)
searched_is c ns (Err k) rising ended =
    let apart = searched ns c (Err k) ended (never_fall 0 ns rising) in
    sym (nowhere c ns
    (λ i within same.
    ⊎_elim
    (λ (before : i < k). let less = apart.1 i before in omega arith)
    (λ (after : k ≤ i). let more = apart.2 i after within in omega arith)
    (cases_lt i k)))

-- What holds where there is a result, where there is one.
pub where_some : {X : Type 0} (r : Option X) (P : Type 0) → OnSome r P → IsSome r → P
where_some None P on is = absurd (cc)
where_some (Some x) P on is = on

-- ---- what is among them

pub not_both : (b : Bool) → b ≡ true → b ≡ false → ⊥
not_both true is isn't = cc
not_both false is isn't = cc

or_right : (b d : Bool) → d ≡ true → (b || d) ≡ true
or_right true d is = refl
or_right false d is = is

or_left : (b d : Bool) → b ≡ true → (b || d) ≡ true
or_left true d is = refl
or_left false d is = cc

less_by : (b here : Bool) (d c x : ℕ) (xs rest : List ℕ) → nat_eq x c ≡ b → nat_eq d x ≡ here
    → (is_among d rest ≡ true → (is_among d xs ≡ true) × (nat_eq d c ≡ false))
    → is_among d (cond (not b) (x ∷ rest) rest) ≡ true → (is_among d (x ∷ xs) ≡ true) × (nat_eq d c ≡ false)
less_by true here d c x xs rest is at kept among =
    let k = kept among in (or_right (nat_eq d x) (is_among d xs) k.0, k.1)
less_by false true d c x xs rest is at kept among =
    let same : d ≡ x = eqb-true d x at in (rw at refl, ap (λ (n : ℕ). nat_eq n c) same ∙ is)
less_by false false d c x xs rest is at kept among =
    let there : is_among d rest ≡ true = (rw at at among) in
    let k = kept there in (or_right (nat_eq d x) (is_among d xs) k.0, k.1)

-- What is among the numbers without one is among them, and isn't that one;
pub among_less : (d c : ℕ) (xs : List ℕ) → is_among d (without_number c xs) ≡ true → (is_among d xs ≡ true) × (nat_eq d c ≡ false)
among_less d c [] among = absurd (cc)
among_less d c (x ∷ xs) among =
    less_by (nat_eq x c) (nat_eq d x) d c x xs (without_number c xs) refl refl (among_less d c xs) among

pub set_none : IsSet []
set_none = record { rising = tt; few = omega arith }

-- ---- what holds of each set that others are made of

set_by : (P : List ℕ → Type 0) (b : Bool) (xs ys : List ℕ) → P xs → P ys → P (cond b xs ys)
set_by P true xs ys p q = p
set_by P false xs ys p q = q

pub taken_sets : (P : List ℕ → Type 0) (depth : ℕ) (r : Option ℕ) (marks left : List (List ℕ)) → ((c : ℕ) (xs : List ℕ) → P xs → P (without_number c xs))
    → IfSome r (λ c. (d : ℕ) → set_at d left ≡ cond (nat_eq d depth) (without_number c (set_at d marks)) (set_at d marks))
    → IfNone r ((d : ℕ) → set_at d left ≡ set_at d marks)
    → (d : ℕ) → P (set_at d marks) → P (set_at d left)
taken_sets P depth None marks left less some none d p = subst P (sym (none d)) p
taken_sets P depth (Some c) marks left less some none d p =
    subst P (sym (some d)) (set_by P (nat_eq d depth) (without_number c (set_at d marks)) (set_at d marks) (less c (set_at d marks) p) p)

pub filled_sets : (P : List ℕ → Type 0) (depth : ℕ) (r : Result (Unit {0}) NoMemory) (numbers : List ℕ) (marks left : List (List ℕ)) → P numbers
    → OnOk r ((d : ℕ) → set_at d left ≡ cond (nat_eq d depth) numbers (set_at d marks))
    → OnErr r ((d : ℕ) → set_at d left ≡ set_at d marks)
    → (d : ℕ) → P (set_at d marks) → P (set_at d left)
filled_sets P depth (Err e) numbers marks left new ok err d p = subst P (sym (err d)) p
filled_sets P depth (Ok u) numbers marks left new ok err d p = subst P (sym (ok d)) (set_by P (nat_eq d depth) numbers (set_at d marks) new p)

stays_by : (b : Bool) (depth d : ℕ) (numbers : List ℕ) (marks : List (List ℕ)) → nat_eq d depth ≡ b → numbers ≡ [] → set_at depth marks ≡ []
    → set_at d marks ≡ cond b numbers (set_at d marks)
stays_by true depth d numbers marks is none empty = ap (λ (k : ℕ). set_at k marks) (eqb-true d depth is) ∙ empty ∙ sym none
stays_by false depth d numbers marks is none empty = refl

-- An empty set that gets no number stays.
pub empty_stays : (depth d : ℕ) (numbers : List ℕ) (marks : List (List ℕ)) → numbers ≡ [] → set_at depth marks ≡ []
    → set_at d marks ≡ cond (nat_eq d depth) numbers (set_at d marks)
empty_stays depth d numbers marks none empty = stays_by (nat_eq d depth) depth d numbers marks refl none empty

-- ---- a number that is taken out of set after set

less_step : (c d i : ℕ) (old xs : List ℕ) → xs ≡ cond (nat_lt d i) (without_number c old) old
    → cond (nat_eq d i) (without_number c xs) xs ≡ cond (nat_lt d (i + 1)) (without_number c old) old
less_step c d i old xs is =
    ⊎_elim
    (λ (below : d < i). rw (ne_eqb d i (λ same. omega arith), lt-ltb d (i + 1) (omega arith)) (is ∙ ap (λ (b : Bool). cond b (without_number c old) old) (lt-ltb d i below)))
    (λ (above : i ≤ d).
    let same : xs ≡ old = is ∙ ap (λ (b : Bool). cond b (without_number c old) old) (le-ltb d i above) in
    ⊎_elim
    (λ (here : d ≡ i). rw (eq-eqb d i here, lt-ltb d (i + 1) (omega arith)) (ap (without_number c) same))
    (λ (apart : d ≡ i → ⊥). rw (ne_eqb d i apart, le-ltb d (i + 1) (omega arith)) same)
    (cases_eq d i))
    (cases_lt d i)

pub dropped_more : (c d i : ℕ) (old now new : List (List ℕ)) → set_at d now ≡ cond (nat_lt d i) (without_number c (set_at d old)) (set_at d old)
    → set_at d new ≡ cond (nat_eq d i) (without_number c (set_at d now)) (set_at d now)
    → set_at d new ≡ cond (nat_lt d (i + 1)) (without_number c (set_at d old)) (set_at d old)
dropped_more c d i old now new before step = step ∙ less_step c d i (set_at d old) (set_at d now) before

pub dropped_all : (c d n : ℕ) (old now : List (List ℕ)) → length old ≤ n → set_at d now ≡ cond (nat_lt d n) (without_number c (set_at d old)) (set_at d old)
    → set_at d now ≡ without_number c (set_at d old)
dropped_all c d n old now many is =
    ⊎_elim
    (λ (below : d < n). is ∙ ap (λ (b : Bool). cond b (without_number c (set_at d old)) (set_at d old)) (lt-ltb d n below))
    (λ (above : n ≤ d).
    let none : set_at d old ≡ [] = ap (λ (o : Option (List ℕ)). unwrap_or o []) (slice_get_past old d (omega arith)) in
    is ∙ ap (λ (b : Bool). cond b (without_number c (set_at d old)) (set_at d old)) (le-ltb d n above) ∙ none ∙ sym (ap (without_number c) none))
    (cases_lt d n)

-- A number that isn't among them leaves them.
none_by : (b : Bool) (c n : ℕ) (ns : List ℕ) → nat_eq n c ≡ b → (nat_eq c n || is_among c ns) ≡ false
    → (is_among c ns ≡ false → without_number c ns ≡ ns) → cond (not b) (n ∷ without_number c ns) (without_number c ns) ≡ n ∷ ns
none_by true c n ns is none rest =
    absurd (not_both (nat_eq c n || is_among c ns) (or_left (nat_eq c n) (is_among c ns) (eq-eqb c n (sym (eqb-true n c is)))) none)
none_by false c n ns is none rest = ap (λ (ms : List ℕ). n ∷ ms) (rest (or_parts (nat_eq c n) (is_among c ns) none).1)

pub without_none : (c : ℕ) (ns : List ℕ) → is_among c ns ≡ false → without_number c ns ≡ ns
without_none c [] none = refl
without_none c (n ∷ ns) none = none_by (nat_eq n c) c n ns refl none (without_none c ns)

among_by : (b : Bool) (c : ℕ) (ns : List ℕ) → is_among c ns ≡ b → (is_among c ns ≡ true → ⊥) → is_among c ns ≡ false
among_by true c ns is never = absurd (never is)
among_by false c ns is never = is

pub not_among : (c : ℕ) (ns : List ℕ) → (is_among c ns ≡ true → ⊥) → is_among c ns ≡ false
not_among c ns never = among_by (is_among c ns) c ns refl never

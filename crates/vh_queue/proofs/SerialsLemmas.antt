-- Lemmas on `specs/Serials.antt`: in rising order the first is the least; what is least of two kinds; and which
-- entries may be picked.
use Rattle.std.proofs.Common.{◌≡◌, ◌∙◌, ℕ, ◌+◌, ◌<◌, ◌≤◌, min, max, List, [], ◌∷◌, ◌++◌, map, filter, length, Bool, true, false, not, ◌&&◌, ◌||◌, cond, nat_lt, Option, Some, None, slice_get, refl, sym, ap, arith}
use Rattle.std.proofs.lemmas.Bool.{le-ltb, lt-ltb}
use Rattle.std.proofs.lemmas.Bool.Decides.{nat_tests}
use Rattle.std.specs.List.{list_any}
use Rattle.std.specs.Option.{is_some}
use Rattle.vh_queue.specs.declared.entry.Entry.{Entry}
use Rattle.vh_queue.specs.Entries.{is_active, is_update}
use Rattle.vh_queue.specs.Events.{is_behind, is_ready, earlier_of, Rises}
use Rattle.vh_queue.proofs.EventsLemmas.{rises-filter}
use Rattle.vh_queue.specs.Serials.{least_serial, greatest_serial, later_of, is_above, last_of, is_active_of}

abbrev pub serials : List Entry → List ℕ
serials es = map (λ (e : Entry). e.serial) es

-- A number below all is the least, and the first of rising ones is; the last is the greatest.
least-below : (k low high : ℕ) (es : List Entry) → k ≤ low → Rises low high es → earlier_of (Some k) (least_serial es) ≡ Some k
least-below k low high [] below rises = refl
least-below k low high (e ∷ es) below rises =
    let h = rises.0 in
    ap (λ (o : Option ℕ). earlier_of (Some k) o) (least-below e.serial (e.serial + 1) high es (omega arith) rises.1)
    ∙ ap Some (omega (arith, h, below))

pub first-least : (low high : ℕ) (es : List Entry) → Rises low high es → slice_get (serials es) 0 ≡ least_serial es
first-least low high [] rises = refl
first-least low high (e ∷ es) rises = sym (least-below e.serial (e.serial + 1) high es (omega arith) rises.1)

later-twice : (a b : ℕ) (o : Option ℕ) → a ≤ b → later_of (Some b) o ≡ later_of (Some a) (later_of (Some b) o)
later-twice a b None below = ap Some (omega (arith, below))
later-twice a b (Some c) below = ap Some (omega (arith, below))

pub last-greatest : (low high : ℕ) (es : List Entry) → Rises low high es → last_of (serials es) ≡ greatest_serial es
last-greatest low high [] rises = refl
last-greatest low high (e ∷ []) rises = refl
last-greatest low high (e ∷ x ∷ es) rises =
    let h = rises.1.0 in
    last-greatest (e.serial + 1) high (x ∷ es) rises.1
    ∙ later-twice e.serial x.serial (greatest_serial es) (omega (arith, h))

pub last-append : (xs : List ℕ) (x : ℕ) → last_of (xs ++ x ∷ []) ≡ Some x
last-append [] x = refl
last-append (y ∷ []) x = refl
last-append (y ∷ z ∷ xs) x = last-append (z ∷ xs) x

-- What is picked of two kinds is what is picked of both, where a pick is the same in any order: of one number it is the number, and
-- it goes by pairs.
abbrev one-of : (ℕ → ℕ → ℕ) → Option ℕ → Option ℕ → Option ℕ
one-of pick None b = b
one-of pick (Some a) None = Some a
one-of pick (Some a) (Some b) = Some (pick a b)

abbrev of-all : (ℕ → ℕ → ℕ) → List Entry → Option ℕ
of-all pick [] = None
of-all pick (e ∷ es) = one-of pick (Some e.serial) (of-all pick es)

record Picks (pick : ℕ → ℕ → ℕ) : Type 0 where
  itself : (a : ℕ) → pick a a ≡ a
  swaps : (a b : ℕ) → pick a b ≡ pick b a
  pairs : (a b c : ℕ) → pick a (pick b c) ≡ pick (pick a b) c

of-left : (pick : ℕ → ℕ → ℕ) → Picks pick → (a : ℕ) (p q : Option ℕ)
    → one-of pick (Some a) (one-of pick p q) ≡ one-of pick (one-of pick (Some a) p) q
of-left pick h a None None = refl
of-left pick h a None (Some y) = refl
of-left pick h a (Some x) None = refl
of-left pick h a (Some x) (Some y) = ap Some (h.pairs a x y)

of-right : (pick : ℕ → ℕ → ℕ) → Picks pick → (a : ℕ) (p q : Option ℕ)
    → one-of pick (Some a) (one-of pick p q) ≡ one-of pick p (one-of pick (Some a) q)
of-right pick h a None q = refl
of-right pick h a (Some x) None = ap Some (h.swaps a x)
of-right pick h a (Some x) (Some y) = ap Some (h.pairs a x y ∙ ap (λ n. pick n y) (h.swaps a x) ∙ sym (h.pairs x a y))

of-both : (pick : ℕ → ℕ → ℕ) → Picks pick → (a : ℕ) (p q : Option ℕ)
    → one-of pick (Some a) (one-of pick p q) ≡ one-of pick (one-of pick (Some a) p) (one-of pick (Some a) q)
of-both pick h a None None = ap Some (sym (h.itself a))
of-both pick h a None (Some y) = ap Some (ap (λ n. pick n y) (sym (h.itself a)) ∙ sym (h.pairs a a y))
of-both pick h a (Some x) None =
    ap Some (ap (λ n. pick n x) (sym (h.itself a)) ∙ sym (h.pairs a a x) ∙ h.swaps a (pick a x))
of-both pick h a (Some x) (Some y) =
    ap Some (h.pairs a x y ∙ ap (λ n. pick n y)
    (ap (λ n. pick n x) (sym (h.itself a)) ∙ sym (h.pairs a a x) ∙ h.swaps a (pick a x)) ∙ sym (h.pairs (pick a x) a y))

of-union : (pick : ℕ → ℕ → ℕ) → Picks pick → (p q : Entry → Bool) (es : List Entry)
    → of-all pick (filter (λ e. p e || q e) es) ≡ one-of pick (of-all pick (filter p es)) (of-all pick (filter q es))
of-union pick h p q [] = refl
of-union pick h p q (e ∷ es) = by_test (p e) (q e) (of-union pick h p q es)
  where
    by_test : (a b : Bool) → of-all pick (filter (λ e. p e || q e) es) ≡ one-of pick (of-all pick (filter p es)) (of-all pick (filter q es))
        → of-all pick (cond (a || b) (e ∷ filter (λ e. p e || q e) es) (filter (λ e. p e || q e) es))
        ≡ one-of pick (of-all pick (cond a (e ∷ filter p es) (filter p es))) (of-all pick (cond b (e ∷ filter q es) (filter q es)))
    by_test true true rest = ap (one-of pick (Some e.serial)) rest ∙ of-both pick h e.serial (of-all pick (filter p es)) (of-all pick (filter q es))
    by_test true false rest = ap (one-of pick (Some e.serial)) rest ∙ of-left pick h e.serial (of-all pick (filter p es)) (of-all pick (filter q es))
    by_test false true rest = ap (one-of pick (Some e.serial)) rest ∙ of-right pick h e.serial (of-all pick (filter p es)) (of-all pick (filter q es))
    by_test false false rest = rest

-- So it is with the least and with the greatest.
earlier-is : (a b : Option ℕ) → earlier_of a b ≡ one-of min a b
earlier-is None b = refl
earlier-is (Some a) None = refl
earlier-is (Some a) (Some b) = refl

least-is : (es : List Entry) → least_serial es ≡ of-all min es
least-is [] = refl
least-is (e ∷ es) = earlier-is (Some e.serial) (least_serial es) ∙ ap (one-of min (Some e.serial)) (least-is es)

later-is : (a b : Option ℕ) → later_of a b ≡ one-of max a b
later-is None b = refl
later-is (Some a) None = refl
later-is (Some a) (Some b) = refl

greatest-is : (es : List Entry) → greatest_serial es ≡ of-all max es
greatest-is [] = refl
greatest-is (e ∷ es) = later-is (Some e.serial) (greatest_serial es) ∙ ap (one-of max (Some e.serial)) (greatest-is es)

pub least-union : (p q : Entry → Bool) (es : List Entry)
    → least_serial (filter (λ e. p e || q e) es) ≡ earlier_of (least_serial (filter p es)) (least_serial (filter q es))
least-union p q es =
    rw (earlier-is (least_serial (filter p es)) (least_serial (filter q es)), least-is (filter (λ e. p e || q e) es), least-is (filter p es), least-is (filter q es))
    (of-union min (record { itself = λ a. omega arith; swaps = λ a b. omega arith; pairs = λ a b c. omega arith }) p q es)

pub greatest-union : (p q : Entry → Bool) (es : List Entry)
    → greatest_serial (filter (λ e. p e || q e) es) ≡ later_of (greatest_serial (filter p es)) (greatest_serial (filter q es))
greatest-union p q es =
    rw (later-is (greatest_serial (filter p es)) (greatest_serial (filter q es)), greatest-is (filter (λ e. p e || q e) es), greatest-is (filter p es), greatest-is (filter q es))
    (of-union max (record { itself = λ a. omega arith; swaps = λ a b. omega arith; pairs = λ a b c. omega arith }) p q es)

-- How many there are of two kinds that have nothing in common.
pub length-union : (p q : Entry → Bool) (es : List Entry) → ((e : Entry) → (p e && q e) ≡ false)
    → length (filter (λ e. p e || q e) es) ≡ length (filter p es) + length (filter q es)
length-union p q [] apart = refl
length-union p q (e ∷ es) apart = by_test (p e) (q e) (apart e) (length-union p q es apart)
  where
    by_test : (a b : Bool) → (a && b) ≡ false → length (filter (λ e. p e || q e) es) ≡ length (filter p es) + length (filter q es)
        → length (cond (a || b) (e ∷ filter (λ e. p e || q e) es) (filter (λ e. p e || q e) es))
        ≡ length (cond a (e ∷ filter p es) (filter p es)) + length (cond b (e ∷ filter q es) (filter q es))
    by_test true true apart rest = absurd (cc)
    by_test true false apart rest = omega (arith, rest)
    by_test false true apart rest = omega (arith, rest)
    by_test false false apart rest = rest

-- One is found where there is a least.
pub any-least : (p : Entry → Bool) (es : List Entry) → list_any p es ≡ is_some (least_serial (filter p es))
any-least p [] = refl
any-least p (e ∷ es) = by_test (p e) (any-least p es)
  where
    found : (o : Option ℕ) → true ≡ is_some (earlier_of (Some e.serial) o)
    found None = refl
    found (Some x) = refl

    by_test : (b : Bool) → list_any p es ≡ is_some (least_serial (filter p es))
        → (b || list_any p es) ≡ is_some (least_serial (cond b (e ∷ filter p es) (filter p es)))
    by_test true rest = found (least_serial (filter p es))
    by_test false rest = rest

-- Of the active updates only the first may be picked.
above-either : (a b : Option ℕ) (s : ℕ) → is_above (earlier_of a b) s ≡ (is_above a s || is_above b s)
above-either None b s = refl
above-either (Some a) None s = right (nat_lt a s)
  where
    right : (b : Bool) → b ≡ (b || false)
    right true = refl
    right false = refl
above-either (Some a) (Some b) s = grind (arith, nat_tests)

pub behind-is : (e : Entry) (es : List Entry) → list_any (is_behind e) es ≡ is_above (least_serial (filter (is_active_of true) es)) e.serial
behind-is e [] = refl
behind-is e (f ∷ es) = by_test (is_active_of true f) (behind-is e es)
  where
    rest_of : Option ℕ
    rest_of = least_serial (filter (is_active_of true) es)

    by_test : (b : Bool) → list_any (is_behind e) es ≡ is_above rest_of e.serial
        → ((b && nat_lt f.serial e.serial) || list_any (is_behind e) es)
        ≡ is_above (least_serial (cond b (f ∷ filter (is_active_of true) es) (filter (is_active_of true) es))) e.serial
    by_test true rest = ap (λ (c : Bool). nat_lt f.serial e.serial || c) rest ∙ sym (above-either (Some f.serial) rest_of e.serial)
    by_test false rest = rest

-- The first of some entries alone.
abbrev pub first_only : List Entry → List Entry
first_only [] = []
first_only (e ∷ es) = e ∷ []

none-above : (p : Entry → Bool) (k low high : ℕ) (es : List Entry) → k < low → Rises low high es
    → filter (λ e. p e && not (nat_lt k e.serial)) es ≡ []
none-above p k low high [] below rises = refl
none-above p k low high (e ∷ es) below rises =
    let h = rises.0 in
    rw (lt-ltb k e.serial (omega (arith, h, below))) (by_test (p e) (none-above p k (e.serial + 1) high es (omega (arith, h, below)) rises.1))
  where
    by_test : (b : Bool) → filter (λ e. p e && not (nat_lt k e.serial)) es ≡ []
        → cond (b && false) (e ∷ filter (λ e. p e && not (nat_lt k e.serial)) es) (filter (λ e. p e && not (nat_lt k e.serial)) es) ≡ []
    by_test true rest = rest
    by_test false rest = rest

pub first-is : (p : Entry → Bool) (low high : ℕ) (es : List Entry) → Rises low high es
    → filter (λ e. p e && not (is_above (least_serial (filter p es)) e.serial)) es ≡ first_only (filter p es)
first-is p low high [] rises = refl
first-is p low high (e ∷ es) rises = by_test (p e) refl (first-is p (e.serial + 1) high es rises.1)
  where
    left_by : Option ℕ → List Entry
    left_by o = filter (λ x. p x && not (is_above o x.serial)) es

    here : (o : Option ℕ) → o ≡ Some e.serial → p e ≡ true
        → cond (p e && not (is_above o e.serial)) (e ∷ left_by o) (left_by o) ≡ e ∷ []
    here o is so =
        rw (is, so, le-ltb e.serial e.serial (omega arith)) (ap (λ (t : List Entry). e ∷ t) (none-above p e.serial (e.serial + 1) high es (omega arith) rises.1))

    by_test : (b : Bool) → p e ≡ b → filter (λ x. p x && not (is_above (least_serial (filter p es)) x.serial)) es ≡ first_only (filter p es)
        → filter (λ x. p x && not (is_above (least_serial (cond b (e ∷ filter p es) (filter p es))) x.serial)) (e ∷ es) ≡ first_only (cond b (e ∷ filter p es) (filter p es))
    by_test true so rest =
        here (earlier_of (Some e.serial) (least_serial (filter p es)))
        (least-below e.serial (e.serial + 1) high (filter p es) (omega arith) (rises-filter p (e.serial + 1) high es rises.1)) so
    by_test false so rest = rw so rest

-- So what may be picked is of two kinds.
ready-is : (a u b : Bool) → (a && not (u && b)) ≡ ((a && not u) || ((a && u) && not b))
ready-is true true b = refl
ready-is true false b = refl
ready-is false u b = refl

abbrev is_first : List Entry → Entry → Bool
is_first es e = is_active_of true e && not (is_above (least_serial (filter (is_active_of true) es)) e.serial)

filter-alike : {X : Type 0} (p q : X → Bool) (xs : List X) → ((x : X) → p x ≡ q x) → filter p xs ≡ filter q xs
filter-alike p q [] same = refl
filter-alike p q (x ∷ xs) same = rw (same x, filter-alike p q xs same) refl

pub ready-either : (es : List Entry) → filter (is_ready es) es ≡ filter (λ e. is_active_of false e || is_first es e) es
ready-either es = filter-alike (is_ready es) _ es (λ e.
    ap (λ (b : Bool). is_active e && not (is_update e.work && b)) (behind-is e es)
    ∙ ready-is (is_active e) (is_update e.work) (is_above (least_serial (filter (is_active_of true) es)) e.serial))

first-length : (es : List Entry) → length (first_only es) ≡ cond (is_some (least_serial es)) 1 0
first-length [] = refl
first-length (e ∷ es) = by_rest (least_serial es)
  where
    by_rest : (o : Option ℕ) → (let n : ℕ = 1 in n) ≡ cond (is_some (earlier_of (Some e.serial) o)) 1 0
    by_rest None = refl
    by_rest (Some x) = refl

first-serial : (low high : ℕ) (es : List Entry) → Rises low high es → least_serial (first_only es) ≡ least_serial es
first-serial low high [] rises = refl
first-serial low high (e ∷ es) rises = sym (least-below e.serial (e.serial + 1) high es (omega arith) rises.1)

first-greatest : (es : List Entry) → greatest_serial (first_only es) ≡ least_serial (first_only es)
first-greatest [] = refl
first-greatest (e ∷ es) = refl

-- How many may be picked where no start entry is due, and the first and the last of them.
pub ready-length : (low high : ℕ) (es : List Entry) → Rises low high es
    → length (filter (is_ready es) es)
    ≡ length (filter (is_active_of false) es) + cond (is_some (least_serial (filter (is_active_of true) es))) 1 0
ready-length low high es rises =
    ap length (ready-either es)
    ∙ length-union (is_active_of false) (is_first es) es (λ e. apart (is_active e) (is_update e.work) (is_above (least_serial (filter (is_active_of true) es)) e.serial))
    ∙ ap (λ (xs : List Entry). length (filter (is_active_of false) es) + length xs) (first-is (is_active_of true) low high es rises)
    ∙ ap (λ (n : ℕ). length (filter (is_active_of false) es) + n) (first-length (filter (is_active_of true) es))
  where
    apart : (a u b : Bool) → ((a && not u) && ((a && u) && not b)) ≡ false
    apart true true b = refl
    apart true false b = refl
    apart false u b = refl

pub ready-least : (low high : ℕ) (es : List Entry) → Rises low high es
    → least_serial (filter (is_ready es) es)
    ≡ earlier_of (least_serial (filter (is_active_of false) es)) (least_serial (filter (is_active_of true) es))
ready-least low high es rises =
    ap least_serial (ready-either es)
    ∙ least-union (is_active_of false) (is_first es) es
    ∙ ap (λ (o : Option ℕ). earlier_of (least_serial (filter (is_active_of false) es)) o)
    (ap least_serial (first-is (is_active_of true) low high es rises)
    ∙ first-serial low high (filter (is_active_of true) es) (rises-filter (is_active_of true) low high es rises))

pub ready-greatest : (low high : ℕ) (es : List Entry) → Rises low high es
    → greatest_serial (filter (is_ready es) es)
    ≡ later_of (greatest_serial (filter (is_active_of false) es)) (least_serial (filter (is_active_of true) es))
ready-greatest low high es rises =
    ap greatest_serial (ready-either es)
    ∙ greatest-union (is_active_of false) (is_first es) es
    ∙ ap (λ (o : Option ℕ). later_of (greatest_serial (filter (is_active_of false) es)) o)
    (ap greatest_serial (first-is (is_active_of true) low high es rises)
    ∙ first-greatest (filter (is_active_of true) es)
    ∙ first-serial low high (filter (is_active_of true) es) (rises-filter (is_active_of true) low high es rises))

-- What holds of the nodes of a list.
use Rattle.std.proofs.Common.{◌≡◌, ℕ, zero, suc, ◌<◌, List, [], ◌∷◌, ◌++◌, length, get_or, map, replicate, refl, ap, arith, ◌∙◌, sym, Bool, true, false, cond, eqb, Some, inl, inr}
use Rattle.std.specs.Prelude.{◌||◌, not}
use Rattle.std.specs.List.{find, list_any, slice_get, IsDistinct, AllByRecursion}
use Rattle.std.proofs.lemmas.Bool.{eq-eqb, ne_eqb}
use Rattle.std.proofs.lemmas.Bool.Decides.{eqb_tells}
use Rattle.std.proofs.lemmas.List.Folds.{list_any-append}
use Rattle.vh_links.specs.Lists.{has, without, behind}
use Rattle.vh_links.specs.Views.{IsApart}

or_right : (a b : Bool) → b ≡ true → (a || b) ≡ true
or_right true b h = refl
or_right false b h = h

or_false : (a b : Bool) → (a || b) ≡ false → (a ≡ false) × (b ≡ false)
or_false true b h = cc
or_false false b h = (refl, h)

pub has-head : (x : ℕ) (xs : List ℕ) → has x (x ∷ xs) ≡ true
has-head x xs = rw (eq-eqb x x refl) refl

pub has-tail : (y x : ℕ) (xs : List ℕ) → has y xs ≡ true → has y (x ∷ xs) ≡ true
has-tail y x xs h = or_right (eqb y x) (has y xs) h

-- The nodes of two lists, one behind the other
pub has-append : (x : ℕ) (xs ys : List ℕ) → has x (xs ++ ys) ≡ (has x xs || has x ys)
has-append x xs ys = list_any-append (λ y. eqb x y) xs ys

pub has-left : (x : ℕ) (xs ys : List ℕ) → has x xs ≡ true → has x (xs ++ ys) ≡ true
has-left x xs ys h = has-append x xs ys ∙ rw h refl

pub has-right : (x : ℕ) (xs ys : List ℕ) → has x ys ≡ true → has x (xs ++ ys) ≡ true
has-right x xs ys h = has-append x xs ys ∙ or_right (has x xs) (has x ys) h

pub has-none : (x : ℕ) (xs ys : List ℕ) → has x xs ≡ false → has x ys ≡ false → has x (xs ++ ys) ≡ false
has-none x xs ys h k = has-append x xs ys ∙ rw (h, k) refl

-- A node of one of two lists
or_parts : (P : Type 0) (a b : Bool) → (a || b) ≡ true → (a ≡ true → P) → (b ≡ true → P) → P
or_parts P true b h p q = p refl
or_parts P false b h p q = q h

pub has-parts : (P : Type 0) (x : ℕ) (xs ys : List ℕ) → has x (xs ++ ys) ≡ true → (has x xs ≡ true → P) → (has x ys ≡ true → P) → P
has-parts P x xs ys h p q = or_parts P (has x xs) (has x ys) (sym (has-append x xs ys) ∙ h) p q

pub has-one : (x y : ℕ) → has x (y ∷ []) ≡ true → x ≡ y
has-one x y h =
    elim (eqb_tells x y) [
      | inl e ↦ e.1
      | inr n ↦ let no : has x (y ∷ []) ≡ false = rw n.0 refl in cc
    ]

pub not_one : (x y : ℕ) → (x ≡ y → ⊥) → has x (y ∷ []) ≡ false
not_one x y n = rw (ne_eqb x y n) refl

-- A node that is not there, by cases
bool_cases : (P : Type 0) (b : Bool) → (b ≡ true → P) → (b ≡ false → P) → P
bool_cases P true p q = p refl
bool_cases P false p q = q refl

pub has-cases : (P : Type 0) (x : ℕ) (xs : List ℕ) → (has x xs ≡ true → P) → (has x xs ≡ false → P) → P
has-cases P x xs p q = bool_cases P (has x xs) p q

-- A node of a list without another was in it
pub has-without : (x y : ℕ) (xs : List ℕ) → has y (without x xs) ≡ true → has y xs ≡ true
has-without x y [] h = h
has-without x y (z ∷ zs) h =
    bool_cases (has y (z ∷ zs) ≡ true) (eqb x z)
    (λ e. has-tail y z zs (has-without x y zs (sym (ap (λ (b : Bool). has y (cond (not b) (z ∷ without x zs) (without x zs))) e) ∙ h)))
    (λ e. or_parts (has y (z ∷ zs) ≡ true) (eqb y z) (has y (without x zs)) (sym (ap (λ (b : Bool). has y (cond (not b) (z ∷ without x zs) (without x zs))) e) ∙ h)
    (λ k. rw k refl)
    (λ k. has-tail y z zs (has-without x y zs k)))

pub lacks-without : (x y : ℕ) (xs : List ℕ) → has y xs ≡ false → has y (without x xs) ≡ false
lacks-without x y xs h =
    has-cases (has y (without x xs) ≡ false) y (without x xs) (λ e. let there = has-without x y xs e in cc) (λ e. e)

pub apart-without : (x : ℕ) (xs : List ℕ) → IsApart xs → IsApart (without x xs)
apart-without x [] a = tt
apart-without x (z ∷ zs) a =
    bool_cases (IsApart (without x (z ∷ zs))) (eqb x z)
    (λ e. rw e (apart-without x zs a.1))
    (λ e. rw e (lacks-without x z zs a.0, apart-without x zs a.1))

-- Lists whose nodes stand once, one behind the other
pub apart-append : (xs ys : List ℕ) → IsApart xs → IsApart ys → ((x : ℕ) → has x xs ≡ true → has x ys ≡ false) → IsApart (xs ++ ys)
apart-append [] ys a b h = b
apart-append (x ∷ xs) ys a b h =
    (has-none x xs ys a.0 (h x (has-head x xs)), apart-append xs ys a.1 b (λ y k. h y (has-tail y x xs k)))

pub apart-left : (xs ys : List ℕ) → IsApart (xs ++ ys) → IsApart xs
apart-left [] ys a = tt
apart-left (x ∷ xs) ys a = ((or_false (has x xs) (has x ys) (sym (has-append x xs ys) ∙ a.0)).0, apart-left xs ys a.1)

pub apart-right : (xs ys : List ℕ) → IsApart (xs ++ ys) → IsApart ys
apart-right [] ys a = a
apart-right (x ∷ xs) ys a = apart-right xs ys a.1

pub apart-both : (xs ys : List ℕ) → IsApart (xs ++ ys) → (x : ℕ) → has x xs ≡ true → has x ys ≡ false
apart-both [] ys a x h = cc
apart-both (y ∷ xs) ys a x h =
    or_parts (has x ys ≡ false) (eqb x y) (has x xs) h
    (λ e. elim (eqb_tells x y) [
      | inl s ↦ let same : x ≡ y = s.1 in ap (λ n. has n ys) same ∙ (or_false (has y xs) (has y ys) (sym (has-append y xs ys) ∙ a.0)).1
      | inr n ↦ let no = n.0 in cc
    ])
    (λ k. apart-both xs ys a.1 x k)

lacks-more : (x y : ℕ) (xs : List ℕ) → eqb x y ≡ false → has x xs ≡ false → has x (y ∷ xs) ≡ false
lacks-more x y xs e h = rw (e, h) refl

-- A list that has a node has it behind others
pub parted : (x : ℕ) (xs : List ℕ) → has x xs ≡ true → (front : List ℕ) × (back : List ℕ) × (xs ≡ front ++ x ∷ back) × (has x front ≡ false)
parted x [] h = cc
parted x (y ∷ ys) h =
    elim (eqb_tells x y) [
      | inl e ↦ let same : x ≡ y = e.1 in ([], ys, ap (λ n. n ∷ ys) (sym same), refl)
      | inr n ↦
          let no : eqb x y ≡ false = n.0 in
          let there : has x ys ≡ true = sym (ap (λ (b : Bool). b || has x ys) no) ∙ h in
          let rest = parted x ys there in
          (y ∷ rest.0, rest.1, ap (λ (zs : List ℕ). y ∷ zs) rest.2, lacks-more x y rest.0 no rest.3)
    ]

-- A node taken out
pub without-none : (x : ℕ) (xs : List ℕ) → has x xs ≡ false → without x xs ≡ xs
without-none x [] h = refl
without-none x (y ∷ ys) h =
    let parts = or_false (eqb x y) (has x ys) h in
    rw (parts.0, without-none x ys parts.1) refl

pub without-at : (x : ℕ) (xs ys : List ℕ) → has x xs ≡ false → has x ys ≡ false → without x (xs ++ x ∷ ys) ≡ xs ++ ys
without-at x [] ys h k = rw (eq-eqb x x refl) (without-none x ys k)
without-at x (y ∷ xs) ys h k =
    let parts = or_false (eqb x y) (has x xs) h in
    rw (parts.0, without-at x xs ys parts.1 k) refl

-- The node behind another
pub behind-at : (x : ℕ) (xs ys : List ℕ) → has x xs ≡ false → behind x (xs ++ x ∷ ys) ≡ slice_get ys 0
behind-at x [] ys h = rw (eq-eqb x x refl) refl
behind-at x (y ∷ xs) ys h =
    let parts = or_false (eqb x y) (has x xs) h in
    rw (parts.0, behind-at x xs ys parts.1) refl

-- No node stands twice, in std's word
all_other : (x : ℕ) (xs : List ℕ) → has x xs ≡ false → AllByRecursion (λ y. eqb x y ≡ false) xs
all_other x [] h = tt
all_other x (y ∷ ys) h = let parts = or_false (eqb x y) (has x ys) h in (parts.0, all_other x ys parts.1)

pub distinct : (xs : List ℕ) → IsApart xs → IsDistinct eqb xs
unfolding IsDistinct
distinct [] a = tt
distinct (x ∷ xs) a = (all_other x xs a.0, distinct xs a.1)

-- A test of lists at an anchor's position
pub any-none : {X : Type 0} (p : X → Bool) (xs : List X) (i : ℕ) (d : X) → list_any p xs ≡ false → p d ≡ false → p (get_or xs i d) ≡ false
any-none p [] i d h k = k
any-none p (x ∷ xs) zero d h k = (or_false (p x) (list_any p xs) h).0
any-none p (x ∷ xs) (suc i) d h k = any-none p xs i d (or_false (p x) (list_any p xs) h).1 k

pub any-at : {X : Type 0} (p : X → Bool) (xs : List X) (d : X) → list_any p xs ≡ true → (i : ℕ) × (i < length xs) × (p (get_or xs i d) ≡ true)
any-at p [] d h = cc
any-at p (x ∷ xs) d h =
    or_parts ((i : ℕ) × (i < length (x ∷ xs)) × (p (get_or (x ∷ xs) i d) ≡ true)) (p x) (list_any p xs) h
    (λ e. (0, omega arith, e))
    (λ e. let rest = any-at p xs d e in (suc rest.0, omega (arith, rest.1), rest.2))

-- The first list that passes a test is the only one that does
pub find-only : {X : Type 0} (p : X → Bool) (xs : List X) (i : ℕ) (d : X) → i < length xs → p (get_or xs i d) ≡ true
    → ((j : ℕ) → p (get_or xs j d) ≡ true → j ≡ i) → find p xs ≡ Some (get_or xs i d)
find-only p [] i d h k only = absurd (omega arith)
find-only p (x ∷ xs) zero d h k only = rw k refl
find-only p (x ∷ xs) (suc i) d h k only =
    bool_cases (find p (x ∷ xs) ≡ Some (get_or (x ∷ xs) (suc i) d)) (p x)
    (λ e. absurd (omega (arith, only 0 e)))
    (λ e. rw e (find-only p xs i d (omega arith) k (λ j q. omega (arith, only (suc j) q))))

-- What is made of each list
pub get_or-map : {X Y : Type 0} (f : X → Y) (xs : List X) (i : ℕ) (d : X) → get_or (map f xs) i (f d) ≡ f (get_or xs i d)
get_or-map f [] i d = refl
get_or-map f (x ∷ xs) zero d = refl
get_or-map f (x ∷ xs) (suc i) d = get_or-map f xs i d

pub length-mapped : {X Y : Type 0} (f : X → Y) (xs : List X) → length (map f xs) ≡ length xs
length-mapped f [] = refl
length-mapped f (x ∷ xs) = ap suc (length-mapped f xs)

-- As many empty lists
pub get_or-copies : {X : Type 0} (n : ℕ) (d : X) (i : ℕ) → get_or (replicate n d) i d ≡ d
get_or-copies zero d i = refl
get_or-copies (suc n) d zero = refl
get_or-copies (suc n) d (suc i) = get_or-copies n d i

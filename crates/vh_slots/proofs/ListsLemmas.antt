-- What holds of a list that is written at one position.
use Rattle.std.proofs.Common.{◌≡◌, ℕ, zero, suc, ◌+◌, ◌<◌, List, [], ◌∷◌, ◌++◌, length, get_or, set, map, refl, ap, arith, Bool, true, false, cond, eqb, Some}
use Rattle.std.specs.Prelude.{◌||◌, count_by}
use Rattle.std.specs.List.{list_any, slice_get}
use Rattle.std.proofs.lemmas.List.Sums.{sum_by-cons, sum_by_push}
use Rattle.std.proofs.lemmas.Bool.{eq-eqb, ne_eqb}
use Rattle.vh_slots.specs.Views.{has}

or_right : (a b : Bool) → b ≡ true → (a || b) ≡ true
or_right true b h = refl
or_right false b h = h

-- Two functions of a list that is written, where they agree beside the position
pub map-same : {X Y : Type 0} (f g : X → Y) (xs : List X) (d : X) → ((j : ℕ) → j < length xs → f (get_or xs j d) ≡ g (get_or xs j d)) → map f xs ≡ map g xs
map-same f g [] d h = refl
map-same f g (x ∷ xs) d h = let first = h 0 (omega arith) in let rest = map-same f g xs d (λ j k. h (suc j) (omega arith)) in cc

pub map-write : {X Y : Type 0} (f g : X → Y) (xs : List X) (d : X) (i : ℕ) (x : X) (y : Y) → f x ≡ y
    → ((j : ℕ) → j < length xs → (j ≡ i → ⊥) → f (get_or xs j d) ≡ g (get_or xs j d)) → map f (set xs i x) ≡ set (map g xs) i y
map-write f g [] d i x y e h = refl
map-write f g (z ∷ xs) d zero x y e h =
    let rest = map-same f g xs d (λ j k. h (suc j) (omega arith) (λ n. omega (arith, n))) in cc
map-write f g (z ∷ xs) d (suc i) x y e h =
    let first = h 0 (omega arith) (λ n. omega (arith, n)) in
    let rest = map-write f g xs d i x y e (λ j k ne. h (suc j) (omega arith) (λ n. ne (omega (arith, n)))) in
    cc

pub map-append : {X Y : Type 0} (f : X → Y) (xs ys : List X) → map f (xs ++ ys) ≡ map f xs ++ map f ys
map-append f [] ys = refl
map-append f (x ∷ xs) ys = ap (λ zs. f x ∷ zs) (map-append f xs ys)

-- What a count gains and loses where a list is written
abbrev pub bit : Bool → ℕ
bit b = cond b 1 0

pub count-cons : {X : Type 0} (p : X → Bool) (x : X) (xs : List X) → count_by p (x ∷ xs) ≡ bit (p x) + count_by p xs
count-cons p x xs = sum_by-cons (λ y. cond (p y) 1 0) x xs

pub count-append : {X : Type 0} (p : X → Bool) (xs : List X) (y : X) → count_by p (xs ++ y ∷ []) ≡ count_by p xs + bit (p y)
count-append p xs y = sum_by_push (λ z. cond (p z) 1 0) xs y

pub count-write : {X : Type 0} (p : X → Bool) (xs : List X) (i : ℕ) (y d : X) → i < length xs
    → count_by p (set xs i y) + bit (p (get_or xs i d)) ≡ count_by p xs + bit (p y)
count-write p [] i y d h = absurd (omega arith)
count-write p (x ∷ xs) zero y d h = let old = count-cons p x xs in let new = count-cons p y xs in omega (arith, old, new)
count-write p (x ∷ xs) (suc i) y d h =
    let old = count-cons p x xs in
    let new = count-cons p x (set xs i y) in
    omega (arith, old, new, count-write p xs i y d (omega arith))

pub count-same : {X Y : Type 0} (p : X → Bool) (q : Y → Bool) (f : X → Y) (xs : List X) (d : X)
    → ((j : ℕ) → j < length xs → q (f (get_or xs j d)) ≡ p (get_or xs j d)) → count_by q (map f xs) ≡ count_by p xs
count-same p q f [] d h = refl
count-same p q f (x ∷ xs) d h =
    let first = ap bit (h 0 (omega arith)) in
    let old = count-cons p x xs in
    let new = count-cons q (f x) (map f xs) in
    omega (arith, first, old, new, count-same p q f xs d (λ j k. h (suc j) (omega arith)))

-- A number in a list
pub has-head : (x : ℕ) (xs : List ℕ) → has x (x ∷ xs) ≡ true
has-head x xs = rw (eq-eqb x x refl) refl

pub has-tail : (y x : ℕ) (xs : List ℕ) → has y xs ≡ true → has y (x ∷ xs) ≡ true
has-tail y x xs h = or_right (eqb y x) (has y xs) h

pub has-rest : (y x : ℕ) (xs : List ℕ) → (y ≡ x → ⊥) → has y (x ∷ xs) ≡ has y xs
has-rest y x xs ne = rw (ne_eqb y x ne) refl

-- A test of the elements
pub any-at : {X : Type 0} (p : X → Bool) (xs : List X) (i : ℕ) (d : X) → i < length xs → p (get_or xs i d) ≡ true → list_any p xs ≡ true
any-at p [] i d h k = absurd (omega arith)
any-at p (x ∷ xs) zero d h k = rw k refl
any-at p (x ∷ xs) (suc i) d h k = or_right (p x) (list_any p xs) (any-at p xs i d (omega arith) k)

pub any-none : {X Y : Type 0} (p : Y → Bool) (f : X → Y) (xs : List X) (d : X) → ((j : ℕ) → j < length xs → p (f (get_or xs j d)) ≡ false)
    → list_any p (map f xs) ≡ false
any-none p f [] d h = refl
any-none p f (x ∷ xs) d h = rw (h 0 (omega arith), any-none p f xs d (λ j k. h (suc j) (omega arith))) refl

pub get-mapped : {X Y : Type 0} (f : X → Y) (xs : List X) (i : ℕ) (d : X) → i < length xs → slice_get (map f xs) i ≡ Some (f (get_or xs i d))
get-mapped f [] i d h = absurd (omega arith)
get-mapped f (x ∷ xs) zero d h = refl
get-mapped f (x ∷ xs) (suc i) d h = get-mapped f xs i d (omega arith)

pub any-mapped : {X Y : Type 0} (p : Y → Bool) (f : X → Y) (xs : List X) (i : ℕ) (d : X) → i < length xs → p (f (get_or xs i d)) ≡ true
    → list_any p (map f xs) ≡ true
any-mapped p f [] i d h k = absurd (omega arith)
any-mapped p f (x ∷ xs) zero d h k = rw k refl
any-mapped p f (x ∷ xs) (suc i) d h k = or_right (p (f x)) (list_any p (map f xs)) (any-mapped p f xs i d (omega arith) k)

-- An element behind all others
pub at-before : {X : Type 0} (xs : List X) (y : X) (i : ℕ) (d : X) → i < length xs → get_or (xs ++ y ∷ []) i d ≡ get_or xs i d
at-before [] y i d h = absurd (omega arith)
at-before (x ∷ xs) y zero d h = refl
at-before (x ∷ xs) y (suc i) d h = at-before xs y i d (omega arith)

pub at-end : {X : Type 0} (xs : List X) (y d : X) → get_or (xs ++ y ∷ []) (length xs) d ≡ y
at-end [] y d = refl
at-end (x ∷ xs) y d = at-end xs y d

pub at-past : {X : Type 0} (xs : List X) (i : ℕ) (d : X) → length xs < i + 1 → get_or xs i d ≡ d
at-past [] i d h = refl
at-past (x ∷ xs) zero d h = absurd (omega arith)
at-past (x ∷ xs) (suc i) d h = at-past xs i d (omega arith)

pub default-other : {X : Type 0} (xs : List X) (i : ℕ) (d e : X) → i < length xs → get_or xs i d ≡ get_or xs i e
default-other [] i d e h = absurd (omega arith)
default-other (x ∷ xs) zero d e h = refl
default-other (x ∷ xs) (suc i) d e h = default-other xs i d e (omega arith)

pub length-mapped : {X Y : Type 0} (f : X → Y) (xs : List X) → length (map f xs) ≡ length xs
length-mapped f [] = refl
length-mapped f (x ∷ xs) = ap suc (length-mapped f xs)

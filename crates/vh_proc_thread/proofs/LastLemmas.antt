-- Lists that are gone over from their end.
use Rattle.std.proofs.Common.{◌≡◌, ◌∙◌, ◌<◌, ◌-◌, ◌++◌, ℕ, Bool, true, false, cond, List, [], ◌∷◌, length, reverse, filter, take, drop, slice_set, slice_index_or, refl, sym, ap, subst, arith}
use Rattle.std.proofs.Math.Seq.{set-append_seam, get_or-append_seam}
use Rattle.std.proofs.lemmas.List.{reverse-append, reverse-reverse, length-append, append-nil, take-append-drop}
use Rattle.std.specs.List.{AllByRecursion}

-- A list with its last element apart.
pub record Apart {X : Type 0} (xs : List X) : Type 0 where
  pub front : List X
  pub last : X
  pub is : xs ≡ front ++ last ∷ []

pub apart : {X : Type 0} (xs : List X) → 0 < length xs → Apart xs
apart [] some = absurd (omega (arith, some))
apart (x ∷ []) some = record { front = []; last = x; is = refl }
apart {X} (x ∷ y ∷ ys) some = more (apart (y ∷ ys) (omega arith))
  where
    more : Apart (y ∷ ys) → Apart (x ∷ y ∷ ys)
    more a = record { front = x ∷ a.front; last = a.last; is = ap (λ (zs : List X). x ∷ zs) a.is }

before-last : {X : Type 0} (ys : List X) (x : X) → length (ys ++ x ∷ []) - 1 ≡ length ys
before-last ys x = omega (arith, length-append ys (x ∷ []))

-- From its end it begins with the last one.
pub reverse-apart : {X : Type 0} (ys : List X) (x : X) → reverse (ys ++ x ∷ []) ≡ x ∷ reverse ys
reverse-apart ys x = reverse-append ys (x ∷ [])

pub last-at : {X : Type 0} (ys : List X) (x d : X) (n : ℕ) → n ≡ length (ys ++ x ∷ []) - 1 → slice_index_or (ys ++ x ∷ []) n d ≡ x
last-at {X} ys x d n is = ap (λ (k : ℕ). slice_index_or (ys ++ x ∷ []) k d) (is ∙ before-last ys x) ∙ get_or-append_seam ys x [] d

pub last-set : {X : Type 0} (ys : List X) (x y : X) (n : ℕ) → n ≡ length (ys ++ x ∷ []) - 1
    → reverse (slice_set (ys ++ x ∷ []) n y) ≡ y ∷ reverse ys
last-set {X} ys x y n is =
    ap (λ (k : ℕ). reverse (slice_set (ys ++ x ∷ []) k y)) (is ∙ before-last ys x)
    ∙ ap reverse (set-append_seam ys x [] y) ∙ reverse-apart ys y

-- What holds of each element from one end holds of each from the other.
pub each-append : {X : Type 0} (P : X → Type 0) (xs ys : List X) → AllByRecursion P xs → AllByRecursion P ys → AllByRecursion P (xs ++ ys)
each-append P [] ys one two = two
each-append P (x ∷ xs) ys one two = (one.0, each-append P xs ys one.1 two)

pub each-front : {X : Type 0} (P : X → Type 0) (xs ys : List X) → AllByRecursion P (xs ++ ys) → AllByRecursion P xs
each-front P [] ys all = tt
each-front P (x ∷ xs) ys all = (all.0, each-front P xs ys all.1)

pub each-turned : {X : Type 0} (P : X → Type 0) (xs : List X) → AllByRecursion P xs → AllByRecursion P (reverse xs)
each-turned P [] all = tt
each-turned {X} P (x ∷ xs) all =
    subst (AllByRecursion P) (sym (reverse-append (x ∷ []) xs)) (each-append P (reverse xs) (x ∷ []) (each-turned P xs all.1) (all.0, tt))

pub each-back : {X : Type 0} (P : X → Type 0) (xs : List X) → AllByRecursion P (reverse xs) → AllByRecursion P xs
each-back P xs all = subst (AllByRecursion P) (reverse-reverse xs) (each-turned P (reverse xs) all)

pub each-taken : {X : Type 0} (P : X → Type 0) (n : ℕ) (xs : List X) → AllByRecursion P xs → AllByRecursion P (take n xs)
each-taken P n xs all = each-front P (take n xs) (drop n xs) (subst (AllByRecursion P) (sym (take-append-drop n xs)) all)

pub each-last : {X : Type 0} (P : X → Type 0) (ys : List X) (y : X) → AllByRecursion P (ys ++ y ∷ []) → P y
each-last P [] y all = all.0
each-last P (x ∷ ys) y all = each-last P ys y all.1

-- What passes a test, from either end.
filter-joined : {X : Type 0} (p : X → Bool) (xs ys : List X) → filter p (xs ++ ys) ≡ filter p xs ++ filter p ys
filter-joined p [] ys = refl
filter-joined {X} p (x ∷ xs) ys = by (p x) (filter-joined p xs ys)
  where
    by : (b : Bool) → filter p (xs ++ ys) ≡ filter p xs ++ filter p ys
        → cond b (x ∷ filter p (xs ++ ys)) (filter p (xs ++ ys)) ≡ cond b (x ∷ filter p xs) (filter p xs) ++ filter p ys
    by true rest = ap (λ (zs : List X). x ∷ zs) rest
    by false rest = rest

pub filter-turned : {X : Type 0} (p : X → Bool) (xs : List X) → reverse (filter p xs) ≡ filter p (reverse xs)
filter-turned p [] = refl
filter-turned {X} p (x ∷ xs) =
    by (p x) refl (filter-turned p xs) ∙ sym (ap (filter p) (reverse-append (x ∷ []) xs) ∙ filter-joined p (reverse xs) (x ∷ []))
  where
    by : (b : Bool) → p x ≡ b → reverse (filter p xs) ≡ filter p (reverse xs)
        → reverse (cond b (x ∷ filter p xs) (filter p xs)) ≡ filter p (reverse xs) ++ filter p (x ∷ [])
    by true is rest =
        reverse-append (x ∷ []) (filter p xs) ∙ ap (λ (zs : List X). zs ++ x ∷ []) rest
        ∙ ap (λ (b : Bool). filter p (reverse xs) ++ cond b (x ∷ []) []) (sym is)
    by false is rest =
        rest ∙ sym (append-nil (filter p (reverse xs)))
        ∙ ap (λ (b : Bool). filter p (reverse xs) ++ cond b (x ∷ []) []) (sym is)

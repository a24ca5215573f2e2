-- Sets of numbers in a list, after a change of one.
use Rattle.std.proofs.Common.{◌≡◌, ◌∙◌, ◌<◌, ℕ, zero, suc, Bool, true, false, cond, not, ◌&&◌, ◌||◌, nat_eq, nat_lt, List, [], ◌∷◌, ◌++◌, length, get_or, Option, Some, None, slice_get, slice_set, Less, Equal, Greater, refl, sym, ap, subst, arith}
use Rattle.std.specs.Prelude.{unwrap_or}
use Rattle.std.proofs.lemmas.Bool.{eqb-true, eq-eqb, ne_eqb, ltb-true}
use Rattle.std.specs.BTreeMap.{is_at}
use Rattle.std.specs.BTreeSet.{BTreeSet, contains}
use Rattle.std.specs.Option.{option_map}
use Rattle.std.specs.Ordering.{nat_cmp, is_eq}
use Rattle.vh_proc.specs.Families.{is_of, MembersJoin, MembersLeave}

-- A key is at a number where it's that number.
at-by : (b d : Bool) → (b ≡ true → d ≡ false) → is_eq (cond b Less (cond d Equal Greater)) ≡ d
at-by true true h = sym (h refl)
at-by true false h = refl
at-by false true h = refl
at-by false false h = refl

pub at-eq : (c k : ℕ) → is_at (nat_cmp c) k ≡ nat_eq c k
at-eq c k = at-by (nat_lt c k) (nat_eq c k) (λ h. ne_eqb c k (λ e. omega (arith, ltb-true c k h)))

-- An element in another's position, and one at the end.
get-same : {X : Type 0} (xs : List X) (k : ℕ) (x y : X) → slice_get xs k ≡ Some x → slice_get (slice_set xs k y) k ≡ Some y
get-same [] k x y at = absurd (cc)
get-same (z ∷ zs) zero x y at = refl
get-same (z ∷ zs) (suc k) x y at = get-same zs k x y at

get-other : {X : Type 0} (xs : List X) (k n : ℕ) (y : X) → (n ≡ k → ⊥) → slice_get (slice_set xs k y) n ≡ slice_get xs n
get-other [] k n y h = refl
get-other (z ∷ zs) zero zero y h = absurd (h refl)
get-other (z ∷ zs) zero (suc n) y h = refl
get-other (z ∷ zs) (suc k) zero y h = refl
get-other (z ∷ zs) (suc k) (suc n) y h = get-other zs k n y (λ e. h (ap suc e))

-- An element at a position, by what `get_or` gives, and none behind the end.
pub at-position : {X : Type 0} (xs : List X) (k : ℕ) (x : X) → k < length xs → slice_get xs k ≡ Some (get_or xs k x)
at-position [] k x low = absurd (omega (arith, low))
at-position (y ∷ ys) zero x low = refl
at-position (y ∷ ys) (suc k) x low = at-position ys k x (omega (arith, low))

pub none-at : {X : Type 0} (xs : List X) (k : ℕ) → (k < length xs → ⊥) → slice_get xs k ≡ None
none-at [] k out = refl
none-at (y ∷ ys) zero out = absurd (out (omega arith))
none-at (y ∷ ys) (suc k) out = none-at ys k (λ low. out (omega (arith, low)))

apart : (n k : ℕ) → nat_eq n k ≡ false → n ≡ k → ⊥
apart n k differ e = let agree : nat_eq n k ≡ true = eq-eqb n k e in absurd (cc)

abbrev has : ℕ → Option (BTreeSet ℕ) → Bool
has q o = unwrap_or (option_map (λ f. contains nat_cmp f q) o) false

-- Whether a number is in the set of a position, by what is there.
or-cond : (a b : Bool) → cond b true a ≡ (a || b)
or-cond true true = refl
or-cond true false = refl
or-cond false true = refl
or-cond false false = refl

and-cond : (a b : Bool) → cond b false a ≡ (a && not b)
and-cond true true = refl
and-cond true false = refl
and-cond false true = refl
and-cond false false = refl

or-false : (a : Bool) → a ≡ (a || false)
or-false true = refl
or-false false = refl

and-true : (a : Bool) → a ≡ (a && true)
and-true true = refl
and-true false = refl

-- A number comes into the set of a position.
pub joins-set : (fs : List (BTreeSet ℕ)) (k p : ℕ) (f g : BTreeSet ℕ) → slice_get fs k ≡ Some f
    → ((q : ℕ) → contains nat_cmp g q ≡ cond (is_at (nat_cmp p) q) true (contains nat_cmp f q)) → MembersJoin fs (slice_set fs k g) k p
joins-set fs k p f g at more n q = by (nat_eq n k) refl
  where
    by : (b : Bool) → nat_eq n k ≡ b → is_of (slice_set fs k g) n q ≡ (is_of fs n q || (nat_eq n k && nat_eq p q))
    by true is =
        let same : n ≡ k = eqb-true n k is in
        let new : is_of (slice_set fs k g) n q ≡ contains nat_cmp g q = ap (has q) (subst (λ m. slice_get (slice_set fs k g) m ≡ Some g) (sym same) (get-same fs k f g at)) in
        let old : is_of fs n q ≡ contains nat_cmp f q = ap (has q) (subst (λ m. slice_get fs m ≡ Some f) (sym same) at) in
        new ∙ more q ∙ ap (λ b. cond b true (contains nat_cmp f q)) (at-eq p q) ∙ or-cond (contains nat_cmp f q) (nat_eq p q)
        ∙ ap (λ b. b || nat_eq p q) (sym old) ∙ ap (λ b. is_of fs n q || (b && nat_eq p q)) (sym is)
    by false is =
        ap (has q) (get-other fs k n g (apart n k is)) ∙ or-false (is_of fs n q) ∙ ap (λ b. is_of fs n q || (b && nat_eq p q)) (sym is)

-- One goes out of it.
pub leaves-set : (fs : List (BTreeSet ℕ)) (k p : ℕ) (f g : BTreeSet ℕ) → slice_get fs k ≡ Some f
    → ((q : ℕ) → contains nat_cmp g q ≡ cond (is_at (nat_cmp p) q) false (contains nat_cmp f q)) → MembersLeave fs (slice_set fs k g) k p
leaves-set fs k p f g at less n q = by (nat_eq n k) refl
  where
    by : (b : Bool) → nat_eq n k ≡ b → is_of (slice_set fs k g) n q ≡ (is_of fs n q && not (nat_eq n k && nat_eq p q))
    by true is =
        let same : n ≡ k = eqb-true n k is in
        let new : is_of (slice_set fs k g) n q ≡ contains nat_cmp g q = ap (has q) (subst (λ m. slice_get (slice_set fs k g) m ≡ Some g) (sym same) (get-same fs k f g at)) in
        let old : is_of fs n q ≡ contains nat_cmp f q = ap (has q) (subst (λ m. slice_get fs m ≡ Some f) (sym same) at) in
        new ∙ less q ∙ ap (λ b. cond b false (contains nat_cmp f q)) (at-eq p q) ∙ and-cond (contains nat_cmp f q) (nat_eq p q)
        ∙ ap (λ b. b && not (nat_eq p q)) (sym old) ∙ ap (λ b. is_of fs n q && not (b && nat_eq p q)) (sym is)
    by false is =
        ap (has q) (get-other fs k n g (apart n k is)) ∙ and-true (is_of fs n q) ∙ ap (λ b. is_of fs n q && not (b && nat_eq p q)) (sym is)

-- Where there is differ such set, nothing goes out.
pub leaves-none : (fs : List (BTreeSet ℕ)) (k p : ℕ) → slice_get fs k ≡ None → MembersLeave fs fs k p
leaves-none fs k p none n q = by (nat_eq n k) refl
  where
    by : (b : Bool) → nat_eq n k ≡ b → is_of fs n q ≡ (is_of fs n q && not (nat_eq n k && nat_eq p q))
    by true is =
        let out : is_of fs n q ≡ false = ap (has q) (subst (λ m. slice_get fs m ≡ None) (sym (eqb-true n k is)) none) in
        out ∙ ap (λ b. b && not (nat_eq n k && nat_eq p q)) (sym out)
    by false is = and-true (is_of fs n q) ∙ ap (λ b. is_of fs n q && not (b && nat_eq p q)) (sym is)

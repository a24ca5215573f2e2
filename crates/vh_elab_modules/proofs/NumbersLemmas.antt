-- Lemmas on `specs/Numbers.antt`: two names are the same where their numbers are, and so ways between modules are ways between numbers.
use Rattle.std.proofs.Common.{◌≡◌, ◌≢◌, ◌∙◌, ◌+◌, ◌<◌, ◌≤◌, ℕ, suc, Bool, true, false, ◌||◌, ◌&&◌, cond, nat_eq, List, [], ◌∷◌, length, get_or, set, map, Option, Some, None, refl, sym, ap, arith}
use Rattle.std.specs.Prelude.{bytes_eq, unwrap_or}
use Rattle.std.specs.List.{list_any}
use Rattle.std.proofs.lemmas.List.{get_or-set_same, get_or-set_other, length-set}
use Rattle.std.proofs.lemmas.Slice.Eq.{bytes_eq-Decides}
use Rattle.std.proofs.lemmas.Bool.{false≢true}
use Rattle.std.proofs.lemmas.Bool.Decides.{Decides-eqb}
use Rattle.vh_elab_index.specs.First.{position_from, position_in}
use Rattle.vh_elab_cycles.specs.Cycles.{leads, is_on_cycle}
use Rattle.vh_elab_modules.specs.Numbers.{Numbered, held_by, number_of}

-- Two tests that hold together.
pub same_tests : (a b : Bool) → (a ≡ true → b ≡ true) → (b ≡ true → a ≡ true) → a ≡ b
same_tests true true h i = refl
same_tests true false h i = sym (h refl)
same_tests false true h i = i refl
same_tests false false h i = refl

bytes-itself : (x : List ℕ) → bytes_eq x x ≡ true
bytes-itself x = (bytes_eq-Decides x x).1 refl

bytes-same : (x y : List ℕ) → bytes_eq x y ≡ true → x ≡ y
bytes-same x y h = (bytes_eq-Decides x y).0 h

pub bytes-turned : (x y : List ℕ) → bytes_eq x y ≡ bytes_eq y x
bytes-turned x y =
    same_tests (bytes_eq x y) (bytes_eq y x)
    (λ h. (bytes_eq-Decides y x).1 (sym (bytes-same x y h))) (λ h. (bytes_eq-Decides x y).1 (sym (bytes-same y x h)))

-- A name is one of some.
abbrev pub IsNamed : List (List ℕ) → List ℕ → Type 0
IsNamed names x = list_any (bytes_eq x) names ≡ true

pub named-first : (names : List (List ℕ)) (x : List ℕ) → IsNamed (x ∷ names) x
named-first names x = ap (λ b. b || list_any (bytes_eq x) names) (bytes-itself x)

pub named-more : (names : List (List ℕ)) (y x : List ℕ) → IsNamed names x → IsNamed (y ∷ names) x
named-more names y x h = at_test (bytes_eq x y)
  where
    at_test : (b : Bool) → (b || list_any (bytes_eq x) names) ≡ true
    at_test true = refl
    at_test false = h

place-least : (n k : ℕ) (names : List (List ℕ)) (x : List ℕ) → position_from n names x ≡ Some k → n ≤ k
place-least n k [] x h = absurd (cc)
place-least n k (y ∷ ys) x h = at_test (bytes_eq x y) h (place-least (suc n) k ys x)
  where
    at_test : (b : Bool) → cond b (Some n) (position_from (suc n) ys x) ≡ Some k → (position_from (suc n) ys x ≡ Some k → suc n ≤ k) → n ≤ k
    at_test true is more = let same : n ≡ k = cc in omega arith
    at_test false is more = let low = more is in omega arith

place-most : (n k : ℕ) (names : List (List ℕ)) (x : List ℕ) → position_from n names x ≡ Some k → k < n + length names
place-most n k [] x h = absurd (cc)
place-most n k (y ∷ ys) x h = at_test (bytes_eq x y) h (place-most (suc n) k ys x)
  where
    at_test : (b : Bool) → cond b (Some n) (position_from (suc n) ys x) ≡ Some k
        → (position_from (suc n) ys x ≡ Some k → k < suc n + length ys) → k < n + suc (length ys)
    at_test true is more = let same : n ≡ k = cc in omega arith
    at_test false is more = let high = more is in omega arith

place-same : (n k : ℕ) (names : List (List ℕ)) (x y : List ℕ) → position_from n names x ≡ Some k → position_from n names y ≡ Some k → x ≡ y
place-same n k [] x y h i = absurd (cc)
place-same n k (z ∷ zs) x y h i =
    at_tests (bytes_eq x z) refl (bytes_eq y z) refl h i (place-same (suc n) k zs x y)
  where
    at_tests : (b : Bool) → bytes_eq x z ≡ b → (d : Bool) → bytes_eq y z ≡ d
        → cond b (Some n) (position_from (suc n) zs x) ≡ Some k → cond d (Some n) (position_from (suc n) zs y) ≡ Some k
        → (position_from (suc n) zs x ≡ Some k → position_from (suc n) zs y ≡ Some k → x ≡ y) → x ≡ y
    at_tests true is true it h i more = bytes-same x z is ∙ sym (bytes-same y z it)
    at_tests true is false it h i more =
        let same : n ≡ k = cc in let low = place-least (suc n) k zs y i in absurd (omega arith)
    at_tests false is true it h i more =
        let same : n ≡ k = cc in let low = place-least (suc n) k zs x h in absurd (omega arith)
    at_tests false is false it h i more = more h i

place-named : (n : ℕ) (names : List (List ℕ)) (x : List ℕ) → IsNamed names x → (k : ℕ) × (position_from n names x ≡ Some k)
place-named n [] x h = absurd (cc)
place-named n (y ∷ ys) x h = at_test (bytes_eq x y) h (place-named (suc n) ys x)
  where
    at_test : (b : Bool) → (b || list_any (bytes_eq x) ys) ≡ true → (IsNamed ys x → (k : ℕ) × (position_from (suc n) ys x ≡ Some k))
        → (k : ℕ) × (cond b (Some n) (position_from (suc n) ys x) ≡ Some k)
    at_test true is more = (n, refl)
    at_test false is more = more is

-- The number of a name that a module has.
pub number-within : (names : List (List ℕ)) (x : List ℕ) → IsNamed names x → number_of names x < length names
number-within names x h =
    let at = place-named 0 names x h in
    let is : number_of names x ≡ at.0 = ap (λ o. unwrap_or o (length names)) at.1 in
    let most = place-most 0 at.0 names x at.1 in
    omega (arith, is, most)

pub number-same : (names : List (List ℕ)) (x y : List ℕ) → IsNamed names y → nat_eq (number_of names x) (number_of names y) ≡ bytes_eq x y
number-same names x y named =
    same_tests (nat_eq (number_of names x) (number_of names y)) (bytes_eq x y)
    (λ h. (bytes_eq-Decides x y).1 (at_place (position_in names x) refl ((Decides-eqb (number_of names x) (number_of names y)).0 h)))
    (λ h. (Decides-eqb (number_of names x) (number_of names y)).1 (ap (number_of names) (bytes-same x y h)))
  where
    at_place : (o : Option ℕ) → position_in names x ≡ o → unwrap_or (position_in names x) (length names) ≡ number_of names y → x ≡ y
    at_place (Some k) is same =
        let at = place-named 0 names y named in
        let one : number_of names y ≡ at.0 = ap (λ p. unwrap_or p (length names)) at.1 in
        let other : unwrap_or (position_in names x) (length names) ≡ k = ap (λ p. unwrap_or p (length names)) is in
        let both : at.0 ≡ k = sym one ∙ sym same ∙ other in
        place-same 0 k names x y is (at.1 ∙ ap (λ n. Some n) both)
    at_place None is same =
        let low = number-within names y named in
        let other : unwrap_or (position_in names x) (length names) ≡ length names = ap (λ p. unwrap_or p (length names)) is in
        absurd (omega (arith, low, same, other))

-- The edges of modules begin at modules.
abbrev pub Begin : List (List ℕ) → List (List ℕ × List ℕ) → Type 0
Begin names [] = Unit {0}
Begin names (e ∷ es) = IsNamed names e.0 × Begin names es

abbrev pub edge_number : List (List ℕ) → List ℕ × List ℕ → ℕ × ℕ
edge_number names e = (number_of names e.0, number_of names e.1)

-- A way by names is one by numbers.
pub leads-numbers : (names : List (List ℕ)) (es : List (List ℕ × List ℕ)) → Begin names es → (x y : List ℕ) → IsNamed names y
    → leads nat_eq (map (edge_number names) es) (number_of names x) (number_of names y) ≡ leads bytes_eq es x y
unfolding leads
leads-numbers names [] begin x y named = number-same names x y named
leads-numbers names (e ∷ es) begin x y named =
    let all = leads-numbers names es begin.1 x y named in
    let there = leads-numbers names es begin.1 x e.0 begin.0 in
    let back = leads-numbers names es begin.1 e.1 y named in
    let a = leads nat_eq (map (edge_number names) es) (number_of names x) (number_of names e.0) in
    let b = leads nat_eq (map (edge_number names) es) (number_of names e.1) (number_of names y) in
    ap (λ v. v || (a && b)) all ∙ ap (λ v. leads bytes_eq es x y || (v && b)) there
    ∙ ap (λ v. leads bytes_eq es x y || (leads bytes_eq es x e.0 && v)) back

pub on-cycle-numbers : (names : List (List ℕ)) (es : List (List ℕ × List ℕ)) → Begin names es → (e : List ℕ × List ℕ) → IsNamed names e.0
    → is_on_cycle nat_eq (map (edge_number names) es) (edge_number names e) ≡ is_on_cycle bytes_eq es e
on-cycle-numbers names es begin e named = leads-numbers names es begin e.1 e.0 named

or_true : (b : Bool) → (b || true) ≡ true
or_true true = refl
or_true false = refl

or_false : (b : Bool) → (b || false) ≡ b
or_false true = refl
or_false false = refl

or_three : (a b d : Bool) → ((a || b) || d) ≡ (a || (b || d))
or_three true b d = refl
or_three false b d = refl

set-at : (flags : List Bool) (k x : ℕ) → x < length flags → get_or (set flags k true) x false ≡ (get_or flags x false || nat_eq k x)
set-at flags k x low = at_test (nat_eq k x) refl
  where
    at_test : (b : Bool) → nat_eq k x ≡ b → get_or (set flags k true) x false ≡ (get_or flags x false || nat_eq k x)
    at_test true is =
        let same = (Decides-eqb k x).0 is in
        ap (λ y. get_or (set flags k true) y false) (sym same) ∙ get_or-set_same flags k true false (omega (arith, same, low))
        ∙ sym (ap (λ b. get_or flags x false || b) is ∙ or_true (get_or flags x false))
    at_test false is =
        let other : x ≢ k = λ same. false≢true (sym is ∙ (Decides-eqb k x).1 (sym same)) in
        get_or-set_other flags k x true false other ∙ sym (ap (λ b. get_or flags x false || b) is ∙ or_false (get_or flags x false))

-- A flag is set where it was, or where an item has instances of its module.
pub held-at : (flags : List Bool) (hs : List Numbered) (x : ℕ) → x < length flags
    → get_or (held_by flags hs) x false ≡ (get_or flags x false || list_any (λ (h : Numbered). nat_eq h.0.1 x) hs)
held-at flags [] x low = sym (or_false (get_or flags x false))
held-at flags (h ∷ hs) x low =
    held-at (set flags h.0.1 true) hs x (omega (arith, length-set flags h.0.1 true))
    ∙ ap (λ b. b || list_any (λ (g : Numbered). nat_eq g.0.1 x) hs) (set-at flags h.0.1 x low)
    ∙ or_three (get_or flags x false) (nat_eq h.0.1 x) (list_any (λ (g : Numbered). nat_eq g.0.1 x) hs)

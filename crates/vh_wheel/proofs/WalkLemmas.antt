-- What holds of a walk over a list, from node to node.
use Rattle.std.proofs.Common.{◌≡◌, ℕ, ◌<◌, ◌≤◌, List, [], ◌∷◌, ◌++◌, length, refl, ap, arith, ◌∙◌, sym, subst, Bool, true, false, cond, eqb, Option, Some, None, inl, inr}
use Rattle.std.specs.List.{find, slice_get}
use Rattle.std.specs.Option.{option_and_then}
use Rattle.std.proofs.lemmas.Bool.{eq-eqb, ne_eqb, cases_eq, cases_Bool}
use Rattle.std.proofs.lemmas.List.{append_assoc}
use Rattle.vh_links.specs.Lists.{Lists, has, behind, list_of, next_of}
use Rattle.vh_links.specs.Views.{IsApart}
use Rattle.vh_links.proofs.ListsLemmas.{has-head, has-tail, has-cases, apart-both, parted, behind-at, find-only}
use Rattle.vh_wheel.specs.declared.node.Node.{Node}
use Rattle.vh_wheel.specs.Views.{node_at, bucket_at, Lies}

-- A list from a node on
abbrev pub from_node : ℕ → List ℕ → List ℕ
from_node x [] = []
from_node x (y ∷ ys) = cond (eqb x y) (y ∷ ys) (from_node x ys)

abbrev pub left_of : Option ℕ → List ℕ → List ℕ
left_of None xs = []
left_of (Some x) xs = from_node x xs

from-at : (x : ℕ) (xs ys : List ℕ) → has x xs ≡ false → from_node x (xs ++ x ∷ ys) ≡ x ∷ ys
from-at x [] ys h = rw (eq-eqb x x refl) refl
from-at x (y ∷ xs) ys h =
    elim (cases_Bool (eqb x y)) [
      | inl e ↦ absurd (let no : true ≡ false = sym (rw e refl) ∙ h in cc)
      | inr e ↦ let rest : has x xs ≡ false = sym (rw e refl) ∙ h in rw e (from-at x xs ys rest)
    ]

-- The walk goes on with what is left behind a node
after-parts : (x : ℕ) (front back : List ℕ) → IsApart (front ++ x ∷ back) → has x front ≡ false
    → from_node x (front ++ x ∷ back) ≡ x ∷ left_of (behind x (front ++ x ∷ back)) (front ++ x ∷ back)
after-parts x front [] a h =
    from-at x front [] h ∙ ap (λ (o : Option ℕ). x ∷ left_of o (front ++ x ∷ [])) (sym (behind-at x front [] h))
after-parts x front (y ∷ back) a h =
    let same : front ++ x ∷ y ∷ back ≡ (front ++ x ∷ []) ++ y ∷ back = sym (append_assoc front (x ∷ []) (y ∷ back)) in
    let lacks : has y (front ++ x ∷ []) ≡ false =
    has-cases (has y (front ++ x ∷ []) ≡ false) y (front ++ x ∷ [])
    (λ k. let no = sym (has-head y back) ∙ apart-both (front ++ x ∷ []) (y ∷ back) (subst IsApart same a) y k in cc) (λ k. k) in
    let rest : from_node y (front ++ x ∷ y ∷ back) ≡ y ∷ back = ap (from_node y) same ∙ from-at y (front ++ x ∷ []) back lacks in
    from-at x front (y ∷ back) h ∙ ap (λ (zs : List ℕ). x ∷ zs) (sym rest)
    ∙ ap (λ (o : Option ℕ). x ∷ left_of o (front ++ x ∷ y ∷ back)) (sym (behind-at x front (y ∷ back) h))

pub walk-on : (x : ℕ) (xs : List ℕ) → IsApart xs → has x xs ≡ true → from_node x xs ≡ x ∷ left_of (behind x xs) xs
walk-on x xs a h =
    let parts = parted x xs h in
    subst (λ (ys : List ℕ). from_node x ys ≡ x ∷ left_of (behind x ys) ys) (sym parts.2)
    (after-parts x parts.0 parts.1 (subst IsApart parts.2 a) parts.3)

-- The node behind another, in the lists of the buckets
pub next-of : (s : Lists) (ns : List Node) (a x : ℕ) → Lies s ns → a < 2049 → has x (list_of a s) ≡ true → next_of x s ≡ behind x (list_of a s)
next-of s ns a x l h k =
    let at : bucket_at ns x ≡ a = (l.sound a x k).1 in
    let found : find (has x) s.lists ≡ Some (list_of a s) =
    find-only (has x) s.lists a [] (omega (arith, h, l.count)) k (λ j p. sym (l.sound j x p).1 ∙ at) in
    ap (λ (o : Option (List ℕ)). option_and_then (behind x) o) found

-- The node behind another is in the list
pub behind-has : (x y : ℕ) (xs : List ℕ) → behind x xs ≡ Some y → has y xs ≡ true
behind-has x y [] h = cc
behind-has x y (z ∷ zs) h =
    elim (cases_Bool (eqb x z)) [
      | inl e ↦ has-tail y z zs (head-has zs y (sym (ap (λ (b : Bool). cond b (slice_get zs 0) (behind x zs)) e) ∙ h))
      | inr e ↦ has-tail y z zs (behind-has x y zs (sym (ap (λ (b : Bool). cond b (slice_get zs 0) (behind x zs)) e) ∙ h))
    ]
  where
    head-has : (ys : List ℕ) (y : ℕ) → slice_get ys 0 ≡ Some y → has y ys ≡ true
    head-has [] y h = cc
    head-has (z ∷ zs) y h = let e : y ≡ z = cc in rw (eq-eqb y z e) refl

-- Where the walk stands: at a node of the list, and no node that it passed has a lesser time
pub record Walks (ns : List Node) (xs : List ℕ) (at : Option ℕ) (b t : ℕ) : Type 0 where
  pub here : (x : ℕ) → at ≡ Some x → has x xs ≡ true
  pub passed : (y : ℕ) → has y xs ≡ true → has y (left_of at xs) ≡ false → t ≤ (node_at ns y).time
  pub some : (x : ℕ) × (x < length ns) × (bucket_at ns x ≡ b) × ((node_at ns x).time ≡ t)

first-from : (xs : List ℕ) (x : ℕ) → slice_get xs 0 ≡ Some x → from_node x xs ≡ xs
first-from [] x h = refl
first-from (y ∷ ys) x h = let e : x ≡ y = cc in rw (eq-eqb x y e) refl

pub walk-begins : (ns : List Node) (xs : List ℕ) (at : Option ℕ) (b t : ℕ) → at ≡ slice_get xs 0
    → (x : ℕ) × (x < length ns) × (bucket_at ns x ≡ b) × ((node_at ns x).time ≡ t) → Walks ns xs at b t
walk-begins ns [] at b t h some = record { here = λ x e. let no = sym e ∙ h in cc; passed = λ y k l. absurd (let no : true ≡ false = sym k in cc); some = some }
walk-begins ns (z ∷ zs) at b t h some =
    record {
      here = λ x e. let same : x ≡ z = some_is x z (sym e ∙ h) in rw (eq-eqb x z same) refl;
      passed = λ y k l.
          let whole : left_of at (z ∷ zs) ≡ z ∷ zs = ap (λ (o : Option ℕ). left_of o (z ∷ zs)) h ∙ first-from (z ∷ zs) z refl in
          absurd (let no : true ≡ false = sym k ∙ sym (ap (has y) whole) ∙ l in cc);
      some = some;
    }
  where
    some_is : (x z : ℕ) → Some x ≡ Some z → x ≡ z
    some_is x z h = cc

-- A step: the node that it stands at is passed
pub walk-goes : (s : Lists) (ns : List Node) (at : Option ℕ) (b t u x : ℕ) (o : Option ℕ) → Lies s ns → b < 2049 → at ≡ Some x
    → Walks ns (list_of b s) at b t → o ≡ next_of x s → u ≤ t → u ≤ (node_at ns x).time
    → (y : ℕ) × (y < length ns) × (bucket_at ns y ≡ b) × ((node_at ns y).time ≡ u)
    → Walks ns (list_of b s) o b u × (length (left_of o (list_of b s)) < length (left_of at (list_of b s)))
walk-goes s ns at b t u x o l h is w next le le_x some =
    let xs : List ℕ = list_of b s in
    let there : has x xs ≡ true = w.here x is in
    let go : o ≡ behind x xs = next ∙ next-of s ns b x l h there in
    let left : left_of at xs ≡ x ∷ left_of o xs =
    ap (λ (p : Option ℕ). left_of p xs) is ∙ walk-on x xs (l.apart b) there ∙ ap (λ (p : Option ℕ). x ∷ left_of p xs) (sym go) in (
      record {
        here = λ y e. behind-has x y xs (sym go ∙ e);
        passed = λ y k none.
            elim (cases_eq y x) [
              | inl e ↦ subst (λ z. u ≤ (node_at ns z).time) (sym e) le_x
              | inr e ↦
                  let before : has y (left_of at xs) ≡ false = ap (has y) left ∙ rw (ne_eqb y x e) none in
                  let old = w.passed y k before in
                  omega (arith, old, le)
            ];
        some = some;
      },
      omega (arith, ap (λ (zs : List ℕ). length zs) left),
    )

-- At the end all were passed
pub walk-ends : (s : Lists) (ns : List Node) (at : Option ℕ) (b t : ℕ) → Lies s ns → at ≡ None → Walks ns (list_of b s) at b t
    → (y : ℕ) → y < length ns → bucket_at ns y ≡ b → t ≤ (node_at ns y).time
walk-ends s ns at b t l is w y h at_b =
    w.passed y (sym (ap (λ c. has y (list_of c s)) at_b) ∙ l.whole y h) (ap (λ (o : Option ℕ). has y (left_of o (list_of b s))) is)

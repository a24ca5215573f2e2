-- What holds of nodes in the lists of their buckets.
use Rattle.std.proofs.Common.{◌≡◌, ℕ, ◌+◌, ◌<◌, ◌≢◌, List, [], ◌∷◌, ◌++◌, length, set, replicate, refl, ap, arith, ◌∙◌, sym, true, false, eqb, Option, Some, None, inl, inr, rules, subst}
use Rattle.std.specs.Prelude.{IfSome}
use Rattle.std.specs.List.{slice_get}
use Rattle.std.proofs.lemmas.Bool.{eq-eqb, ne_eqb, cases_eq, cases_Bool}
use Rattle.std.proofs.lemmas.List.{get_or-set_same, get_or-set_other, get_or_append_left, length-set}
use Rattle.std.proofs.Math.ListN.{length-append}
use Rattle.std.proofs.Math.Seq.{get_or-append_seam}
use Rattle.vh_links.specs.Lists.{Lists, has, without, list_of, is_linked, after_add, after_push, after_unlink}
use Rattle.vh_links.proofs.ListsLemmas.{has-cases, has-without, has-parts, has-one, has-left, has-right, has-head, any-at, any-none, get_or-copies, length-mapped, not_one, apart-without, apart-append}
use Rattle.vh_links.specs.Views.{IsApart}
use Rattle.vh_links.proofs.ViewsLemmas.{list_of-unlink}
use Rattle.vh_wheel.specs.declared.node.Node.{Node}
use Rattle.vh_wheel.specs.Views.{nowhere, bucket_at, Lies}

-- A list without a node
lacks-itself : (x : ℕ) (xs : List ℕ) → has x (without x xs) ≡ false
lacks-itself x [] = refl
lacks-itself x (z ∷ zs) =
    elim (cases_Bool (eqb x z)) [
      | inl e ↦ rw e (lacks-itself x zs)
      | inr e ↦ rw (e, e) (lacks-itself x zs)
    ]

keeps-others : (x y : ℕ) (xs : List ℕ) → (y ≡ x → ⊥) → has y xs ≡ true → has y (without x xs) ≡ true
keeps-others x y [] n h = h
keeps-others x y (z ∷ zs) n h =
    elim (cases_eq x z) [
      | inl e ↦
          let same : eqb x z ≡ true = eq-eqb x z e in
          let other : eqb y z ≡ false = ne_eqb y z (λ f. n (f ∙ sym e)) in
          let there : has y zs ≡ true = sym (rw other refl) ∙ h in
          rw same (keeps-others x y zs n there)
      | inr e ↦
          let apart : eqb x z ≡ false = ne_eqb x z e in
          elim (cases_Bool (eqb y z)) [
            | inl f ↦ rw (apart, f) refl
            | inr f ↦
                let there : has y zs ≡ true = sym (rw f refl) ∙ h in
                rw (apart, f) (keeps-others x y zs n there)
          ]
    ]

-- A node that no list has
pub is-free : (x : ℕ) (s : Lists) → ((a : ℕ) → has x (list_of a s) ≡ false) → is_linked x s ≡ false
is-free x s h =
    elim (cases_Bool (is_linked x s)) [
      | inl e ↦
          let at = any-at (has x) s.lists [] e in
          let there : has x (list_of at.0 s) ≡ true = at.2 in
          let not_there = h at.0 in cc
      | inr e ↦ e
    ]

pub unlinked-free : (x : ℕ) (s : Lists) → is_linked x (after_unlink x s) ≡ false
unlinked-free x s = is-free x (after_unlink x s) (λ a. ap (has x) (list_of-unlink x s a) ∙ lacks-itself x (list_of a s))

lacks-unlinked : (x : ℕ) (s : Lists) (a : ℕ) → has x (list_of a (after_unlink x s)) ≡ false
lacks-unlinked x s a = ap (has x) (list_of-unlink x s a) ∙ lacks-itself x (list_of a s)

lacks-new : (s : Lists) (ns : List Node) → Lies s ns → (a : ℕ) → has (length ns) (list_of a s) ≡ false
lacks-new s ns l a = has-cases (has (length ns) (list_of a s) ≡ false) (length ns) (list_of a s) (λ h. absurd (omega (arith, (l.sound a (length ns) h).0))) (λ h. h)

pub new-free : (s : Lists) (ns : List Node) → Lies s ns → (x : ℕ) → x ≡ length ns → is_linked x (after_add s) ≡ false
new-free s ns l x e =
    is-free x (after_add s) (λ a. has-cases (has x (list_of a s) ≡ false) x (list_of a s) (λ h. absurd (omega (arith, (l.sound a x h).0))) (λ h. h))

-- A node that some list has
pub linked : (s : Lists) (a x : ℕ) → has x (list_of a s) ≡ true → is_linked x s ≡ true
linked s a x h =
    elim (cases_Bool (is_linked x s)) [
      | inl e ↦ e
      | inr e ↦ absurd (let no : true ≡ false = sym h ∙ any-none (has x) s.lists a [] e refl in cc)
    ]

-- The lists after a node was appended
list_of-push : (b x a : ℕ) (s : Lists) → b < length s.lists → a ≡ b → list_of a (after_push b x s) ≡ list_of b s ++ x ∷ []
list_of-push b x a s h e =
    ap (λ c. list_of c (after_push b x s)) e ∙ get_or-set_same s.lists b (list_of b s ++ x ∷ []) [] h

pub list_of-others : (b x a : ℕ) (s : Lists) → (a ≡ b → ⊥) → list_of a (after_push b x s) ≡ list_of a s
list_of-others b x a s n = get_or-set_other s.lists b a (list_of b s ++ x ∷ []) [] n

pub pushed-sound : (b x a y : ℕ) (s : Lists) → b < length s.lists → has y (list_of a (after_push b x s)) ≡ true
    → (P : Type 0) → (has y (list_of a s) ≡ true → P) → (y ≡ x → a ≡ b → P) → P
pushed-sound b x a y s h there P p q =
    elim (cases_eq a b) [
      | inl e ↦
          has-parts P y (list_of b s) (x ∷ []) (sym (ap (has y) (list_of-push b x a s h e)) ∙ there)
          (λ k. p (ap (λ c. has y (list_of c s)) e ∙ k))
          (λ k. q (has-one y x k) e)
      | inr e ↦ p (sym (ap (has y) (list_of-others b x a s e)) ∙ there)
    ]

pub pushed-has : (b x : ℕ) (s : Lists) → b < length s.lists → has x (list_of b (after_push b x s)) ≡ true
pushed-has b x s h =
    ap (has x) (list_of-push b x b s h refl) ∙ has-right x (list_of b s) (x ∷ []) (has-head x [])

pushed-whole : (b x a y : ℕ) (s : Lists) → b < length s.lists → has y (list_of a s) ≡ true → has y (list_of a (after_push b x s)) ≡ true
pushed-whole b x a y s h there =
    elim (cases_eq a b) [
      | inl e ↦
          ap (has y) (list_of-push b x a s h e)
          ∙ has-left y (list_of b s) (x ∷ []) (sym (ap (λ c. has y (list_of c s)) e) ∙ there)
      | inr e ↦ ap (has y) (list_of-others b x a s e) ∙ there
    ]

-- Each node still stands once
pushed-apart : (b x : ℕ) (s : Lists) → b < length s.lists → ((a : ℕ) → has x (list_of a s) ≡ false) → ((a : ℕ) → IsApart (list_of a s))
    → (a : ℕ) → IsApart (list_of a (after_push b x s))
pushed-apart b x s h lacks all a =
    elim (cases_eq a b) [
      | inl e ↦
          subst IsApart (sym (list_of-push b x a s h e))
          (apart-append (list_of b s) (x ∷ []) (all b) (refl, tt)
          (λ y k. not_one y x (λ same. let no : true ≡ false = sym k ∙ ap (λ z. has z (list_of b s)) same ∙ lacks b in cc)))
      | inr e ↦ subst IsApart (sym (list_of-others b x a s e)) (all a)
    ]

-- No lists yet
pub lies-new : Lies (record { lists = replicate 2049 []; nodes = 0 }) []
lies-new = record {
  count = search rules;
  size = refl;
  few = omega arith;
  sound = λ a x h. let none : list_of a (record { lists = replicate 2049 []; nodes = 0 }) ≡ [] = get_or-copies 2049 [] a in absurd (let h2 : has x [] ≡ true = sym (ap (has x) none) ∙ h in cc);
  whole = λ x h. absurd (omega arith);
  bound = λ x h. absurd (omega arith);
  apart = λ a. subst IsApart (sym (get_or-copies 2049 [] a)) tt;
}

-- Another node in a node's position, and in the list of its bucket
bucket-set : (ns : List Node) (x y : ℕ) (n : Node) → x < length ns → y ≡ x → bucket_at (set ns x n) y ≡ n.bucket
bucket-set ns x y n h e = ap (λ z. bucket_at (set ns x n) z) e ∙ ap (λ (m : Node). m.bucket) (get_or-set_same ns x n nowhere h)

bucket-kept : (ns : List Node) (x y : ℕ) (n : Node) → (y ≡ x → ⊥) → bucket_at (set ns x n) y ≡ bucket_at ns y
bucket-kept ns x y n e = ap (λ (m : Node). m.bucket) (get_or-set_other ns x y n nowhere e)

pub lies-put : (s : Lists) (ns : List Node) (x : ℕ) (n : Node) → Lies s ns → x < length ns → n.bucket < 2049
    → Lies (after_push n.bucket x (after_unlink x s)) (set ns x n)
lies-put s ns x n l h b =
    let u : Lists = after_unlink x s in
    let mapped : length u.lists ≡ length s.lists = length-mapped (without x) s.lists in
    let within : n.bucket < length u.lists = omega (arith, mapped, l.count) in
    record {
      count = length-set u.lists n.bucket (list_of n.bucket u ++ x ∷ []) ∙ mapped ∙ l.count;
      size = l.size ∙ sym (length-set ns x n);
      few = omega (arith, l.few, length-set ns x n);
      sound = λ a y there.
          pushed-sound n.bucket x a y u within there ((y < length (set ns x n)) × (bucket_at (set ns x n) y ≡ a))
          (λ k.
          let in_rest : has y (without x (list_of a s)) ≡ true = sym (ap (has y) (list_of-unlink x s a)) ∙ k in
          let was = l.sound a y (has-without x y (list_of a s) in_rest) in
          elim (cases_eq y x) [
            | inl e ↦
                let gone : has y (without x (list_of a s)) ≡ false = ap (λ z. has z (without x (list_of a s))) e ∙ lacks-itself x (list_of a s) in
                absurd (let no : true ≡ false = sym in_rest ∙ gone in cc)
            | inr e ↦ (omega (arith, was.0, length-set ns x n), bucket-kept ns x y n e ∙ was.1)
          ])
          (λ e f. (omega (arith, e, length-set ns x n), bucket-set ns x y n h e ∙ sym f));
      whole = λ y k.
          elim (cases_eq y x) [
            | inl e ↦
                ap (λ c. has y (list_of c (after_push n.bucket x u))) (bucket-set ns x y n h e)
                ∙ ap (λ z. has z (list_of n.bucket (after_push n.bucket x u))) e
                ∙ pushed-has n.bucket x u within
            | inr e ↦
                let old : has y (list_of (bucket_at ns y) s) ≡ true = l.whole y (omega (arith, k, length-set ns x n)) in
                let rest : has y (list_of (bucket_at ns y) u) ≡ true =
                ap (has y) (list_of-unlink x s (bucket_at ns y)) ∙ keeps-others x y (list_of (bucket_at ns y) s) e old in
                ap (λ c. has y (list_of c (after_push n.bucket x u))) (bucket-kept ns x y n e)
                ∙ pushed-whole n.bucket x (bucket_at ns y) y u within rest
          ];
      bound = λ y k.
          elim (cases_eq y x) [
            | inl e ↦ omega (arith, bucket-set ns x y n h e, b)
            | inr e ↦ omega (arith, bucket-kept ns x y n e, l.bound y (omega (arith, k, length-set ns x n)))
          ];
      apart = λ a.
          pushed-apart n.bucket x u within (lacks-unlinked x s) (λ c. subst IsApart (sym (list_of-unlink x s c)) (apart-without x (list_of c s) (l.apart c))) a;
    }

-- A node more, in the list of its bucket
bucket-seam : (ns : List Node) (y : ℕ) (n : Node) → y ≡ length ns → bucket_at (ns ++ n ∷ []) y ≡ n.bucket
bucket-seam ns y n e = ap (λ z. bucket_at (ns ++ n ∷ []) z) e ∙ ap (λ (m : Node). m.bucket) (get_or-append_seam ns n [] nowhere)

bucket-before : (ns : List Node) (y : ℕ) (n : Node) → y < length ns → bucket_at (ns ++ n ∷ []) y ≡ bucket_at ns y
bucket-before ns y n h = ap (λ (m : Node). m.bucket) (get_or_append_left ns (n ∷ []) nowhere y h)

pub lies-add : (s : Lists) (ns : List Node) (n : Node) → Lies s ns → length ns < 2147483648 → n.bucket < 2049
    → Lies (after_push n.bucket (length ns) (after_add s)) (ns ++ n ∷ [])
lies-add s ns n l room b =
    let u : Lists = after_add s in
    let x : ℕ = length ns in
    let within : n.bucket < length u.lists = omega (arith, l.count) in
    let more : length (ns ++ n ∷ []) ≡ length ns + 1 = length-append ns (n ∷ []) in
    record {
      count = length-set u.lists n.bucket (list_of n.bucket u ++ x ∷ []) ∙ l.count;
      size = omega (arith, l.size, more);
      few = omega (arith, more);
      sound = λ a y there.
          pushed-sound n.bucket x a y u within there ((y < length (ns ++ n ∷ [])) × (bucket_at (ns ++ n ∷ []) y ≡ a))
          (λ k. let was = l.sound a y k in (omega (arith, was.0, more), bucket-before ns y n was.0 ∙ was.1))
          (λ e f. (omega (arith, e, more), bucket-seam ns y n e ∙ sym f));
      whole = λ y k.
          elim (cases_eq y x) [
            | inl e ↦
                ap (λ c. has y (list_of c (after_push n.bucket x u))) (bucket-seam ns y n e)
                ∙ ap (λ z. has z (list_of n.bucket (after_push n.bucket x u))) e
                ∙ pushed-has n.bucket x u within
            | inr e ↦
                let h : y < length ns = omega (arith, k, more, e) in
                ap (λ c. has y (list_of c (after_push n.bucket x u))) (bucket-before ns y n h)
                ∙ pushed-whole n.bucket x (bucket_at ns y) y u within (l.whole y h)
          ];
      bound = λ y k.
          elim (cases_eq y x) [
            | inl e ↦ omega (arith, bucket-seam ns y n e, b)
            | inr e ↦ let h : y < length ns = omega (arith, k, more, e) in omega (arith, bucket-before ns y n h, l.bound y h)
          ];
      apart = λ a. pushed-apart n.bucket x u within (lacks-new s ns l) l.apart a;
    }

-- The first of a list
pub first-some : (xs : List ℕ) (x : ℕ) → slice_get xs 0 ≡ Some x → has x xs ≡ true
first-some [] x h = cc
first-some (y ∷ ys) x h = let e : x ≡ y = cc in rw (eq-eqb x y e) refl

pub first-none : (xs : List ℕ) (x : ℕ) → slice_get xs 0 ≡ None → has x xs ≡ true → ⊥
first-none [] x h k = cc
first-none (y ∷ ys) x h k = cc

pub first-of : (s : Lists) (ns : List Node) (a : ℕ) (o : Option ℕ) → Lies s ns → o ≡ slice_get (list_of a s) 0
    → IfSome o (λ x. (x < length ns) × (bucket_at ns x ≡ a))
first-of s ns a None l e = tt
first-of s ns a (Some x) l e = l.sound a x (first-some (list_of a s) x (sym e))

pub none-in : (s : Lists) (ns : List Node) (a : ℕ) (o : Option ℕ) → Lies s ns → o ≡ slice_get (list_of a s) 0
    → o ≡ None → (x : ℕ) → x < length ns → bucket_at ns x ≢ a
none-in s ns a o l e n x h k = first-none (list_of a s) x (sym e ∙ n) (sym (ap (λ c. has x (list_of c s)) k) ∙ l.whole x h)

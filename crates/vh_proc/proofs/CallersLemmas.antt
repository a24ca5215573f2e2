-- Who has called a task or function, and all that come from them.
use Rattle.std.proofs.Common.{◌≡◌, ◌∙◌, ℕ, Bool, true, false, cond, ◌||◌, nat_eq, List, [], ◌∷◌, Option, Some, None, refl, sym, ap, subst}
use Rattle.std.proofs.lemmas.Bool.{eqb-true, eq-eqb}
use Rattle.std.specs.BTreeMap.{is_at}
use Rattle.std.specs.BTreeSet.{BTreeSet, contains}
use Rattle.std.specs.List.{list_any}
use Rattle.std.specs.Map.{lookup}
use Rattle.std.specs.Option.{option_map}
use Rattle.std.specs.Ordering.{nat_cmp}
use Rattle.std.specs.Prelude.{unwrap_or}
use Rattle.vh_proc.specs.declared.families.Families.{Families}
use Rattle.vh_proc.specs.Families.{is_of, is_caller, IsExact, comes_from, ComeFrom}
use Rattle.vh_proc.proofs.SetsLemmas.{at-eq}

abbrev has : ℕ → Option (BTreeSet ℕ) → Bool
has q o = unwrap_or (option_map (λ f. contains nat_cmp f q) o) false

at-same : (k : ℕ) → is_at (nat_cmp k) k ≡ true
at-same k = at-eq k k ∙ eq-eqb k k refl

-- Is a number among these?
abbrev pub holds : List ℕ → ℕ → Bool
holds ps p = list_any (is_at (nat_cmp p)) ps

or-right : (a b : Bool) → b ≡ true → (a || b) ≡ true
or-right true b is = refl
or-right false b is = is

or-false : (a : Bool) → (a || false) ≡ true → a ≡ true
or-false true is = refl
or-false false is = is

-- One number more, of those that come into a set.
or-next : (a b c d : Bool) → d ≡ cond b true a → (d || c) ≡ (a || (b || c))
or-next true true c d is = ap (λ (x : Bool). x || c) is
or-next true false c d is = ap (λ (x : Bool). x || c) is
or-next false true c d is = ap (λ (x : Bool). x || c) is
or-next false false c d is = ap (λ (x : Bool). x || c) is

or-none : (a : Bool) → a ≡ (a || false)
or-none true = refl
or-none false = refl

at-swap : (p q : ℕ) → is_at (nat_cmp p) q ≡ is_at (nat_cmp q) p
at-swap p q = at-eq p q ∙ by (nat_eq p q) (nat_eq q p) refl refl ∙ sym (at-eq q p)
  where
    by : (a b : Bool) → nat_eq p q ≡ a → nat_eq q p ≡ b → nat_eq p q ≡ nat_eq q p
    by true b one two = one ∙ sym (eq-eqb q p (sym (eqb-true p q one)))
    by false true one two = absurd (let agree : nat_eq p q ≡ true = eq-eqb p q (sym (eqb-true q p two)) in cc)
    by false false one two = one ∙ sym two

pub next-in : (p : ℕ) (ps rest : List ℕ) (old new : BTreeSet ℕ) (q : ℕ) → rest ≡ p ∷ ps
    → contains nat_cmp new q ≡ cond (is_at (nat_cmp p) q) true (contains nat_cmp old q)
    → (contains nat_cmp new q || holds ps q) ≡ (contains nat_cmp old q || holds rest q)
next-in p ps rest old new q is more =
    or-next (contains nat_cmp old q) (is_at (nat_cmp q) p) (holds ps q) (contains nat_cmp new q)
    (more ∙ ap (λ (b : Bool). cond b true (contains nat_cmp old q)) (at-swap p q))
    ∙ ap (λ (xs : List ℕ). contains nat_cmp old q || holds xs q) (sym is)

pub no-more : (ps : List ℕ) (all : BTreeSet ℕ) (q : ℕ) → ps ≡ [] → contains nat_cmp all q ≡ (contains nat_cmp all q || holds ps q)
no-more ps all q is = or-none (contains nat_cmp all q) ∙ ap (λ (xs : List ℕ). contains nat_cmp all q || holds xs q) (sym is)

-- What holds of all of a set but those that are left.
abbrev pub AllBut : BTreeSet ℕ → List ℕ → (ℕ → Type 0) → Type 0
AllBut f rest T = (q : ℕ) → contains nat_cmp f q ≡ true → holds rest q ≡ false → T q

pub but-all : (f : BTreeSet ℕ) (rest : List ℕ) (T : ℕ → Type 0) → rest ≡ f.keys → AllBut f rest T
but-all f rest T is = λ q in_it out. let here : holds rest q ≡ true = ap (λ (ks : List ℕ). holds ks q) is ∙ in_it in absurd (cc)

pub but-less : (f : BTreeSet ℕ) (p : ℕ) (ps rest : List ℕ) (T : ℕ → Type 0) → rest ≡ p ∷ ps → T p → AllBut f rest T → AllBut f ps T
but-less f p ps rest T is own before = λ q in_it out. by q in_it out (is_at (nat_cmp q) p) refl
  where
    by : (q : ℕ) → contains nat_cmp f q ≡ true → holds ps q ≡ false → (b : Bool) → is_at (nat_cmp q) p ≡ b → T q
    by q in_it out true at = subst T (sym (eqb-true q p (sym (at-eq q p) ∙ at))) own
    by q in_it out false at =
        before q in_it (ap (λ (ks : List ℕ). holds ks q) is ∙ ap (λ (b : Bool). b || holds ps q) at ∙ out)

pub but-none : (f : BTreeSet ℕ) (rest : List ℕ) (T : ℕ → Type 0) → rest ≡ [] → AllBut f rest T → (q : ℕ) → contains nat_cmp f q ≡ true → T q
but-none f rest T is before q in_it = before q in_it (ap (λ (ks : List ℕ). holds ks q) is)

-- The families of the callers that were gone over are in the set, and nobody else.
pub record HasSome (fs : Families) (r : ℕ) (left : List ℕ) (all : BTreeSet ℕ) : Type 0 where
  pub has : (k p : ℕ) → is_caller fs.callers.entries r k ≡ true → is_of fs.sets.items k p ≡ true → (contains nat_cmp all p || holds left k) ≡ true
  pub only : (p : ℕ) → contains nat_cmp all p ≡ true → comes_from fs r p ≡ true
  pub among : (k : ℕ) → holds left k ≡ true → is_caller fs.callers.entries r k ≡ true

nobody-in : (all : BTreeSet ℕ) (p : ℕ) → all.keys ≡ [] → contains nat_cmp all p ≡ false
nobody-in all p empty = ap (λ (ks : List ℕ). holds ks p) empty

module _ (fs : Families) (r : ℕ) where
  pub none-yet : (rest : List ℕ) (f all : BTreeSet ℕ) → lookup (is_at (nat_cmp r)) fs.callers.entries ≡ Some f → rest ≡ f.keys → all.keys ≡ [] → HasSome fs r rest all
  none-yet rest f all at is empty = record {
    has = λ k p called is_in. or-right (contains nat_cmp all p) (holds rest k) (ap (λ (ks : List ℕ). holds ks k) is ∙ ap (has k) (sym at) ∙ called);
    only = λ p is_in. let out = nobody-in all p empty in absurd (cc);
    among = λ k is_in. ap (has k) at ∙ ap (λ (ks : List ℕ). holds ks k) (sym is) ∙ is_in;
  }

  pub one-more : (k : ℕ) (ks rest : List ℕ) (old new : BTreeSet ℕ) → IsExact fs → rest ≡ k ∷ ks
      → ((p : ℕ) → contains nat_cmp new p ≡ (contains nat_cmp old p || is_of fs.sets.items k p)) → HasSome fs r rest old → HasSome fs r ks new
  one-more k ks rest old new exact is more before = record {
    has = λ n p called is_in.
        has-by n p (contains nat_cmp old p) (is_at (nat_cmp n) k) (holds ks n) refl refl is_in
        (ap (λ (xs : List ℕ). contains nat_cmp old p || holds xs n) (sym is) ∙ before.has n p called is_in);
    only = λ p is_in. only-by p (contains nat_cmp old p) refl (sym (more p) ∙ is_in);
    among = λ n is_in. before.among n (ap (λ (xs : List ℕ). holds xs n) is ∙ or-right (is_at (nat_cmp n) k) (holds ks n) is_in);
  }
    where
      has-by : (n p : ℕ) (a b c : Bool) → contains nat_cmp old p ≡ a → is_at (nat_cmp n) k ≡ b → is_of fs.sets.items n p ≡ true → (a || (b || c)) ≡ true
          → (contains nat_cmp new p || c) ≡ true
      has-by n p true b c was at is_in or = ap (λ (x : Bool). x || c) (more p ∙ ap (λ (x : Bool). x || is_of fs.sets.items k p) was)
      has-by n p false true c was at is_in or =
          let same : n ≡ k = eqb-true n k (sym (at-eq n k) ∙ at) in
          ap (λ (x : Bool). x || c) (more p ∙ or-right (contains nat_cmp old p) (is_of fs.sets.items k p) (subst (λ x. is_of fs.sets.items x p ≡ true) same is_in))
      has-by n p false false c was at is_in or = or-right (contains nat_cmp new p) c or

      first : holds rest k ≡ true
      first = ap (λ (xs : List ℕ). holds xs k) is ∙ ap (λ (b : Bool). b || holds ks k) (at-same k)

      only-by : (p : ℕ) (b : Bool) → contains nat_cmp old p ≡ b → (contains nat_cmp old p || is_of fs.sets.items k p) ≡ true → comes_from fs r p ≡ true
      only-by p true was or = before.only p was
      only-by p false was or =
          let here : is_of fs.sets.items k p ≡ true = ap (λ (b : Bool). b || is_of fs.sets.items k p) (sym was) ∙ or in
          ap (λ (o : Option ℕ). unwrap_or (option_map (λ n. is_caller fs.callers.entries r n) o) false) (exact k p here) ∙ before.among k first

  pub all-in : (rest : List ℕ) (all : BTreeSet ℕ) → rest ≡ [] → HasSome fs r rest all → ComeFrom fs r all
  all-in rest all is some = record {
    has = λ k p called is_in. or-false (contains nat_cmp all p) (ap (λ (ks : List ℕ). contains nat_cmp all p || holds ks k) (sym is) ∙ some.has k p called is_in);
    only = some.only;
  }

  pub none-in : (all : BTreeSet ℕ) → lookup (is_at (nat_cmp r)) fs.callers.entries ≡ None → all.keys ≡ [] → ComeFrom fs r all
  none-in all at empty = record {
    has = λ k p called is_in. let out : is_caller fs.callers.entries r k ≡ false = ap (has k) at in absurd (cc);
    only = λ p is_in. let out = nobody-in all p empty in absurd (cc);
  }

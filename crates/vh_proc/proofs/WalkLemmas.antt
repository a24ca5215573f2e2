-- A walk over a family finds whom a walk over all processes finds.
use Rattle.std.proofs.Common.{◌≡◌, ◌∙◌, ◌<◌, ℕ, Bool, true, false, cond, ◌||◌, nat_eq, nat_lt, List, [], ◌∷◌, ◌++◌, filter, Option, Some, None, IfSome, Less, Equal, Greater, refl, sym, ap, subst, arith}
use Rattle.std.proofs.lemmas.Bool.{eqb-true, eq-eqb, ne_eqb, ltb-true, ltb-false}
use Rattle.std.specs.BTreeMap.{is_at}
use Rattle.std.specs.BTreeSet.{BTreeSet, contains}
use Rattle.std.specs.List.{AllByRecursion, list_any}
use Rattle.std.specs.List.Sorted.{IsStrictlySortedBy}
use Rattle.std.specs.Map.{lookup, keys_of}
use Rattle.std.specs.Cmp.{nat_cmp_is}
use Rattle.std.proofs.lemmas.Map.Keys.{sorted_head, sorted_tail}
use Rattle.std.specs.Ordering.{nat_cmp}
use Rattle.vh_design.specs.Shape.{Shape}
use Rattle.vh_proc_thread.specs.Control.{is_inside}
use Rattle.vh_proc_turn.specs.declared.process.Process.{Process}
use Rattle.vh_proc.specs.Disabled.{Stopped, is_among, is_begun_by, begun_by, with_stopped, stopped_of}
use Rattle.vh_proc.specs.Families.{IsPassed, HasAll}
use Rattle.vh_proc.specs.Views.{nobody, with_noted}
use Rattle.vh_proc.proofs.SetsLemmas.{at-eq}

-- Is a number among these? The entries whose number is.
abbrev holds : List ℕ → ℕ → Bool
holds ps p = list_any (is_at (nat_cmp p)) ps

abbrev pub those : List ℕ → List (ℕ × Process) → List (ℕ × Process)
those ps es = filter (λ e. list_any (is_at (nat_cmp e.0)) ps) es

-- All that are found are in the family.
abbrev AreIn : BTreeSet ℕ → Stopped → Type 0
AreIn f s = (q : ℕ) → (is_among s.ends q || is_among s.leaves q) ≡ true → contains nat_cmp f q ≡ true

not-true : (a : Bool) → (a ≡ true → ⊥) → a ≡ false
not-true true h = absurd (h refl)
not-true false h = refl

not-begun : (f : BTreeSet ℕ) (s : Stopped) (p : ℕ) (o : Option ℕ) → AreIn f s → contains nat_cmp f p ≡ false
    → IfSome o (λ q. contains nat_cmp f q ≡ true → contains nat_cmp f p ≡ true) → is_begun_by s o ≡ false
not-begun f s p None are out apart = refl
not-begun f s p (Some q) are out apart =
    not-true (is_among s.ends q || is_among s.leaves q) (λ h. let agree : contains nat_cmp f p ≡ true = apart (are q h) in absurd (cc))

among-last : (xs : List ℕ) (p q : ℕ) → is_among (xs ++ p ∷ []) q ≡ (is_among xs q || nat_eq p q)
among-last [] p q = either (nat_eq p q)
  where
    either : (b : Bool) → (b || false) ≡ b
    either true = refl
    either false = refl
among-last (x ∷ xs) p q = ap (λ (b : Bool). nat_eq x q || b) (among-last xs p q) ∙ by (nat_eq x q) (is_among xs q) (nat_eq p q)
  where
    by : (a b c : Bool) → (a || (b || c)) ≡ ((a || b) || c)
    by true b c = refl
    by false b c = refl

module _ (d : Shape) (target : ℕ) (f : BTreeSet ℕ) where
  one-more : (p : ℕ) (a b c : Bool) → ((a || c) || b) ≡ true → (c ≡ true → ⊥) → (a || b) ≡ true
  one-more p true b c is differ = refl
  one-more p false b true is differ = absurd (differ refl)
  one-more p false b false is differ = is

  ends-in : (s : Stopped) (p q : ℕ) → AreIn f s → contains nat_cmp f p ≡ true → (is_among (s.ends ++ p ∷ []) q || is_among s.leaves q) ≡ true → contains nat_cmp f q ≡ true
  ends-in s p q are own h = by (nat_eq p q) refl
    where
      by : (b : Bool) → nat_eq p q ≡ b → contains nat_cmp f q ≡ true
      by true is = subst (λ x. contains nat_cmp f x ≡ true) (eqb-true p q is) own
      by false is =
          are q (one-more p (is_among s.ends q) (is_among s.leaves q) (nat_eq p q) (ap (λ (b : Bool). b || is_among s.leaves q) (sym (among-last s.ends p q)) ∙ h)
          (λ agree. let differ : nat_eq p q ≡ false = is in absurd (cc)))

  last-more : (a b c : Bool) → (a || (b || c)) ≡ true → (c ≡ true → ⊥) → (a || b) ≡ true
  last-more true b c is differ = refl
  last-more false true c is differ = refl
  last-more false false true is differ = absurd (differ refl)
  last-more false false false is differ = is

  leaves-in : (s : Stopped) (p q : ℕ) → AreIn f s → contains nat_cmp f p ≡ true → (is_among s.ends q || is_among (s.leaves ++ p ∷ []) q) ≡ true → contains nat_cmp f q ≡ true
  leaves-in s p q are own h = by (nat_eq p q) refl
    where
      by : (b : Bool) → nat_eq p q ≡ b → contains nat_cmp f q ≡ true
      by true is = subst (λ x. contains nat_cmp f x ≡ true) (eqb-true p q is) own
      by false is =
          are q (last-more (is_among s.ends q) (is_among s.leaves q) (nat_eq p q) (ap (λ (b : Bool). is_among s.ends q || b) (sym (among-last s.leaves p q)) ∙ h)
          (λ agree. let differ : nat_eq p q ≡ false = is in absurd (cc)))

  noted-in : (s : Stopped) (p : ℕ) (b c : Bool) → AreIn f s → contains nat_cmp f p ≡ true
      → AreIn f (cond b (record s { ends = s.ends ++ p ∷ [] }) (cond c (record s { leaves = s.leaves ++ p ∷ [] }) s))
  noted-in s p true c are own = λ q h. ends-in s p q are own h
  noted-in s p false true are own = λ q h. leaves-in s p q are own h
  noted-in s p false false are own = are

  passes : (s : Stopped) (p : ℕ) (t : Process) → AreIn f s → contains nat_cmp f p ≡ false → IsPassed d target f p t → with_stopped d target s p t ≡ s
  passes s p t are out passed =
      ap (λ (b : Bool). cond b (record s { ends = s.ends ++ p ∷ [] }) (cond (is_inside d target t.thread) (record s { leaves = s.leaves ++ p ∷ [] }) s))
      (not-begun f s p t.parent are out passed.apart)
      ∙ ap (λ (b : Bool). cond b (record s { leaves = s.leaves ++ p ∷ [] }) s) (passed.outside out)

  skip-by : (e : ℕ × Process) (es : List (ℕ × Process)) (s : Stopped) (b : Bool) → contains nat_cmp f e.0 ≡ b → IsPassed d target f e.0 e.1 → AreIn f s
      → ((r : Stopped) → AreIn f r → stopped_of d target r (those f.keys es) ≡ stopped_of d target r es)
      → stopped_of d target s (cond b (e ∷ those f.keys es) (those f.keys es)) ≡ stopped_of d target (with_stopped d target s e.0 e.1) es
  unfolding stopped_of
  skip-by e es s true is passed are rest = rest (with_stopped d target s e.0 e.1) (noted-in s e.0 (begun_by s e.1) (is_inside d target e.1.thread) are is)
  skip-by e es s false is passed are rest = rest s are ∙ ap (λ (r : Stopped). stopped_of d target r es) (sym (passes s e.0 e.1 are is passed))

  -- Those of the family are enough.
  pub skips : (es : List (ℕ × Process)) (s : Stopped) → HasAll d target f es → AreIn f s → stopped_of d target s (those f.keys es) ≡ stopped_of d target s es
  unfolding stopped_of
  skips [] s all are = refl
  skips (e ∷ es) s all are = skip-by e es s (contains nat_cmp f e.0) refl all.0 are (λ r inside. skips es r all.1 inside)

pub family-enough : (d : Shape) (target : ℕ) (f : BTreeSet ℕ) (es : List (ℕ × Process)) → HasAll d target f es
    → stopped_of d target nobody (those f.keys es) ≡ stopped_of d target nobody es
family-enough d target f es all = skips d target f es nobody all (λ q h. absurd (cc))

-- Numbers that rise.
less-is : (a b : ℕ) → nat_cmp a b ≡ Less → a < b
less-is a b is = by (nat_lt a b) (nat_eq a b) refl is
  where
    by : (x y : Bool) → nat_lt a b ≡ x → cond x Less (cond y Equal Greater) ≡ Less → a < b
    by true y at h = ltb-true a b at
    by false true at h = absurd (cc)
    by false false at h = absurd (cc)

abbrev Above : ℕ → List ℕ → Type 0
Above p ps = AllByRecursion (λ q. nat_cmp p q ≡ Less) ps

-- A number that isn't above another isn't among those that are.
not-among : (p x : ℕ) (ps : List ℕ) → Above p ps → (p < x → ⊥) → holds ps x ≡ false
not-among p x [] above low = refl
not-among p x (q ∷ qs) above low =
    ap (λ (b : Bool). b || holds qs x) (at-eq x q ∙ ne_eqb x q (λ e. low (let less = less-is p q above.0 in omega (arith, less, e))))
    ∙ not-among p x qs above.1 low

-- An entry is kept where its number is among these.
kept-by : (b c : Bool) (e : ℕ × Process) (xs ys : List (ℕ × Process)) → b ≡ c → xs ≡ ys → cond b (e ∷ xs) xs ≡ cond c (e ∷ ys) ys
kept-by b c e xs ys same rest = ap (λ (x : Bool). cond x (e ∷ xs) xs) same ∙ ap (λ (zs : List (ℕ × Process)). cond c (e ∷ zs) zs) rest

-- Entries above a number are kept by the numbers behind it alone.
drops : (p : ℕ) (ps : List ℕ) (es : List (ℕ × Process)) → Above p (keys_of es) → those (p ∷ ps) es ≡ those ps es
drops p ps [] above = refl
drops p ps (e ∷ es) above =
    kept-by (holds (p ∷ ps) e.0) (holds ps e.0) e (those (p ∷ ps) es) (those ps es)
    (ap (λ (b : Bool). b || holds ps e.0) (at-eq e.0 p ∙ ne_eqb e.0 p (λ same. let less = less-is p e.0 above.0 in omega (arith, less, same))))
    (drops p ps es above.1)

-- None of them has the number.
pub none-above : (p : ℕ) (es : List (ℕ × Process)) → Above p (keys_of es) → lookup (is_at (nat_cmp p)) es ≡ None
none-above p [] above = refl
none-above p (e ∷ es) above =
    ap (λ (b : Bool). cond b (Some e.1) (lookup (is_at (nat_cmp p)) es)) (at-eq p e.0 ∙ ne_eqb p e.0 (λ same. let less = less-is p e.0 above.0 in omega (arith, less, same)))
    ∙ none-above p es above.1

less-from : (a b : ℕ) → a < b → nat_cmp a b ≡ Less
less-from a b low = sym (nat_cmp_is a b Less low)

higher : (a b : ℕ) → nat_lt a b ≡ false → nat_eq a b ≡ false → b < a
higher a b low eq = by (nat_lt b a) refl
  where
    by : (x : Bool) → nat_lt b a ≡ x → b < a
    by true is = ltb-true b a is
    by false is =
        let le = ltb-false b a is in
        let ge = ltb-false a b low in
        let same : nat_eq a b ≡ true = eq-eqb a b (omega (arith, le, ge)) in
        absurd (cc)

above-all : (p x : ℕ) (es : List (ℕ × Process)) → p < x → Above x (keys_of es) → Above p (keys_of es)
above-all p x [] low above = tt
above-all p x (e ∷ es) low above = (less-from p e.0 (let high = less-is x e.0 above.0 in omega (arith, low, high)), above-all p x es low above.1)

module _ (d : Shape) (target : ℕ) where
  -- The walk over these numbers: the first one is noted where it's there, and the others are left.
  pub next-of : (p : ℕ) (ps : List ℕ) (es : List (ℕ × Process)) (s : Stopped) → Above p ps → IsStrictlySortedBy nat_cmp (keys_of es)
      → stopped_of d target (with_noted d target s p (lookup (is_at (nat_cmp p)) es)) (those ps es) ≡ stopped_of d target s (those (p ∷ ps) es)
  unfolding stopped_of
  next-of p ps [] s above rise = refl
  next-of p ps (e ∷ es) s above rise =
      by (nat_lt e.0 p) (nat_eq e.0 p) refl refl (next-of p ps es s above (sorted_tail nat_cmp e.0 (keys_of es) rise))
    where
      by : (x y : Bool) → nat_lt e.0 p ≡ x → nat_eq e.0 p ≡ y
          → stopped_of d target (with_noted d target s p (lookup (is_at (nat_cmp p)) es)) (those ps es) ≡ stopped_of d target s (those (p ∷ ps) es)
          → stopped_of d target (with_noted d target s p (lookup (is_at (nat_cmp p)) (e ∷ es))) (those ps (e ∷ es)) ≡ stopped_of d target s (those (p ∷ ps) (e ∷ es))
      by true y low eq rest =
          let below : e.0 < p = ltb-true e.0 p low in
          let out : holds ps e.0 ≡ false = not-among p e.0 ps above (λ h. omega (arith, below, h)) in
          let here : lookup (is_at (nat_cmp p)) (e ∷ es) ≡ lookup (is_at (nat_cmp p)) es =
          ap (λ (b : Bool). cond b (Some e.1) (lookup (is_at (nat_cmp p)) es)) (at-eq p e.0 ∙ ne_eqb p e.0 (λ h. omega (arith, below, h))) in
          let right : holds (p ∷ ps) e.0 ≡ false = ap (λ (b : Bool). b || holds ps e.0) (at-eq e.0 p ∙ ne_eqb e.0 p (λ h. omega (arith, below, h))) ∙ out in
          ap (λ (o : Option Process). stopped_of d target (with_noted d target s p o) (those ps (e ∷ es))) here
          ∙ ap (λ (b : Bool). stopped_of d target (with_noted d target s p (lookup (is_at (nat_cmp p)) es)) (cond b (e ∷ those ps es) (those ps es))) out
          ∙ rest
          ∙ ap (λ (b : Bool). stopped_of d target s (cond b (e ∷ those (p ∷ ps) es) (those (p ∷ ps) es))) (sym right)
      by false true low eq rest =
          let same : e.0 ≡ p = eqb-true e.0 p eq in
          let out : holds ps e.0 ≡ false = not-among p e.0 ps above (λ h. omega (arith, same, h)) in
          let here : lookup (is_at (nat_cmp p)) (e ∷ es) ≡ Some e.1 =
          ap (λ (b : Bool). cond b (Some e.1) (lookup (is_at (nat_cmp p)) es)) (at-eq p e.0 ∙ eq-eqb p e.0 (sym same)) in
          let right : holds (p ∷ ps) e.0 ≡ true = ap (λ (b : Bool). b || holds ps e.0) (at-eq e.0 p ∙ eq) in
          let others : those (p ∷ ps) es ≡ those ps es = drops p ps es (subst (λ x. Above x (keys_of es)) same (sorted_head nat_cmp e.0 (keys_of es) rise)) in
          ap (λ (o : Option Process). stopped_of d target (with_noted d target s p o) (those ps (e ∷ es))) here
          ∙ ap (λ (b : Bool). stopped_of d target (with_stopped d target s p e.1) (cond b (e ∷ those ps es) (those ps es))) out
          ∙ ap (λ x. stopped_of d target (with_stopped d target s x e.1) (those ps es)) (sym same)
          ∙ ap (λ (xs : List (ℕ × Process)). stopped_of d target (with_stopped d target s e.0 e.1) xs) (sym others)
          ∙ ap (λ (b : Bool). stopped_of d target s (cond b (e ∷ those (p ∷ ps) es) (those (p ∷ ps) es))) (sym right)
      by false false low eq rest =
          let high : p < e.0 = higher e.0 p low eq in
          let up : Above p (keys_of (e ∷ es)) = (less-from p e.0 high, above-all p e.0 es high (sorted_head nat_cmp e.0 (keys_of es) rise)) in
          ap (λ (o : Option Process). stopped_of d target (with_noted d target s p o) (those ps (e ∷ es))) (none-above p (e ∷ es) up)
          ∙ ap (λ (xs : List (ℕ × Process)). stopped_of d target s xs) (sym (drops p ps (e ∷ es) up))

-- Nobody is among differ numbers.
pub none-left : (es : List (ℕ × Process)) → those [] es ≡ []
none-left [] = refl
none-left (e ∷ es) = none-left es

pub ended : (d : Shape) (target : ℕ) (s : Stopped) (ks : List ℕ) (es : List (ℕ × Process)) → ks ≡ [] → stopped_of d target s (those ks es) ≡ s
unfolding stopped_of
ended d target s ks es is = ap (λ (ps : List ℕ). stopped_of d target s (those ps es)) is ∙ ap (λ (xs : List (ℕ × Process)). stopped_of d target s xs) (none-left es)

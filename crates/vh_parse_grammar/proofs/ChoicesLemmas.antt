-- Where each choice is made right at each token, the classes add nothing to the grammar: they are the
-- first tokens of what is chosen, and without them the same tokens are spelled and begun.
use Rattle.std.proofs.Common.{◌≡◌, ℕ, zero, suc, ◌+◌, ◌<◌, ◌≤◌, Bool, true, false, List, [], ◌∷◌, length, ◌⊎◌, inl, inr, ◌↔◌, refl, sym, ap, ◌∙◌, arith}
use Rattle.vh_parse_grammar.specs.Part.{Part, done, tok, seq, bind, act, alt, rep, iter, nested, unless, barred}
use Rattle.vh_parse_grammar.specs.Reading.{got, next_is}
use Rattle.vh_parse_grammar.specs.Firsts.{without_token, first, first_at}
use Rattle.vh_parse_grammar.specs.Sentences.{Repeats, AfterTurns, ReadsAt, BeginsAt}
use Rattle.vh_parse_grammar.specs.Conditions.{eats, Advances}
use Rattle.vh_parse_grammar.specs.Language.{Spells, Opens, SpellsAt, OpensAt}
use Rattle.vh_parse_grammar.specs.Choices.{Heeds, IsFirst, ChoosesByFirsts}
use Rattle.vh_parse_grammar.proofs.Size.{weight, Sized}
use Rattle.vh_parse_grammar.proofs.Parts.{On, Begun, size-part, tree-part, begins-none}
use Rattle.vh_parse_grammar.proofs.FirstsLemmas.{and-second, next-same, Takes, reads-takes, begins-first, first-begins, production-takes, production-first, production-begins}

repeats-map : {T A : Type 0} (I J : A → List T → List T → Type 0) (E F : List T → Type 0) → ((a : A) (m r : List T) → I a m r → J a m r) → ((m : List T) → E m → F m) → (list : List A) (ts rest : List T) → Repeats I E list ts rest → Repeats J F list ts rest
repeats-map I J E F f g [] ts rest h = (h.0, g ts h.1)
repeats-map I J E F f g (a ∷ more) ts rest h = (h.0, f a ts h.0 h.1, repeats-map I J E F f g more h.0 rest h.2)

turns-map : {T S : Type 0} (I J : S → S → List T → List T → Type 0) (E F : S → List T → Type 0) → ((u v : S) (m r : List T) → I u v m r → J u v m r) → ((u : S) (m : List T) → E u m → F u m) → (n : ℕ) (s : S) (ts : List T) → AfterTurns I E n s ts → AfterTurns J F n s ts
turns-map I J E F f g zero s ts h = g s ts h
turns-map I J E F f g (suc n) s ts h = (h.0, h.1, f s h.0 ts h.1 h.2, turns-map I J E F f g n h.0 h.1 h.3)

module _ {T P : Type 0} {V : P → Type 0} (grammar : (p : P) → Part T V (V p)) (eating : (p : P) → eats (grammar p) ≡ true) (advancing : (p : P) → Advances (grammar p)) (reach : ℕ) (settled : (p : P) (t : T) → first_at grammar (suc reach) p t ≡ first_at grammar reach p t) (heeding : (p : P) (t : T) → Heeds (first_at grammar reach) (grammar p) t) where
  abbrev F : P → T → Bool
  F = first_at grammar reach

  takes : {A : Type 0} (n : ℕ) (p : Part T V A) → ((t : T) → Heeds F p t) → (a : A) (ts rest : List T) → On grammar n p a ts rest → Takes (without_token p) (first F p) a ts rest
  takes n p h a ts rest r = reads-takes grammar reach settled (ReadsAt grammar n) (production-takes grammar reach settled eating advancing heeding n) p h a ts rest r

  next-begun : {A : Type 0} (n : ℕ) (p : Part T V A) → ((t : T) → Heeds F p t) → (t : T) (m : List T) → Begun grammar n p (t ∷ m) → first F p t ≡ true
  next-begun n p h t m b = begins-first grammar reach settled (ReadsAt grammar n) (production-takes grammar reach settled eating advancing heeding n) (BeginsAt grammar n) (production-first grammar reach settled eating advancing heeding n) p h t m b

  begun-next : {A : Type 0} (p : Part T V A) → ((t : T) → Heeds F p t) → (t : T) → first F p t ≡ true → Begun grammar reach p (t ∷ [])
  begun-next p h t e = first-begins grammar reach settled (ReadsAt grammar reach) (BeginsAt grammar reach) F (λ p t d. d) (production-begins grammar reach settled eating advancing heeding reach) p h t e

  -- a part that takes a token
  next-taken : {A : Type 0} (n : ℕ) (p : Part T V A) → ((t : T) → Heeds F p t) → (a : A) (ts rest : List T) → length rest < length ts → On grammar n p a ts rest → next_is (first F p) ts ≡ true
  next-taken n p h a ts rest l r = go (takes n p h a ts rest r)
    where
      go : Takes (without_token p) (first F p) a ts rest → next_is (first F p) ts ≡ true
      go (inl d) = let e : length rest ≡ length ts = ap length d.0 in absurd (omega arith)
      go (inr d) = d.1

  next-tree : {A : Type 0} (n : ℕ) (p : Part T V A) → Advances p → ((t : T) → Heeds F p t) → eats p ≡ true → (a : A) (ts rest : List T) → On grammar n p a ts rest → next_is (first F p) ts ≡ true
  next-tree {A} n p v h e a ts rest r = next-taken n p h a ts rest (go (rw (tree-part grammar eating advancing n p v a ts rest r) at (size-part grammar eating advancing n p ts))) r
    where
      go : Sized (weight (eats p)) ts (got a rest) → length rest < length ts
      go s = let l : 1 + length rest ≤ length ts = rw e at s in omega arith

  -- a part that was chosen by its class
  taken-next : {A : Type 0} (n : ℕ) (p : Part T V A) → ((t : T) → Heeds F p t) → (a : A) (ts rest : List T) → next_is (first F p) ts ≡ true → On grammar n p a ts rest → length rest < length ts
  taken-next n p h a ts rest c r = go (takes n p h a ts rest r)
    where
      go : Takes (without_token p) (first F p) a ts rest → length rest < length ts
      go (inl d) = let e : next_is (first F p) ts ≡ false = d.2 in cc
      go (inr d) = d.0

  -- the classes are the first tokens
  class-firsts : {A : Type 0} (p : Part T V A) → ((t : T) → Heeds F p t) → (class : T → Bool) → ((t : T) → class t ≡ first F p t) → (t : T) → (class t ≡ true) ↔ IsFirst grammar p t
  class-firsts p h class c t = (λ e. (reach, begun-next p h t (sym (c t) ∙ e)), λ f. c t ∙ next-begun f.0 p h t [] f.1)

  pub chooses : {A : Type 0} (p : Part T V A) → ((t : T) → Heeds F p t) → ChoosesByFirsts grammar p
  chooses (done a) h = tt
  chooses (tok meaning) h = tt
  chooses (seq p q) h = (chooses p (λ t. (h t).1), chooses q (λ t. (h t).2))
  chooses (bind p q) h = (chooses p (λ t. (h t).1), λ a. chooses (q a) (λ t. (h t).2 a))
  chooses (act f p) h = chooses p h
  chooses (alt class p q) h = (class-firsts p (λ t. (h t).2) class (λ t. (h t).0), chooses p (λ t. (h t).2), chooses q (λ t. (h t).3))
  chooses (rep class p) h = (class-firsts p (λ t. (h t).1) class (λ t. (h t).0), chooses p (λ t. (h t).1))
  chooses (iter class part s) h = λ u. (class-firsts (part u) (λ t. (h t u).1) (class u) (λ t. (h t u).0), chooses (part u) (λ t. (h t u).1))
  chooses (nested p) h = tt
  chooses (unless class p) h = chooses p h
  chooses (barred class p) h = chooses p h

  module _ (n : ℕ) (S : (p : P) → V p → List T → List T → Type 0) (O : (p : P) → List T → Type 0) where
    abbrev Spelled : {A : Type 0} → Part T V A → A → List T → List T → Type 0
    Spelled p a ts rest = Spells F S p a ts rest

    abbrev Opened : {A : Type 0} → Part T V A → List T → Type 0
    Opened p ts = Opens F S O p ts

    module _ (nested-reads : (p : P) (a : V p) (ts rest : List T) → S p a ts rest → ReadsAt grammar n p a ts rest) where
      pub to-reads : {A : Type 0} (p : Part T V A) → Advances p → ((t : T) → Heeds F p t) → (a : A) (ts rest : List T) → Spelled p a ts rest → On grammar n p a ts rest
      to-reads (done b) v h a ts rest s = s
      to-reads (tok meaning) v h a ts rest s = s
      to-reads (seq p q) v h a ts rest s = (s.0, to-reads p v.0 (λ t. (h t).1) a.0 ts s.0 s.1, to-reads q v.1 (λ t. (h t).2) a.1 s.0 rest s.2)
      to-reads (bind p q) v h b ts rest s = (s.0, s.1, to-reads p v.0 (λ t. (h t).1) s.0 ts s.1 s.2, to-reads (q s.0) (v.1 s.0) (λ t. (h t).2 s.0) b s.1 rest s.3)
      to-reads (act f p) v h b ts rest s = (s.0, s.1, to-reads p v h s.0 ts rest s.2)
      to-reads (alt class p q) v h a ts rest (inl s) =
          let r : On grammar n p a ts rest = to-reads p v.0 (λ t. (h t).2) a ts rest s.1 in
          inl (next-same class (first F p) (λ t. (h t).0) ts ∙ next-taken n p (λ t. (h t).2) a ts rest s.0 r, r)
      to-reads (alt class p q) v h a ts rest (inr s) = inr (next-same class (first F p) (λ t. (h t).0) ts ∙ s.0, to-reads q v.1 (λ t. (h t).3) a ts rest s.1)
      to-reads (rep class p) v h list ts rest s =
          repeats-map (Spelled p) (λ a m r. (next_is class m ≡ true) × On grammar n p a m r) (λ m. next_is (first F p) m ≡ false) (λ m. next_is class m ≡ false)
          (λ a m r i. let k : On grammar n p a m r = to-reads p v.1 (λ t. (h t).1) a m r i in (next-same class (first F p) (λ t. (h t).0) m ∙ next-tree n p v.1 (λ t. (h t).1) v.0 a m r k, k))
          (λ m e. next-same class (first F p) (λ t. (h t).0) m ∙ e)
          list ts rest s
      to-reads (iter class part s0) v h a ts rest s = (
        s.0,
        turns-map (λ u w m r. Spelled (part u) w m r) (λ u w m r. (next_is (class u) m ≡ true) × On grammar n (part u) w m r)
            (λ u m. (a ≡ u) × (rest ≡ m) × (next_is (first F (part u)) m ≡ false)) (λ u m. (a ≡ u) × (rest ≡ m) × (next_is (class u) m ≡ false))
            (λ u w m r i. let k : On grammar n (part u) w m r = to-reads (part u) (v u).1 (λ t. (h t u).1) w m r i in (next-same (class u) (first F (part u)) (λ t. (h t u).0) m ∙ next-tree n (part u) (v u).1 (λ t. (h t u).1) (v u).0 w m r k, k))
            (λ u m e. (e.0, e.1, next-same (class u) (first F (part u)) (λ t. (h t u).0) m ∙ e.2))
            s.0 s0 ts s.1,
      )
      to-reads (nested p) v h a ts rest s = nested-reads p a ts rest s
      to-reads (unless class p) v h a ts rest s = to-reads p v h a ts rest s
      to-reads (barred class p) v h a ts rest s = to-reads p v h a ts rest s

    module _ (nested-spells : (p : P) (a : V p) (ts rest : List T) → ReadsAt grammar n p a ts rest → S p a ts rest) where
      pub from-reads : {A : Type 0} (p : Part T V A) → Advances p → ((t : T) → Heeds F p t) → (a : A) (ts rest : List T) → On grammar n p a ts rest → Spelled p a ts rest
      from-reads (done b) v h a ts rest s = s
      from-reads (tok meaning) v h a ts rest s = s
      from-reads (seq p q) v h a ts rest s = (s.0, from-reads p v.0 (λ t. (h t).1) a.0 ts s.0 s.1, from-reads q v.1 (λ t. (h t).2) a.1 s.0 rest s.2)
      from-reads (bind p q) v h b ts rest s = (s.0, s.1, from-reads p v.0 (λ t. (h t).1) s.0 ts s.1 s.2, from-reads (q s.0) (v.1 s.0) (λ t. (h t).2 s.0) b s.1 rest s.3)
      from-reads (act f p) v h b ts rest s = (s.0, s.1, from-reads p v h s.0 ts rest s.2)
      from-reads (alt class p q) v h a ts rest (inl s) = inl (taken-next n p (λ t. (h t).2) a ts rest (sym (next-same class (first F p) (λ t. (h t).0) ts) ∙ s.0) s.1, from-reads p v.0 (λ t. (h t).2) a ts rest s.1)
      from-reads (alt class p q) v h a ts rest (inr s) = inr (sym (next-same class (first F p) (λ t. (h t).0) ts) ∙ s.0, from-reads q v.1 (λ t. (h t).3) a ts rest s.1)
      from-reads (rep class p) v h list ts rest s =
          repeats-map (λ a m r. (next_is class m ≡ true) × On grammar n p a m r) (Spelled p) (λ m. next_is class m ≡ false) (λ m. next_is (first F p) m ≡ false)
          (λ a m r i. from-reads p v.1 (λ t. (h t).1) a m r i.1)
          (λ m e. sym (next-same class (first F p) (λ t. (h t).0) m) ∙ e)
          list ts rest s
      from-reads (iter class part s0) v h a ts rest s = (
        s.0,
        turns-map (λ u w m r. (next_is (class u) m ≡ true) × On grammar n (part u) w m r) (λ u w m r. Spelled (part u) w m r)
            (λ u m. (a ≡ u) × (rest ≡ m) × (next_is (class u) m ≡ false)) (λ u m. (a ≡ u) × (rest ≡ m) × (next_is (first F (part u)) m ≡ false))
            (λ u w m r i. from-reads (part u) (v u).1 (λ t. (h t u).1) w m r i.1)
            (λ u m e. (e.0, e.1, sym (next-same (class u) (first F (part u)) (λ t. (h t u).0) m) ∙ e.2))
            s.0 s0 ts s.1,
      )
      from-reads (nested p) v h a ts rest s = nested-spells p a ts rest s
      from-reads (unless class p) v h a ts rest s = from-reads p v h a ts rest s
      from-reads (barred class p) v h a ts rest s = from-reads p v h a ts rest s

    module _ (nested-reads : (p : P) (a : V p) (ts rest : List T) → S p a ts rest → ReadsAt grammar n p a ts rest) (nested-begins : (p : P) (ts : List T) → O p ts → BeginsAt grammar n p ts) where
      alt-first : {A : Type 0} (class : T → Bool) (p q : Part T V A) → Advances (alt class p q) → ((t : T) → Heeds F (alt class p q) t) → (ts : List T) → Begun grammar n p ts → Begun grammar n (alt class p q) ts
      alt-first class p q v h [] b = inr (refl, begins-none grammar eating advancing n q v.1)
      alt-first class p q v h (t ∷ m) b = inl ((h t).0 ∙ next-begun n p (λ t. (h t).2) t m b, b)

      alt-second : {A : Type 0} (class : T → Bool) (p q : Part T V A) → Advances (alt class p q) → ((t : T) → Heeds F (alt class p q) t) → (ts : List T) → Begun grammar n q ts → Begun grammar n (alt class p q) ts
      alt-second class p q v h [] b = inr (refl, b)
      alt-second class p q v h (t ∷ m) b = inr (and-second (first F q t) (class t) (h t).1 (next-begun n q (λ t. (h t).3) t m b), b)

      turn-end : {A : Type 0} (class : T → Bool) (p : Part T V A) → ((t : T) → Heeds F p t) → ((t : T) → class t ≡ first F p t) → (ts : List T) → Begun grammar n p ts → (ts ≡ []) ⊎ ((next_is class ts ≡ true) × Begun grammar n p ts)
      turn-end class p h c [] b = inl refl
      turn-end class p h c (t ∷ m) b = inr (c t ∙ next-begun n p h t m b, b)

      pub to-begins : {A : Type 0} (p : Part T V A) → Advances p → ((t : T) → Heeds F p t) → (ts : List T) → Opened p ts → Begun grammar n p ts
      to-begins (done a) v h ts o = o
      to-begins (tok meaning) v h ts o = o
      to-begins (seq p q) v h ts (inl o) = inl (to-begins p v.0 (λ t. (h t).1) ts o)
      to-begins (seq p q) v h ts (inr o) = inr (o.0, o.1, to-reads nested-reads p v.0 (λ t. (h t).1) o.0 ts o.1 o.2, to-begins q v.1 (λ t. (h t).2) o.1 o.3)
      to-begins (bind p q) v h ts (inl o) = inl (to-begins p v.0 (λ t. (h t).1) ts o)
      to-begins (bind p q) v h ts (inr o) = inr (o.0, o.1, to-reads nested-reads p v.0 (λ t. (h t).1) o.0 ts o.1 o.2, to-begins (q o.0) (v.1 o.0) (λ t. (h t).2 o.0) o.1 o.3)
      to-begins (act f p) v h ts o = to-begins p v h ts o
      to-begins (alt class p q) v h ts (inl o) = alt-first class p q v h ts (to-begins p v.0 (λ t. (h t).2) ts o)
      to-begins (alt class p q) v h ts (inr o) = alt-second class p q v h ts (to-begins q v.1 (λ t. (h t).3) ts o)
      to-begins (rep {A} class p) v h ts o = (
        o.0,
        turns-map {S = Unit {0}} (λ _ _ m r. (a : A) × Spelled p a m r) (λ _ _ m r. (next_is class m ≡ true) × ((a : A) × On grammar n p a m r)) (λ _ m. (m ≡ []) ⊎ Opened p m) (λ _ m. (m ≡ []) ⊎ ((next_is class m ≡ true) × Begun grammar n p m))
            (λ _ _ m r i. let k : On grammar n p i.0 m r = to-reads nested-reads p v.1 (λ t. (h t).1) i.0 m r i.1 in (next-same class (first F p) (λ t. (h t).0) m ∙ next-tree n p v.1 (λ t. (h t).1) v.0 i.0 m r k, (i.0, k)))
            (λ _ m e. elim e [ inl z ↦ inl z | inr z ↦ turn-end class p (λ t. (h t).1) (λ t. (h t).0) m (to-begins p v.1 (λ t. (h t).1) m z) ])
            o.0 tt ts o.1,
      )
      to-begins (iter class part s0) v h ts o = (
        o.0,
        turns-map (λ u w m r. Spelled (part u) w m r) (λ u w m r. (next_is (class u) m ≡ true) × On grammar n (part u) w m r) (λ u m. (m ≡ []) ⊎ Opened (part u) m) (λ u m. (m ≡ []) ⊎ ((next_is (class u) m ≡ true) × Begun grammar n (part u) m))
            (λ u w m r i. let k : On grammar n (part u) w m r = to-reads nested-reads (part u) (v u).1 (λ t. (h t u).1) w m r i in (next-same (class u) (first F (part u)) (λ t. (h t u).0) m ∙ next-tree n (part u) (v u).1 (λ t. (h t u).1) (v u).0 w m r k, k))
            (λ u m e. elim e [ inl z ↦ inl z | inr z ↦ turn-end (class u) (part u) (λ t. (h t u).1) (λ t. (h t u).0) m (to-begins (part u) (v u).1 (λ t. (h t u).1) m z) ])
            o.0 s0 ts o.1,
      )
      to-begins (nested p) v h ts o = nested-begins p ts o
      to-begins (unless class p) v h ts o = to-begins p v h ts o
      to-begins (barred class p) v h ts o = to-begins p v h ts o

    module _ (nested-spells : (p : P) (a : V p) (ts rest : List T) → ReadsAt grammar n p a ts rest → S p a ts rest) (nested-opens : (p : P) (ts : List T) → BeginsAt grammar n p ts → O p ts) where
      pub from-begins : {A : Type 0} (p : Part T V A) → Advances p → ((t : T) → Heeds F p t) → (ts : List T) → Begun grammar n p ts → Opened p ts
      from-begins (done a) v h ts b = b
      from-begins (tok meaning) v h ts b = b
      from-begins (seq p q) v h ts (inl b) = inl (from-begins p v.0 (λ t. (h t).1) ts b)
      from-begins (seq p q) v h ts (inr b) = inr (b.0, b.1, from-reads nested-spells p v.0 (λ t. (h t).1) b.0 ts b.1 b.2, from-begins q v.1 (λ t. (h t).2) b.1 b.3)
      from-begins (bind p q) v h ts (inl b) = inl (from-begins p v.0 (λ t. (h t).1) ts b)
      from-begins (bind p q) v h ts (inr b) = inr (b.0, b.1, from-reads nested-spells p v.0 (λ t. (h t).1) b.0 ts b.1 b.2, from-begins (q b.0) (v.1 b.0) (λ t. (h t).2 b.0) b.1 b.3)
      from-begins (act f p) v h ts b = from-begins p v h ts b
      from-begins (alt class p q) v h ts (inl b) = inl (from-begins p v.0 (λ t. (h t).2) ts b.1)
      from-begins (alt class p q) v h ts (inr b) = inr (from-begins q v.1 (λ t. (h t).3) ts b.1)
      from-begins (rep {A} class p) v h ts b = (
        b.0,
        turns-map {S = Unit {0}} (λ _ _ m r. (next_is class m ≡ true) × ((a : A) × On grammar n p a m r)) (λ _ _ m r. (a : A) × Spelled p a m r) (λ _ m. (m ≡ []) ⊎ ((next_is class m ≡ true) × Begun grammar n p m)) (λ _ m. (m ≡ []) ⊎ Opened p m)
            (λ _ _ m r i. (i.1.0, from-reads nested-spells p v.1 (λ t. (h t).1) i.1.0 m r i.1.1))
            (λ _ m e. elim e [ inl z ↦ inl z | inr z ↦ inr (from-begins p v.1 (λ t. (h t).1) m z.1) ])
            b.0 tt ts b.1,
      )
      from-begins (iter class part s0) v h ts b = (
        b.0,
        turns-map (λ u w m r. (next_is (class u) m ≡ true) × On grammar n (part u) w m r) (λ u w m r. Spelled (part u) w m r) (λ u m. (m ≡ []) ⊎ ((next_is (class u) m ≡ true) × Begun grammar n (part u) m)) (λ u m. (m ≡ []) ⊎ Opened (part u) m)
            (λ u w m r i. from-reads nested-spells (part u) (v u).1 (λ t. (h t u).1) w m r i.1)
            (λ u m e. elim e [ inl z ↦ inl z | inr z ↦ inr (from-begins (part u) (v u).1 (λ t. (h t u).1) m z.1) ])
            b.0 s0 ts b.1,
      )
      from-begins (nested p) v h ts b = nested-opens p ts b
      from-begins (unless class p) v h ts b = from-begins p v h ts b
      from-begins (barred class p) v h ts b = from-begins p v h ts b

  pub spells-reads : (n : ℕ) (p : P) (a : V p) (ts rest : List T) → SpellsAt F grammar n p a ts rest → ReadsAt grammar n p a ts rest
  spells-reads zero p a ts rest s = s
  spells-reads (suc n) p a ts rest s = to-reads n (SpellsAt F grammar n) (OpensAt F grammar n) (spells-reads n) (grammar p) (advancing p) (heeding p) a ts rest s

  pub reads-spells : (n : ℕ) (p : P) (a : V p) (ts rest : List T) → ReadsAt grammar n p a ts rest → SpellsAt F grammar n p a ts rest
  reads-spells zero p a ts rest s = s
  reads-spells (suc n) p a ts rest s = from-reads n (SpellsAt F grammar n) (OpensAt F grammar n) (reads-spells n) (grammar p) (advancing p) (heeding p) a ts rest s

  pub opens-begins : (n : ℕ) (p : P) (ts : List T) → OpensAt F grammar n p ts → BeginsAt grammar n p ts
  opens-begins zero p ts o = o
  opens-begins (suc n) p ts o = to-begins n (SpellsAt F grammar n) (OpensAt F grammar n) (spells-reads n) (opens-begins n) (grammar p) (advancing p) (heeding p) ts o

  pub begins-opens : (n : ℕ) (p : P) (ts : List T) → BeginsAt grammar n p ts → OpensAt F grammar n p ts
  begins-opens zero p ts o = o
  begins-opens (suc n) p ts o = from-begins n (SpellsAt F grammar n) (OpensAt F grammar n) (reads-spells n) (begins-opens n) (grammar p) (advancing p) (heeding p) ts o

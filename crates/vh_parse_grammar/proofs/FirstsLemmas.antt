-- The first sets are the tokens with which a part begins, and a part that takes none is known.
use Rattle.std.proofs.Common.{◌≡◌, ℕ, zero, suc, ◌+◌, ◌<◌, ◌≤◌, Bool, true, false, ◌&&◌, ◌||◌, is_some, Option, Some, None, option_map, List, [], ◌∷◌, length, ◌⊎◌, inl, inr, refl, sym, ap, ◌∙◌, arith, add_comm, suc-add, zero-add}
use Rattle.vh_parse_grammar.specs.Part.{Part, done, tok, seq, bind, act, alt, rep, iter, nested, unless, barred}
use Rattle.vh_parse_grammar.specs.Reading.{next_is}
use Rattle.vh_parse_grammar.specs.Firsts.{behind, both, decided, without_token, first, first_at}
use Rattle.vh_parse_grammar.specs.Sentences.{Repeats, AfterTurns, Reads, Begins, ReadsAt, BeginsAt}
use Rattle.vh_parse_grammar.specs.Conditions.{eats, Advances}
use Rattle.vh_parse_grammar.specs.Choices.{Heeds}
use Rattle.vh_parse_grammar.proofs.Size.{size-reader}
use Rattle.vh_parse_grammar.proofs.Outcomes.{one, reader-tree}

pub or-left : (a b : Bool) → a ≡ true → (a || b) ≡ true
or-left true b e = refl
or-left false b e = cc

pub or-right : (a b : Bool) → b ≡ true → (a || b) ≡ true
or-right true b e = refl
or-right false b e = e

or-cases : (a b : Bool) → (a || b) ≡ true → (a ≡ true) ⊎ ((a ≡ false) × (b ≡ true))
or-cases true b e = inl refl
or-cases false b e = inr (refl, e)

or-false : (a b : Bool) → (a || b) ≡ false → (a ≡ false) × (b ≡ false)
or-false true b e = cc
or-false false b e = (refl, e)

pub and-second : (a b : Bool) → (a && b) ≡ false → a ≡ true → b ≡ false
and-second false b e h = cc
and-second true b e h = e

true-false : (b : Bool) → b ≡ true → b ≡ false → ⊥
true-false b e d = cc

behind-some : {A : Type 0} (o : Option A) (f : A → Bool) → behind o f ≡ true → (a : A) × (o ≡ Some a) × (f a ≡ true)
behind-some None f e = cc
behind-some (Some a) f e = (a, refl, e)

both-some : {A B : Type 0} (x : Option A) (y : Option B) (p : A × B) → both x y ≡ Some p → (x ≡ Some p.0) × (y ≡ Some p.1)
both-some None y p e = cc
both-some (Some a) None p e = cc
both-some (Some a) (Some b) p e = (cc, cc)

decided-some : {A B : Type 0} (x : Option A) (f : A → Option B) (b : B) → decided x f ≡ Some b → (a : A) × (x ≡ Some a) × (f a ≡ Some b)
decided-some None f b e = cc
decided-some (Some a) f b e = (a, refl, e)

map-some : {A B : Type 0} (f : A → B) (x : Option A) (b : B) → option_map f x ≡ Some b → (a : A) × (x ≡ Some a) × (b ≡ f a)
map-some f None b e = cc
map-some f (Some a) b e = (a, refl, cc)

some-same : {A : Type 0} (a b : A) → Some a ≡ Some b → b ≡ a
some-same a b e = cc

pub next-same : {T : Type 0} (f g : T → Bool) → ((t : T) → f t ≡ g t) → (ts : List T) → next_is f ts ≡ next_is g ts
next-same f g h [] = refl
next-same f g h (t ∷ ts) = h t

next-left : {T : Type 0} (f g : T → Bool) (ts : List T) → next_is f ts ≡ true → next_is (λ t. f t || g t) ts ≡ true
next-left f g [] e = e
next-left f g (t ∷ ts) e = or-left (f t) (g t) e

next-right : {T : Type 0} (f g : T → Bool) (ts : List T) → next_is g ts ≡ true → next_is (λ t. f t || g t) ts ≡ true
next-right f g [] e = e
next-right f g (t ∷ ts) e = or-right (f t) (g t) e

next-none : {T : Type 0} (f g : T → Bool) (ts : List T) → next_is f ts ≡ false → next_is g ts ≡ false → next_is (λ t. f t || g t) ts ≡ false
next-none f g [] e d = refl
next-none f g (t ∷ ts) e d = rw (e, d) refl

-- After a part that took no token, or one
abbrev pub Takes : {T A : Type 0} → Option A → (T → Bool) → A → List T → List T → Type 0
Takes w f a ts rest = ((rest ≡ ts) × (w ≡ Some a) × (next_is f ts ≡ false)) ⊎ ((length rest < length ts) × (next_is f ts ≡ true))

takes-le : {T A : Type 0} (w : Option A) (f : T → Bool) (a : A) (ts rest : List T) → Takes w f a ts rest → length rest ≤ length ts
takes-le w f a ts rest (inl h) = rw h.0 (omega arith)
takes-le w f a ts rest (inr h) = let l : length rest < length ts = h.0 in omega arith

same-length : {T : Type 0} (xs ys : List T) → xs ≡ ys → length xs ≡ length ys
same-length xs ys e = ap length e

takes-then : {T A B C : Type 0} (w : Option A) (f : T → Bool) (a : A) (u : A → Option B) (g : A → T → Bool) (b : B) (v : Option C) (c : C) (ts mid rest : List T) → ((w ≡ Some a) → (u a ≡ Some b) → v ≡ Some c) → Takes w f a ts mid → Takes (u a) (g a) b mid rest → Takes v (λ t. f t || behind w (λ a. g a t)) c ts rest
takes-then {T} {A} w f a u g b v c ts mid rest k (inl h) (inl d) = inl (d.0 ∙ h.0, k h.1 d.1, next-none f (λ t. behind w (λ a. g a t)) ts h.2 (rw h.1 (rw h.0 at d.2)))
takes-then {T} {A} w f a u g b v c ts mid rest k (inl h) (inr d) = let e : length mid ≡ length ts = same-length mid ts h.0 in let l : length rest < length mid = d.0 in inr (omega arith, next-right f (λ t. behind w (λ a. g a t)) ts (rw h.1 (rw h.0 at d.1)))
takes-then w f a u g b v c ts mid rest k (inr h) d = let l : length mid < length ts = h.0 in let m : length rest ≤ length mid = takes-le (u a) (g a) b mid rest d in inr (omega arith, next-left f (λ t. behind w (λ a. g a t)) ts h.1)

-- More first tokens of productions make more of parts
behind-more : {A : Type 0} (o : Option A) (f g : A → Bool) → ((a : A) → f a ≡ true → g a ≡ true) → behind o f ≡ true → behind o g ≡ true
behind-more None f g h e = e
behind-more (Some a) f g h e = h a e

or-more : (a b c d : Bool) → (a ≡ true → c ≡ true) → (b ≡ true → d ≡ true) → (a || b) ≡ true → (c || d) ≡ true
or-more true b c d f g e = or-left c d (f refl)
or-more false b c d f g e = or-right c d (g e)

module _ {T P : Type 0} {V : P → Type 0} where
  first-more : (F G : P → T → Bool) → ((p : P) (t : T) → F p t ≡ true → G p t ≡ true) → {A : Type 0} (p : Part T V A) (t : T) → first F p t ≡ true → first G p t ≡ true
  first-more F G h (done a) t e = e
  first-more F G h (tok meaning) t e = e
  first-more F G h (seq p q) t e = or-more (first F p t) (behind (without_token p) (λ _. first F q t)) (first G p t) (behind (without_token p) (λ _. first G q t)) (first-more F G h p t) (behind-more (without_token p) (λ _. first F q t) (λ _. first G q t) (λ _. first-more F G h q t)) e
  first-more F G h (bind p q) t e = or-more (first F p t) (behind (without_token p) (λ a. first F (q a) t)) (first G p t) (behind (without_token p) (λ a. first G (q a) t)) (first-more F G h p t) (behind-more (without_token p) (λ a. first F (q a) t) (λ a. first G (q a) t) (λ a. first-more F G h (q a) t)) e
  first-more F G h (act f p) t e = first-more F G h p t e
  first-more F G h (alt class p q) t e = or-more (first F p t) (first F q t) (first G p t) (first G q t) (first-more F G h p t) (first-more F G h q t) e
  first-more F G h (rep class p) t e = first-more F G h p t e
  first-more F G h (iter class part s) t e = first-more F G h (part s) t e
  first-more F G h (nested p) t e = h p t e
  first-more F G h (unless class p) t e = first-more F G h p t e
  first-more F G h (barred class p) t e = first-more F G h p t e

module _ {T P : Type 0} {V : P → Type 0} (grammar : (p : P) → Part T V (V p)) where
  one-more : (n : ℕ) (p : P) (t : T) → first_at grammar n p t ≡ true → first_at grammar (suc n) p t ≡ true
  one-more zero p t e = cc
  one-more (suc n) p t e = first-more (first_at grammar n) (first_at grammar (suc n)) (one-more n) (grammar p) t e

  some-more : (k n : ℕ) (p : P) (t : T) → first_at grammar n p t ≡ true → first_at grammar (k + n) p t ≡ true
  some-more zero n p t e = rw zero-add e
  some-more (suc k) n p t e = rw suc-add (one-more (k + n) p t (some-more k n p t e))

  module _ (reach : ℕ) (settled : (p : P) (t : T) → first_at grammar (suc reach) p t ≡ first_at grammar reach p t) where
    no-more : (k : ℕ) (p : P) (t : T) → first_at grammar (k + reach) p t ≡ true → first_at grammar reach p t ≡ true
    no-more zero p t e = rw zero-add at e
    no-more (suc k) p t e =
        let d : first (first_at grammar (k + reach)) (grammar p) t ≡ true = rw suc-add at e in
        sym (settled p t) ∙ first-more (first_at grammar (k + reach)) (first_at grammar reach) (no-more k) (grammar p) t d

    -- what is found at any depth is found within reach
    pub at-reach : (n : ℕ) (p : P) (t : T) → first_at grammar n p t ≡ true → first_at grammar reach p t ≡ true
    at-reach n p t e = let d : first_at grammar (reach + n) p t ≡ true = some-more reach n p t e in no-more n p t (rw add_comm at d)

    abbrev F : P → T → Bool
    F = first_at grammar reach

    -- where the next token can't begin the part and it may take none, it takes none
    module _ (N : (p : P) → V p → List T → List T → Type 0) where
      reads-none : {A : Type 0} (p : Part T V A) → ((t : T) → Heeds F p t) → (a : A) (ts : List T) → without_token p ≡ Some a → next_is (first F p) ts ≡ false → Reads N p a ts ts
      reads-none (done b) h a ts w c = (some-same b a w, refl)
      reads-none (tok meaning) h a ts w c = cc
      reads-none (seq p q) h a ts w c =
          let s : (without_token p ≡ Some a.0) × (without_token q ≡ Some a.1) = both-some (without_token p) (without_token q) a w in
          (ts, reads-none p (λ t. (h t).1) a.0 ts s.0 (left ts c), reads-none q (λ t. (h t).2) a.1 ts s.1 (right s.0 ts c))
        where
          left : (ts : List T) → next_is (first F (seq p q)) ts ≡ false → next_is (first F p) ts ≡ false
          left [] c = refl
          left (t ∷ ts) c = (or-false (first F p t) (behind (without_token p) (λ _. first F q t)) c).0

          right : without_token p ≡ Some a.0 → (ts : List T) → next_is (first F (seq p q)) ts ≡ false → next_is (first F q) ts ≡ false
          right e [] c = refl
          right e (t ∷ ts) c = let d : behind (without_token p) (λ _. first F q t) ≡ false = (or-false (first F p t) (behind (without_token p) (λ _. first F q t)) c).1 in rw e at d
      reads-none (bind p q) h b ts w c =
          let s = decided-some (without_token p) (λ a. without_token (q a)) b w in
          (s.0, ts, reads-none p (λ t. (h t).1) s.0 ts s.1 (left ts c), reads-none (q s.0) (λ t. (h t).2 s.0) b ts s.2 (right s.0 s.1 ts c))
        where
          left : (ts : List T) → next_is (first F (bind p q)) ts ≡ false → next_is (first F p) ts ≡ false
          left [] c = refl
          left (t ∷ ts) c = (or-false (first F p t) (behind (without_token p) (λ a. first F (q a) t)) c).0

          right : (a : _) → without_token p ≡ Some a → (ts : List T) → next_is (first F (bind p q)) ts ≡ false → next_is (first F (q a)) ts ≡ false
          right a e [] c = refl
          right a e (t ∷ ts) c = let d : behind (without_token p) (λ a. first F (q a) t) ≡ false = (or-false (first F p t) (behind (without_token p) (λ a. first F (q a) t)) c).1 in rw e at d
      reads-none (act f p) h b ts w c = let s = map-some f (without_token p) b w in (s.0, s.2, reads-none p h s.0 ts s.1 c)
      reads-none (alt class p q) h a ts w c = inr (next-same class (first F p) (λ t. (h t).0) ts ∙ left ts c, reads-none q (λ t. (h t).3) a ts w (right ts c))
        where
          left : (ts : List T) → next_is (first F (alt class p q)) ts ≡ false → next_is (first F p) ts ≡ false
          left [] c = refl
          left (t ∷ ts) c = (or-false (first F p t) (first F q t) c).0

          right : (ts : List T) → next_is (first F (alt class p q)) ts ≡ false → next_is (first F q) ts ≡ false
          right [] c = refl
          right (t ∷ ts) c = (or-false (first F p t) (first F q t) c).1
      reads-none (rep {A} class p) h a ts w c = let e : a ≡ [] = some-same [] a w in rw e (refl, next-same class (first F p) (λ t. (h t).0) ts ∙ c)
      reads-none (iter class part s) h a ts w c = (0, (some-same s a w, refl, next-same (class s) (first F (part s)) (λ t. (h t s).0) ts ∙ c))
      reads-none (nested p) h a ts w c = cc
      reads-none (unless class p) h a ts w c = reads-none p h a ts w c
      reads-none (barred class p) h a ts w c = reads-none p h a ts w c

    -- what a part takes begins with one of its first tokens
    module _ (N : (p : P) → V p → List T → List T → Type 0) (nested-takes : (p : P) (a : V p) (ts rest : List T) → N p a ts rest → (length rest < length ts) × (next_is (F p) ts ≡ true)) where
      abbrev pub TakesOf : {A : Type 0} → Part T V A → A → List T → List T → Type 0
      TakesOf p a ts rest = Takes (without_token p) (first F p) a ts rest

      one-takes : {A : Type 0} (meaning : T → Option A) (t : T) (a : A) → meaning t ≡ Some a → is_some (meaning t) ≡ true
      one-takes meaning t a e = rw e refl

      chosen : {A : Type 0} (class : T → Bool) (p : Part T V A) (a : A) (ts rest : List T) → ((t : T) → class t ≡ first F p t) → next_is class ts ≡ true → TakesOf p a ts rest → (length rest < length ts) × (next_is (first F p) ts ≡ true)
      chosen class p a ts rest h c (inl d) = absurd (true-false (next_is (first F p) ts) (sym (next-same class (first F p) h ts) ∙ c) d.2)
      chosen class p a ts rest h c (inr d) = d

      many-takes : {A : Type 0} (class : T → Bool) (p : Part T V A) → ((t : T) → class t ≡ first F p t) → ((a : A) (ts rest : List T) → Reads N p a ts rest → TakesOf p a ts rest) → (list : List A) (ts rest : List T) → Repeats (λ a m r. (next_is class m ≡ true) × Reads N p a m r) (λ m. next_is class m ≡ false) list ts rest → Takes (Some []) (first F p) list ts rest
      many-takes class p h f [] ts rest r = inl (r.0, refl, sym (next-same class (first F p) h ts) ∙ r.1)
      many-takes {A} class p h f (a ∷ more) ts rest r =
          let d : (length r.0 < length ts) × (next_is (first F p) ts ≡ true) = chosen class p a ts r.0 h r.1.0 (f a ts r.0 r.1.1) in
          let l : length r.0 < length ts = d.0 in
          let m : length rest ≤ length r.0 = takes-le (Some []) (first F p) more r.0 rest (many-takes class p h f more r.0 rest r.2) in
          inr (omega arith, d.1)

      turns-le : {S : Type 0} (class : S → T → Bool) (part : S → Part T V S) → ((u w : S) (ts rest : List T) → Reads N (part u) w ts rest → TakesOf (part u) w ts rest) → (a : S) (rest : List T) (n : ℕ) (s : S) (ts : List T) → AfterTurns (λ u v m r. (next_is (class u) m ≡ true) × Reads N (part u) v m r) (λ u m. (a ≡ u) × (rest ≡ m) × (next_is (class u) m ≡ false)) n s ts → length rest ≤ length ts
      turns-le class part f a rest zero s ts r = rw r.1 (omega arith)
      turns-le class part f a rest (suc n) s ts r =
          let l : length rest ≤ length r.1 = turns-le class part f a rest n r.0 r.1 r.3 in
          let m : length r.1 ≤ length ts = takes-le (without_token (part s)) (first F (part s)) r.0 ts r.1 (f s r.0 ts r.1 r.2.1) in
          omega arith

      pub reads-takes : {A : Type 0} (p : Part T V A) → ((t : T) → Heeds F p t) → (a : A) (ts rest : List T) → Reads N p a ts rest → TakesOf p a ts rest
      reads-takes (done b) h a ts rest r = inl (r.1, ap Some (sym r.0), none ts)
        where
          none : (ts : List T) → next_is (λ _. false) ts ≡ false
          none [] = refl
          none (t ∷ ts) = refl
      reads-takes (tok meaning) h a ts rest r = rw r.1 (inr (omega arith, one-takes meaning r.0 a r.2))
      reads-takes (seq p q) h a ts rest r =
          takes-then (without_token p) (first F p) a.0 (λ _. without_token q) (λ _. first F q) a.1 (without_token (seq p q)) a ts r.0 rest (λ e d. rw (e, d) refl) (reads-takes p (λ t. (h t).1) a.0 ts r.0 r.1) (reads-takes q (λ t. (h t).2) a.1 r.0 rest r.2)
      reads-takes (bind p q) h b ts rest r =
          takes-then (without_token p) (first F p) r.0 (λ a. without_token (q a)) (λ a. first F (q a)) b (without_token (bind p q)) b ts r.1 rest (λ e d. rw (e, d) refl) (reads-takes p (λ t. (h t).1) r.0 ts r.1 r.2) (reads-takes (q r.0) (λ t. (h t).2 r.0) b r.1 rest r.3)
      reads-takes (act f p) h b ts rest r = elim (reads-takes p h r.0 ts rest r.2) [ inl d ↦ inl (d.0, (rw d.1 (ap Some (sym r.1))), d.2) | inr d ↦ inr d ]
      reads-takes (alt class p q) h a ts rest (inl r) = let d : (length rest < length ts) × (next_is (first F p) ts ≡ true) = chosen class p a ts rest (λ t. (h t).0) r.0 (reads-takes p (λ t. (h t).2) a ts rest r.1) in inr (d.0, next-left (first F p) (first F q) ts d.1)
      reads-takes (alt class p q) h a ts rest (inr r) =
          elim (reads-takes q (λ t. (h t).3) a ts rest r.1) [
            | inl d ↦ inl (d.0, d.1, next-none (first F p) (first F q) ts (sym (next-same class (first F p) (λ t. (h t).0) ts) ∙ r.0) d.2)
            | inr d ↦ inr (d.0, next-right (first F p) (first F q) ts d.1)
          ]
      reads-takes (rep class p) h a ts rest r = many-takes class p (λ t. (h t).0) (reads-takes p (λ t. (h t).1)) a ts rest r
      reads-takes (iter {S} class part s) h a ts rest r = go (λ u. reads-takes (part u) (λ t. (h t u).1)) r.0 r.1
        where
          go : ((u w : S) (ts rest : List T) → Reads N (part u) w ts rest → TakesOf (part u) w ts rest) → (n : ℕ) → AfterTurns (λ u v m r. (next_is (class u) m ≡ true) × Reads N (part u) v m r) (λ u m. (a ≡ u) × (rest ≡ m) × (next_is (class u) m ≡ false)) n s ts → TakesOf (iter class part s) a ts rest
          go f zero r = inl (r.1, ap Some (sym r.0), sym (next-same (class s) (first F (part s)) (λ t. (h t s).0) ts) ∙ r.2)
          go f (suc n) r =
              let d : (length r.1 < length ts) × (next_is (first F (part s)) ts ≡ true) = chosen (class s) (part s) r.0 ts r.1 (λ t. (h t s).0) r.2.0 (f s r.0 ts r.1 r.2.1) in
              let l : length r.1 < length ts = d.0 in
              let m : length rest ≤ length r.1 = turns-le class part f a rest n r.0 r.1 r.3 in
              inr (omega arith, d.1)
      reads-takes (nested p) h a ts rest r = inr (nested-takes p a ts rest r)
      reads-takes (unless class p) h a ts rest r = reads-takes p h a ts rest r
      reads-takes (barred class p) h a ts rest r = reads-takes p h a ts rest r

      -- and what begins it does
      module _ (B : (p : P) → List T → Type 0) (nested-first : (p : P) (t : T) (m : List T) → B p (t ∷ m) → F p t ≡ true) where
        pub begins-first : {A : Type 0} (p : Part T V A) → ((t : T) → Heeds F p t) → (t : T) (m : List T) → Begins N B p (t ∷ m) → first F p t ≡ true
        begins-first (done a) h t m b = absurd (none b)
          where
            none : (t ∷ m) ≡ [] → ⊥
            none e = cc
        begins-first (tok meaning) h t m (inl b) = absurd (none b)
          where
            none : (t ∷ m) ≡ [] → ⊥
            none e = cc
        begins-first (tok meaning) h t m (inr b) = let e : t ≡ b.0 = cc in rw e (one-takes meaning b.0 b.1 b.3)
        begins-first (seq p q) h t m (inl b) = or-left (first F p t) (behind (without_token p) (λ _. first F q t)) (begins-first p (λ t. (h t).1) t m b)
        begins-first (seq p q) h t m (inr b) = go (reads-takes p (λ t. (h t).1) b.0 (t ∷ m) b.1 b.2) (λ e. begins-first q (λ t. (h t).2) t m (rw e at b.3))
          where
            go : TakesOf p b.0 (t ∷ m) b.1 → (b.1 ≡ t ∷ m → first F q t ≡ true) → first F (seq p q) t ≡ true
            go (inl d) f = or-right (first F p t) (behind (without_token p) (λ _. first F q t)) (rw d.1 (f d.0))
            go (inr d) f = or-left (first F p t) (behind (without_token p) (λ _. first F q t)) d.1
        begins-first (bind p q) h t m (inl b) = or-left (first F p t) (behind (without_token p) (λ a. first F (q a) t)) (begins-first p (λ t. (h t).1) t m b)
        begins-first (bind p q) h t m (inr b) = go (reads-takes p (λ t. (h t).1) b.0 (t ∷ m) b.1 b.2) (λ e. begins-first (q b.0) (λ t. (h t).2 b.0) t m (rw e at b.3))
          where
            go : TakesOf p b.0 (t ∷ m) b.1 → (b.1 ≡ t ∷ m → first F (q b.0) t ≡ true) → first F (bind p q) t ≡ true
            go (inl d) f = or-right (first F p t) (behind (without_token p) (λ a. first F (q a) t)) (rw d.1 (f d.0))
            go (inr d) f = or-left (first F p t) (behind (without_token p) (λ a. first F (q a) t)) d.1
        begins-first (act f p) h t m b = begins-first p h t m b
        begins-first (alt class p q) h t m (inl b) = or-left (first F p t) (first F q t) (begins-first p (λ t. (h t).2) t m b.1)
        begins-first (alt class p q) h t m (inr b) = or-right (first F p t) (first F q t) (begins-first q (λ t. (h t).3) t m b.1)
        begins-first (rep {A} class p) h t m b = go b.0 b.1
          where
            go : (n : ℕ) → AfterTurns (λ _ _ m r. (next_is class m ≡ true) × ((a : A) × Reads N p a m r)) (λ _ m. (m ≡ []) ⊎ ((next_is class m ≡ true) × Begins N B p m)) n (tt {0}) (t ∷ m) → first F p t ≡ true
            go zero (inl e) = absurd (none e)
              where
                none : (t ∷ m) ≡ [] → ⊥
                none e = cc
            go zero (inr e) = sym (h t).0 ∙ e.0
            go (suc n) r = sym (h t).0 ∙ r.2.0
        begins-first (iter class part s) h t m b = go b.0 b.1
          where
            go : (n : ℕ) → AfterTurns (λ u v m r. (next_is (class u) m ≡ true) × Reads N (part u) v m r) (λ u m. (m ≡ []) ⊎ ((next_is (class u) m ≡ true) × Begins N B (part u) m)) n s (t ∷ m) → first F (part s) t ≡ true
            go zero (inl e) = absurd (none e)
              where
                none : (t ∷ m) ≡ [] → ⊥
                none e = cc
            go zero (inr e) = sym (h t s).0 ∙ e.0
            go (suc n) r = sym (h t s).0 ∙ r.2.0
        begins-first (nested p) h t m b = nested-first p t m b
        begins-first (unless class p) h t m b = begins-first p h t m b
        begins-first (barred class p) h t m b = begins-first p h t m b

    -- each first token begins the part
    module _ (N : (p : P) → V p → List T → List T → Type 0) (B : (p : P) → List T → Type 0) (G : P → T → Bool) (within : (p : P) (t : T) → G p t ≡ true → F p t ≡ true) (nested-begins : (p : P) (t : T) → G p t ≡ true → B p (t ∷ [])) where
      pub first-begins : {A : Type 0} (p : Part T V A) → ((t : T) → Heeds F p t) → (t : T) → first G p t ≡ true → Begins N B p (t ∷ [])
      first-begins (done a) h t e = cc
      first-begins (tok {A} meaning) h t e = go (meaning t) refl e
        where
          go : (o : Option A) → meaning t ≡ o → is_some o ≡ true → Begins N B (one V meaning) (t ∷ [])
          go None m e = cc
          go (Some a) m e = inr (t, a, refl, m)
      first-begins (seq p q) h t e = go (or-cases (first G p t) (behind (without_token p) (λ _. first G q t)) e) (first-begins p (λ t. (h t).1) t) (first-begins q (λ t. (h t).2) t)
        where
          go : (first G p t ≡ true) ⊎ ((first G p t ≡ false) × (behind (without_token p) (λ _. first G q t) ≡ true)) → (first G p t ≡ true → Begins N B p (t ∷ [])) → (first G q t ≡ true → Begins N B q (t ∷ [])) → Begins N B (seq p q) (t ∷ [])
          go (inl d) f g = inl (f d)
          go (inr d) f g =
              let s = behind-some (without_token p) (λ _. first G q t) d.1 in
              let k : behind (without_token p) (λ _. first F q t) ≡ true = rw s.1 (first-more G F within q t s.2) in
              let c : first F p t ≡ false = and-second (behind (without_token p) (λ _. first F q t)) (first F p t) (h t).0 k in
              inr (s.0, t ∷ [], reads-none N p (λ t. (h t).1) s.0 (t ∷ []) s.1 c, g s.2)
      first-begins (bind {A} p q) h t e = go (or-cases (first G p t) (behind (without_token p) (λ a. first G (q a) t)) e) (first-begins p (λ t. (h t).1) t) (λ a. first-begins (q a) (λ t. (h t).2 a) t)
        where
          go : (first G p t ≡ true) ⊎ ((first G p t ≡ false) × (behind (without_token p) (λ a. first G (q a) t) ≡ true)) → (first G p t ≡ true → Begins N B p (t ∷ [])) → ((a : A) → first G (q a) t ≡ true → Begins N B (q a) (t ∷ [])) → Begins N B (bind p q) (t ∷ [])
          go (inl d) f g = inl (f d)
          go (inr d) f g =
              let s = behind-some (without_token p) (λ a. first G (q a) t) d.1 in
              let k : behind (without_token p) (λ a. first F (q a) t) ≡ true = rw s.1 (first-more G F within (q s.0) t s.2) in
              let c : first F p t ≡ false = and-second (behind (without_token p) (λ a. first F (q a) t)) (first F p t) (h t).0 k in
              inr (s.0, t ∷ [], reads-none N p (λ t. (h t).1) s.0 (t ∷ []) s.1 c, g s.0 s.2)
      first-begins (act f p) h t e = first-begins p h t e
      first-begins (alt class p q) h t e = go (or-cases (first G p t) (first G q t) e) (first-begins p (λ t. (h t).2) t) (first-begins q (λ t. (h t).3) t)
        where
          go : (first G p t ≡ true) ⊎ ((first G p t ≡ false) × (first G q t ≡ true)) → (first G p t ≡ true → Begins N B p (t ∷ [])) → (first G q t ≡ true → Begins N B q (t ∷ [])) → Begins N B (alt class p q) (t ∷ [])
          go (inl d) f g = inl ((h t).0 ∙ first-more G F within p t d, f d)
          go (inr d) f g = inr (and-second (first F q t) (class t) (h t).1 (first-more G F within q t d.1), g d.1)
      first-begins (rep class p) h t e = (0, inr ((h t).0 ∙ first-more G F within p t e, first-begins p (λ t. (h t).1) t e))
      first-begins (iter class part s) h t e = (0, inr ((h t s).0 ∙ first-more G F within (part s) t e, first-begins (part s) (λ t. (h t s).1) t e))
      first-begins (nested p) h t e = nested-begins p t e
      first-begins (unless class p) h t e = first-begins p h t e
      first-begins (barred class p) h t e = first-begins p h t e

    -- the same of the grammar
    module _ (eating : (p : P) → eats (grammar p) ≡ true) (advancing : (p : P) → Advances (grammar p)) (heeding : (p : P) (t : T) → Heeds F (grammar p) t) where
      longer : (n : ℕ) (p : P) (a : V p) (ts rest : List T) → ReadsAt grammar n p a ts rest → length rest < length ts
      longer n p a ts rest r = go (rw (reader-tree grammar eating advancing n p a ts rest r) at (size-reader grammar eating n p ts))
        where
          go : 1 + length rest ≤ length ts → length rest < length ts
          go l = omega arith

      pub production-takes : (n : ℕ) (p : P) (a : V p) (ts rest : List T) → ReadsAt grammar n p a ts rest → (length rest < length ts) × (next_is (F p) ts ≡ true)
      production-takes zero p a ts rest r = absurd r
      production-takes (suc n) p a ts rest r = go (longer (suc n) p a ts rest r) (reads-takes (ReadsAt grammar n) (production-takes n) (grammar p) (heeding p) a ts rest r)
        where
          go : length rest < length ts → Takes (without_token (grammar p)) (first F (grammar p)) a ts rest → (length rest < length ts) × (next_is (F p) ts ≡ true)
          go l (inl d) = let e : length rest ≡ length ts = same-length rest ts d.0 in absurd (omega arith)
          go l (inr d) = (d.0, sym (next-same (first F (grammar p)) (F p) (settled p) ts) ∙ d.1)

      pub production-first : (n : ℕ) (p : P) (t : T) (m : List T) → BeginsAt grammar n p (t ∷ m) → F p t ≡ true
      production-first zero p t m b = absurd (none b)
        where
          none : (t ∷ m) ≡ [] → ⊥
          none e = cc
      production-first (suc n) p t m b = sym (settled p t) ∙ begins-first (ReadsAt grammar n) (production-takes n) (BeginsAt grammar n) (production-first n) (grammar p) (heeding p) t m b

      pub production-begins : (n : ℕ) (p : P) (t : T) → first_at grammar n p t ≡ true → BeginsAt grammar n p (t ∷ [])
      production-begins zero p t e = cc
      production-begins (suc n) p t e = first-begins (ReadsAt grammar n) (BeginsAt grammar n) (first_at grammar n) (at-reach n) (production-begins n) (grammar p) (heeding p) t e

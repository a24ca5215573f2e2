-- The laws of anything that tokens can be read as, from what is known of its reading in the pure grammar.
use Rattle.std.proofs.Common.{◌≡◌, ℕ, zero, suc, ◌+◌, ◌-◌, ◌<◌, ◌≤◌, List, [], ◌∷◌, ◌++◌, length, take, drop, ◌⊎◌, inl, inr, ◌↔◌, refl, sym, ap, ◌∙◌, arith, length-append, append_assoc, take-append-drop, length-drop, add_comm}
use Rattle.vh_parse_grammar.specs.Reading.{Fault, lost, deep, left_out, Out, got, stop}
use Rattle.vh_parse_grammar.specs.Omissions.{answered}
use Rattle.vh_parse_grammar.specs.Table.{Subject}
use Rattle.vh_parse_grammar.specs.Laws.{NoneLeftOut, IsFirstLeftOut, Answers, Front, RefusesFirst, CountsFirst, Laws}
use Rattle.vh_parse_grammar.proofs.Size.{Sized}
use Rattle.vh_parse_grammar.proofs.Places.{Late, Cut}
use Rattle.vh_parse_grammar.proofs.Starts.{Ended}
use Rattle.vh_parse_grammar.proofs.Levels.{Below, ended-below}
use Rattle.vh_parse_grammar.proofs.OmissionsLemmas.{attached, Peak}
use Rattle.vh_parse_grammar.proofs.ShownLemmas.{Behind, Inside}

-- An outcome of the pure grammar, in which nothing is left out
abbrev pub Pure : {T A : Type 0} → Out T A → Type 0
Pure (got a rest) = Unit {0}
Pure (stop lost left) = Unit {0}
Pure (stop deep left) = Unit {0}
Pure (stop left_out left) = ⊥

-- What is known of a reading (own).
pub record Facts (s : Subject) (parsed : ℕ → List s.Token → Out s.Token s.Tree) : Type 0 where
  pub pure : (n : ℕ) (ts : List s.Token) → Pure (parsed n ts)
  pub is : (n : ℕ) (a : s.Tree) (ts rest : List s.Token) → s.Is n a ts rest ↔ (parsed n ts ≡ got a rest)
  pub refuses : (n : ℕ) (fault : Fault) (ts : List s.Token) (left : ℕ) → s.Refuses n fault ts left ↔ (parsed n ts ≡ stop fault left)
  pub starts : (n : ℕ) (ts : List s.Token) → s.Starts n ts ↔ Ended (parsed n ts)
  pub judged : (n : ℕ) (ts : List s.Token) → (k : ℕ) × (s.answer n ts ≡ answered (attached k (parsed n ts))) × Peak (s.LeavesOut n ts) 0 k
  pub sized : (n : ℕ) (ts : List s.Token) → Sized 0 ts (parsed n ts)
  pub cut : (n : ℕ) (us zs : List s.Token) → Cut zs (parsed n us) (parsed n (us ++ zs))
  pub suffix : (n : ℕ) (a : s.Tree) (ts rest : List s.Token) → parsed n ts ≡ got a rest → (us : List s.Token) × (ts ≡ us ++ rest)
  pub below : (n more : ℕ) (ts : List s.Token) → Below (parsed n ts) (parsed (more + n) ts)
  pub same : (n more : ℕ) (ts : List s.Token) → ((left : ℕ) → parsed n ts ≡ stop deep left → ⊥) → s.answer (more + n) ts ≡ s.answer n ts
  pub inside : (n : ℕ) (ts : List s.Token) (place shown : ℕ) → s.LeavesOut n ts place shown → Inside ts place shown
  pub behind : (n : ℕ) (ts : List s.Token) (place shown : ℕ) → s.LeavesOut n ts place shown → Behind shown (parsed n ts)
  pub front : (n : ℕ) (us zs : List s.Token) (place : ℕ) → s.LeavesOut n (us ++ zs) place (length zs) → Ended (parsed n us)
  pub down : (n : ℕ) (us zs : List s.Token) (k j : ℕ) → 0 < j → s.LeavesOut n (us ++ zs) (k + length zs) (j + length zs) → s.LeavesOut n us k j
  pub up : (n : ℕ) (us zs : List s.Token) (k j : ℕ) → s.LeavesOut n us k j → s.LeavesOut n (us ++ zs) (k + length zs) (j + length zs)

answered-got : {T A : Type 0} (k : ℕ) (o : Out T A) (a : A) (rest : List T) → answered (attached k o) ≡ got a rest → (k ≡ 0) × (o ≡ got a rest)
answered-got zero (got b r) a rest e = (refl, e)
answered-got (suc k) (got b r) a rest e = cc
answered-got zero (stop fault left) a rest e = cc
answered-got (suc k) (stop fault left) a rest e = cc

answered-lost : {T A : Type 0} (k : ℕ) (o : Out T A) (left : ℕ) → answered (attached k o) ≡ stop lost left → (k ≡ 0) × (o ≡ stop lost left)
answered-lost zero (got b r) left e = cc
answered-lost (suc k) (got b r) left e = cc
answered-lost zero (stop fault j) left e = (refl, e)
answered-lost (suc k) (stop fault j) left e = cc

answered-deep : {T A : Type 0} (k : ℕ) (o : Out T A) (left : ℕ) → answered (attached k o) ≡ stop deep left → (k ≡ 0) × (o ≡ stop deep left)
answered-deep zero (got b r) left e = cc
answered-deep (suc k) (got b r) left e = cc
answered-deep zero (stop fault j) left e = (refl, e)
answered-deep (suc k) (stop fault j) left e = cc

answered-left : {T A : Type 0} (k : ℕ) (o : Out T A) (place : ℕ) → Pure o → answered (attached k o) ≡ stop left_out place → (k ≡ place) × (0 < k)
answered-left zero (got b r) place p e = cc
answered-left (suc k) (got b r) place p e = (cc, omega arith)
answered-left zero (stop lost j) place p e = cc
answered-left (suc k) (stop lost j) place p e = (cc, omega arith)
answered-left zero (stop deep j) place p e = cc
answered-left (suc k) (stop deep j) place p e = (cc, omega arith)
answered-left k (stop left_out j) place p e = absurd p

left-answered : {T A : Type 0} (k : ℕ) (o : Out T A) → 0 < k → answered (attached k o) ≡ stop left_out k
left-answered zero o l = absurd (omega arith)
left-answered (suc k) (got a rest) l = refl
left-answered (suc k) (stop fault left) l = refl

got-parts : {T A : Type 0} (a b : A) (r s : List T) → got a r ≡ got b s → (a ≡ b) × (r ≡ s)
got-parts a b r s e = (cc, cc)

-- Before a fault
stop-front : {T A : Type 0} (w : ℕ) (front rest : List T) (fault : Fault) (o' o : Out T A) → o ≡ stop fault (length rest) → Sized w front o' → Cut rest o' o → Ended o'
stop-front w front rest fault (got a []) o e s c = refl
stop-front w front rest fault (got a (t ∷ ts)) o e s c = cc
stop-front w front rest fault (stop lost zero) o e s c = refl
stop-front w front rest fault (stop lost (suc j)) o e s c = let q : suc j + length rest ≡ length rest = cc in absurd (omega arith)
stop-front w front rest fault (stop deep j) o e s c = let q : j + length rest ≡ length rest = cc in absurd (omega arith)
stop-front w front rest fault (stop left_out j) o e s c = let q : j + length rest ≡ length rest = cc in absurd (omega arith)

-- With the next token, on any number of levels
lost-any : {T A : Type 0} (more : List T) (o' o x : Out T A) → o ≡ stop lost (suc (length more)) → Cut more o' o → Below o' x → Ended x → ⊥
lost-any more (got a []) o x e c b d = let k : suc (length more) ≤ length more = rw e at c in omega arith
lost-any more (got a (t ∷ ts)) o x e c b d = cc
lost-any more (stop lost zero) o x e c b d = let k : suc (length more) ≤ length more = rw e at c in omega arith
lost-any more (stop lost (suc j)) o x e c b d = let q : suc j ≡ 0 = rw b at d in omega arith
lost-any more (stop deep j) o x e c b d = cc
lost-any more (stop left_out j) o x e c b d = rw b at d

-- The first token with which they don't begin it
abbrev Here : {T A : Type 0} → List T → Out T A → Type 0
Here {T} {A} more o = ((fault : Fault) × (o ≡ stop fault (suc (length more)))) ⊎ ((a : A) × (t : T) × (o ≡ got a (t ∷ more)))

length-none : {T : Type 0} (ts : List T) → length ts ≤ 0 → ts ≡ []
length-none [] l = refl
length-none (t ∷ ts) l = absurd (omega arith)

one-left : {T A : Type 0} (next : T) (o'' o' : Out T A) → Ended o'' → Cut (next ∷ []) o'' o' → Late (next ∷ []) o' ⊎ ⊥
one-left next (got a []) o' e c = inl c
one-left next (got a (t ∷ ts)) o' e c = absurd (none e)
  where
    none : (t ∷ ts) ≡ [] → ⊥
    none q = cc
one-left next (stop lost zero) o' e c = inl c
one-left next (stop lost (suc j)) o' e c = absurd (omega arith)
one-left next (stop deep j) o' e c = absurd e
one-left next (stop left_out j) o' e c = absurd e

refused-here : {T A : Type 0} (more ts : List T) (next : T) (o' o : Out T A) → Pure o' → Late (next ∷ []) o' → (Ended o' → ⊥) → Sized 0 ts o' → Cut more o' o → Here more o
refused-here more ts next (got a []) o p l n s c = absurd (n refl)
refused-here more ts next (got a (t ∷ rest)) o p l n s c = let e : rest ≡ [] = length-none rest (omega arith) in inr (a, t, rw e at c)
refused-here more ts next (stop lost zero) o p l n s c = absurd (n refl)
refused-here more ts next (stop lost (suc j)) o p l n s c = let q : suc j + length more ≡ suc (length more) = omega arith in inl (lost, rw (c, q))
refused-here more ts next (stop deep j) o p l n s c = let z : 0 < j = s.0 in let q : j + length more ≡ suc (length more) = omega arith in inl (deep, rw (c, q))
refused-here more ts next (stop left_out j) o p l n s c = absurd p

-- What is left is the next token and those behind it
last-same : {T : Type 0} (front us more : List T) (next t : T) → front ++ next ∷ more ≡ us ++ t ∷ more → next ≡ t
last-same [] [] more next t e = cc
last-same [] (u ∷ us) more next t e = let k : length (next ∷ more) ≡ length ((u ∷ us) ++ t ∷ more) = ap length e in absurd (omega (arith, length-append us (t ∷ more)))
last-same (x ∷ front) [] more next t e = let k : length ((x ∷ front) ++ next ∷ more) ≡ length (t ∷ more) = ap length e in absurd (omega (arith, length-append front (next ∷ more)))
last-same (x ∷ front) (u ∷ us) more next t e = last-same front us more next t (tails e)
  where
    tails : x ∷ (front ++ next ∷ more) ≡ u ∷ (us ++ t ∷ more) → front ++ next ∷ more ≡ us ++ t ∷ more
    tails q = cc

-- Too soon
ended-lost : {T A : Type 0} (o : Out T A) → Pure o → Ended o → ((a : A) → o ≡ got a [] → ⊥) → o ≡ stop lost 0
ended-lost (got a rest) p e n = absurd (n a (ap (λ z. got a z) e))
ended-lost (stop lost k) p e n = ap (λ (j : ℕ). stop lost j) e
ended-lost (stop deep k) p e n = absurd e
ended-lost (stop left_out k) p e n = absurd p

stop-inside : {T A : Type 0} (w : ℕ) (ts : List T) (o : Out T A) (fault : Fault) (left : ℕ) → Sized w ts o → o ≡ stop fault left → (left ≤ length ts) × (left ≡ 0 → fault ≡ lost)
stop-inside w ts (got a rest) fault left s e = cc
stop-inside w ts (stop lost k) fault left s e = let l : left ≡ k = cc in (omega arith, λ z. cc)
stop-inside w ts (stop deep k) fault left s e = let l : left ≡ k = cc in (omega arith, λ z. absurd (omega arith))
stop-inside w ts (stop left_out k) fault left s e = let l : left ≡ k = cc in (omega arith, λ z. absurd (omega arith))

stop-behind : {T A : Type 0} (n : ℕ) (o : Out T A) (fault : Fault) (left : ℕ) → o ≡ stop fault left → Behind n o → left ≤ n
stop-behind {T} {A} n o fault left e b = let k : Behind {T = T} {A = A} n (stop fault left) = rw e at b in k

module _ (s : Subject) (parsed : ℕ → List s.Token → Out s.Token s.Tree) (f : Facts s parsed) where
  nothing : (n : ℕ) (ts : List s.Token) (k : ℕ) → k ≡ 0 → Peak (s.LeavesOut n ts) 0 k → NoneLeftOut s n ts
  nothing n ts k e p place shown h =
      let i : Inside ts place shown = f.inside n ts place shown h in
      let a : place ≤ k = p.most place shown h in
      let b : 0 < shown = i.0 in
      let c : shown ≤ place = i.1 in
      absurd (omega arith)

  none-noting : (n : ℕ) (ts : List s.Token) (k : ℕ) → NoneLeftOut s n ts → Peak (s.LeavesOut n ts) 0 k → k ≡ 0
  none-noting n ts k h p = elim p.is [ inl e ↦ e | inr q ↦ absurd (h k q.0 q.1) ]

  -- the answer, where nothing is left out
  none-answer : (n : ℕ) (ts : List s.Token) (o : Out s.Token s.Tree) → Pure o → parsed n ts ≡ o → NoneLeftOut s n ts → s.answer n ts ≡ o
  none-answer n ts o p e h =
      let j : (k : ℕ) × (s.answer n ts ≡ answered (attached k (parsed n ts))) × Peak (s.LeavesOut n ts) 0 k = f.judged n ts in
      j.1 ∙ (rw (none-noting n ts j.0 h j.2, e) (zero-omission o))
    where
      zero-omission : (o : Out s.Token s.Tree) → answered (attached 0 o) ≡ o
      zero-omission (got a rest) = refl
      zero-omission (stop fault left) = refl

  answers : Answers s
  answers = record {
    tree = λ n a ts rest. (
      λ e. let j : (k : ℕ) × (s.answer n ts ≡ answered (attached k (parsed n ts))) × Peak (s.LeavesOut n ts) 0 k = f.judged n ts in
          let g : (j.0 ≡ 0) × (parsed n ts ≡ got a rest) = answered-got j.0 (parsed n ts) a rest (sym j.1 ∙ e) in
          ((f.is n a ts rest).1 g.1, nothing n ts j.0 g.0 j.2),
      λ h. none-answer n ts (got a rest) tt ((f.is n a ts rest).0 h.0) h.1,
    );
    no_token = λ n ts left. (
      λ e. let j : (k : ℕ) × (s.answer n ts ≡ answered (attached k (parsed n ts))) × Peak (s.LeavesOut n ts) 0 k = f.judged n ts in
          let g : (j.0 ≡ 0) × (parsed n ts ≡ stop lost left) = answered-lost j.0 (parsed n ts) left (sym j.1 ∙ e) in
          ((f.refuses n lost ts left).1 g.1, nothing n ts j.0 g.0 j.2),
      λ h. none-answer n ts (stop lost left) tt ((f.refuses n lost ts left).0 h.0) h.1,
    );
    too_deep = λ n ts left. (
      λ e. let j : (k : ℕ) × (s.answer n ts ≡ answered (attached k (parsed n ts))) × Peak (s.LeavesOut n ts) 0 k = f.judged n ts in
          let g : (j.0 ≡ 0) × (parsed n ts ≡ stop deep left) = answered-deep j.0 (parsed n ts) left (sym j.1 ∙ e) in
          ((f.refuses n deep ts left).1 g.1, nothing n ts j.0 g.0 j.2),
      λ h. none-answer n ts (stop deep left) tt ((f.refuses n deep ts left).0 h.0) h.1,
    );
    is_left_out = λ n ts place. (left-to n ts place, left-from n ts place);
    one_tree = λ n a b ts rest end h k. got-parts a b rest end (sym ((f.is n a ts rest).0 h) ∙ (f.is n b ts end).0 k);
  }
    where
      left-to : (n : ℕ) (ts : List s.Token) (place : ℕ) → s.answer n ts ≡ stop left_out place → IsFirstLeftOut s n ts place
      left-to n ts place e =
          let j : (k : ℕ) × (s.answer n ts ≡ answered (attached k (parsed n ts))) × Peak (s.LeavesOut n ts) 0 k = f.judged n ts in
          let g : (j.0 ≡ place) × (0 < j.0) = answered-left j.0 (parsed n ts) place (f.pure n ts) (sym j.1 ∙ e) in
          let p : Peak (s.LeavesOut n ts) 0 place = rw g.0 at j.2 in
          elim p.is [ inl z ↦ (let a : j.0 ≡ place = g.0 in let b : 0 < j.0 = g.1 in absurd (omega arith)) | inr q ↦ record { shown = q.0; is = q.1; first = p.most } ]

      left-from : (n : ℕ) (ts : List s.Token) (place : ℕ) → IsFirstLeftOut s n ts place → s.answer n ts ≡ stop left_out place
      left-from n ts place h =
          let j : (k : ℕ) × (s.answer n ts ≡ answered (attached k (parsed n ts))) × Peak (s.LeavesOut n ts) 0 k = f.judged n ts in
          let i : Inside ts place h.shown = f.inside n ts place h.shown h.is in
          let a : 0 < h.shown = i.0 in
          let b : h.shown ≤ place = i.1 in
          let c : place ≤ j.0 = j.2.most place h.shown h.is in
          let d : j.0 ≤ place = elim j.2.is [ inl z ↦ omega arith | inr q ↦ h.first j.0 q.0 q.1 ] in
          let e : j.0 ≡ place = omega arith in
          j.1 ∙ left-answered j.0 (parsed n ts) (omega arith) ∙ ap (λ (z : ℕ). stop left_out z) e

  -- the tokens before a place
  before : (ts : List s.Token) (left : ℕ) → left ≤ length ts → Front s ts left
  before ts left l = record {
    front = take (length ts - left) ts;
    rest = drop (length ts - left) ts;
    split = sym (take-append-drop (length ts - left) ts);
    count = omega (arith, length-drop (length ts - left) ts);
  }

  refuses : RefusesFirst s
  refuses = record {
    front_begins = front_begins;
    not_next = not_next;
    is_refused = is_refused;
    too_soon = λ n ts. (
      λ h. let e : parsed n ts ≡ stop lost 0 = (f.refuses n lost ts 0).0 h in ((f.starts n ts).1 (rw e refl), λ a k. let g : parsed n ts ≡ got a [] = (f.is n a ts []).0 k in let q : stop lost 0 ≡ got a [] = sym e ∙ g in cc),
      λ h. (f.refuses n lost ts 0).1 (ended-lost (parsed n ts) (f.pure n ts) ((f.starts n ts).0 h.0) (λ a e. h.1 a ((f.is n a ts []).1 e))),
    );
    inside = λ n ts fault left h. stop-inside 0 ts (parsed n ts) fault left (f.sized n ts) ((f.refuses n fault ts left).0 h);
    only_depth = λ n more ts h. f.same n more ts (λ left e. h left ((f.refuses n deep ts left).1 e));
  }
    where
      front_begins : (n : ℕ) (ts : List s.Token) (fault : Fault) (left : ℕ) → s.Refuses n fault ts left → (b : Front s ts left) × s.Starts n b.front
      front_begins n ts fault left h =
          let e : parsed n ts ≡ stop fault left = (f.refuses n fault ts left).0 h in
          let b : Front s ts left = before ts left (stop-inside 0 ts (parsed n ts) fault left (f.sized n ts) e).0 in
          let d : parsed n (b.front ++ b.rest) ≡ stop fault (length b.rest) = rw (b.count, sym b.split) e in
          (b, (f.starts n b.front).1 (stop-front 0 b.front b.rest fault (parsed n b.front) (parsed n (b.front ++ b.rest)) d (f.sized n b.front) (f.cut n b.front b.rest)))

      not_next : (n any : ℕ) (front : List s.Token) (next : s.Token) (more : List s.Token) → s.Refuses n lost (front ++ next ∷ more) (suc (length more)) → s.Starts any (front ++ next ∷ []) → ⊥
      not_next n any front next more h b =
          let e : parsed n ((front ++ next ∷ []) ++ more) ≡ stop lost (suc (length more)) = rw append_assoc ((f.refuses n lost (front ++ next ∷ more) (suc (length more))).0 h) in
          let x : Ended (parsed any (front ++ next ∷ [])) = (f.starts any (front ++ next ∷ [])).0 b in
          let y : Ended (parsed (n + any) (front ++ next ∷ [])) = ended-below (parsed any (front ++ next ∷ [])) (parsed (n + any) (front ++ next ∷ [])) (f.below any n (front ++ next ∷ [])) x in
          let z : Ended (parsed (any + n) (front ++ next ∷ [])) = rw (add_comm n any) at y in
          lost-any more (parsed n (front ++ next ∷ [])) (parsed n ((front ++ next ∷ []) ++ more)) (parsed (any + n) (front ++ next ∷ [])) e (f.cut n (front ++ next ∷ []) more) (f.below n any (front ++ next ∷ [])) z

      is_refused : (n : ℕ) (front : List s.Token) (next : s.Token) (more : List s.Token) → s.Starts n front → (s.Starts n (front ++ next ∷ []) → ⊥) →
          ((fault : Fault) × s.Refuses n fault (front ++ next ∷ more) (suc (length more))) ⊎ ((a : s.Tree) × s.Is n a (front ++ next ∷ more) (next ∷ more))
      is_refused n front next more h k =
          let l : Late (next ∷ []) (parsed n (front ++ next ∷ [])) = elim (one-left next (parsed n front) (parsed n (front ++ next ∷ [])) ((f.starts n front).0 h) (f.cut n front (next ∷ []))) [ inl l ↦ l | inr z ↦ absurd z ] in
          let r : Here more (parsed n ((front ++ next ∷ []) ++ more)) = refused-here more (front ++ next ∷ []) next (parsed n (front ++ next ∷ [])) (parsed n ((front ++ next ∷ []) ++ more)) (f.pure n (front ++ next ∷ [])) l (λ e. k ((f.starts n (front ++ next ∷ [])).1 e)) (f.sized n (front ++ next ∷ [])) (f.cut n (front ++ next ∷ []) more) in
          say (rw append_assoc at r)
        where
          say : Here more (parsed n (front ++ next ∷ more)) → ((fault : Fault) × s.Refuses n fault (front ++ next ∷ more) (suc (length more))) ⊎ ((a : s.Tree) × s.Is n a (front ++ next ∷ more) (next ∷ more))
          say (inl r) = inl (r.0, (f.refuses n r.0 (front ++ next ∷ more) (suc (length more))).1 r.1)
          say (inr r) =
              let u : (us : List s.Token) × (front ++ next ∷ more ≡ us ++ r.1 ∷ more) = f.suffix n r.0 (front ++ next ∷ more) (r.1 ∷ more) r.2 in
              let e : next ≡ r.1 = last-same front u.0 more next r.1 u.1 in
              inr (r.0, (f.is n r.0 (front ++ next ∷ more) (next ∷ more)).1 (r.2 ∙ ap (λ (t : s.Token). got r.0 (t ∷ more)) (sym e)))

  counts : CountsFirst s
  counts = record {
    front_begins = front_begins;
    inside = f.inside;
    not_behind = λ n ts place shown fault left h r. stop-behind shown (parsed n ts) fault left ((f.refuses n fault ts left).0 r) (f.behind n ts place shown h);
    whatever_follows = whatever_follows;
  }
    where
      front_begins : (n : ℕ) (ts : List s.Token) (place shown : ℕ) → s.LeavesOut n ts place shown → (b : Front s ts shown) × s.Starts n b.front
      front_begins n ts place shown h =
          let i : Inside ts place shown = f.inside n ts place shown h in
          let l : shown ≤ length ts = (let x : shown ≤ place = i.1 in let y : place ≤ length ts = i.2 in omega arith) in
          let b : Front s ts shown = before ts shown l in
          let d : s.LeavesOut n (b.front ++ b.rest) place (length b.rest) = rw (b.count, sym b.split) h in
          (b, (f.starts n b.front).1 (f.front n b.front b.rest place d))

      whatever_follows : (n : ℕ) (front : List s.Token) (next : s.Token) (more other : List s.Token) (k : ℕ) → s.LeavesOut n (front ++ next ∷ more) (k + length more) (suc (length more)) → s.LeavesOut n (front ++ next ∷ other) (k + length other) (suc (length other))
      whatever_follows n front next more other k h =
          let p : 1 + length more ≡ suc (length more) = omega arith in
          let q : 1 + length other ≡ suc (length other) = omega arith in
          let a : s.LeavesOut n ((front ++ next ∷ []) ++ more) (k + length more) (1 + length more) = rw (append_assoc, p) h in
          let b : s.LeavesOut n (front ++ next ∷ []) k 1 = f.down n (front ++ next ∷ []) more k 1 (omega arith) a in
          rw (append_assoc, q) at (f.up n (front ++ next ∷ []) other k 1 b)

  pub laws : Laws s
  laws = record { answers = answers; refuses = refuses; counts = counts }

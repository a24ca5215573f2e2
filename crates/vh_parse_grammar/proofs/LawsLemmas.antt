-- The laws of reading: what is known of each production and of a whole source.
use Rattle.std.proofs.Common.{◌≡◌, ℕ, zero, suc, ◌+◌, ◌<◌, ◌≤◌, Bool, true, false, List, [], ◌∷◌, ◌++◌, length, ◌⊎◌, inl, inr, ◌↔◌, refl, sym, ap, ◌∙◌, arith, length-append, append_assoc, append-nil, suc-add, zero-add}
use Rattle.vh_parse_grammar.specs.Part.{Part, done, tok, seq, bind, act, alt, rep, iter, nested, unless, barred}
use Rattle.vh_parse_grammar.specs.Reading.{Fault, lost, deep, left_out, Out, got, stop, next_is, past_levels, reader, read, whole}
use Rattle.vh_parse_grammar.specs.Omissions.{omission_at, refusal, noting_past, noting_at, noted, answered, answered_whole}
use Rattle.vh_parse_grammar.specs.Sentences.{Repeats, AfterTurns, ShowsHere, Reads, Meets, MeetsPast, Shows, ReadsAt, MeetsAt, ShowsAt}
use Rattle.vh_parse_grammar.specs.Conditions.{eats, Advances}
use Rattle.vh_parse_grammar.specs.Firsts.{first_at}
use Rattle.vh_parse_grammar.specs.Language.{SpellsAt, OpensAt}
use Rattle.vh_parse_grammar.specs.Table.{Table, production, whole_source, IsLeft}
use Rattle.vh_parse_grammar.specs.Laws.{LawsOfProductions, LawsOfSources, ClassesAreFirsts, SpellsWithoutClasses, BeginsWithoutClasses}
use Rattle.vh_parse_grammar.proofs.Size.{weight, Sized, size-less, size-reader}
use Rattle.vh_parse_grammar.proofs.Outcomes.{Says_of, reader-sound, reader-tree, reader-fault}
use Rattle.vh_parse_grammar.proofs.Places.{Late, Cut, cut-reader}
use Rattle.vh_parse_grammar.proofs.Starts.{Ended, reader-begins, reader-ended}
use Rattle.vh_parse_grammar.proofs.Levels.{Below, none-lost, reader-below}
use Rattle.vh_parse_grammar.proofs.Parts.{On, Met, size-part, cut-part, tree-part, fault-part, sound-part, begins-part, ended-part, below-part}
use Rattle.vh_parse_grammar.proofs.OmissionsLemmas.{attached, Peak, peak-at, peak-map, peak-then, Judged, run-judged, reader-judged, Same, same-of, run-same}
use Rattle.vh_parse_grammar.proofs.ShownLemmas.{Behind, Inside, inside-here, inside-mid, inside-next, here-down, here-up, got-cut, run-inside, run-behind, run-front, run-down, run-up, reader-inside, reader-behind, reader-front, reader-down, reader-up}
use Rattle.vh_parse_grammar.proofs.Subjects.{Pure, Facts, laws}
use Rattle.vh_parse_grammar.proofs.ChoicesLemmas.{chooses, to-reads, from-reads, to-begins, from-begins, spells-reads, reads-spells, opens-begins, begins-opens}

-- The pure grammar leaves nothing out
no-turn : {T S : Type 0} (Turn : S → S → List T → List T → Type 0) (End : S → List T → Type 0) → ((s : S) (ts : List T) → End s ts → ⊥) → (n : ℕ) (s : S) (ts : List T) → AfterTurns Turn End n s ts → ⊥
no-turn Turn End f zero s ts h = f s ts h
no-turn Turn End f (suc n) s ts h = no-turn Turn End f n h.0 h.1 h.3

no-left : {T P : Type 0} {V : P → Type 0} (N : (p : P) → V p → List T → List T → Type 0) (M : (p : P) → Fault → List T → ℕ → Type 0) → ((p : P) (ts : List T) (left : ℕ) → M p left_out ts left → ⊥) → {A : Type 0} (p : Part T V A) (ts : List T) (left : ℕ) → Meets N M p left_out ts left → ⊥
no-left N M f (done a) ts left h = h
no-left N M f (tok meaning) ts left h = let e : left_out ≡ lost = h.0 in cc
no-left N M f (seq p q) ts left (inl h) = no-left N M f p ts left h
no-left N M f (seq p q) ts left (inr h) = no-left N M f q h.1 left h.3
no-left N M f (bind p q) ts left (inl h) = no-left N M f p ts left h
no-left N M f (bind p q) ts left (inr h) = no-left N M f (q h.0) h.1 left h.3
no-left N M f (act g p) ts left h = no-left N M f p ts left h
no-left N M f (alt class p q) ts left (inl h) = no-left N M f p ts left h.1
no-left N M f (alt class p q) ts left (inr h) = no-left N M f q ts left h.1
no-left N M f (rep {A} class p) ts left h = no-turn {S = Unit {0}} (λ _ _ m r. (next_is class m ≡ true) × ((a : A) × Reads N p a m r)) (λ _ m. (next_is class m ≡ true) × Meets N M p left_out m left) (λ _ m e. no-left N M f p m left e.1) h.0 tt ts h.1
no-left N M f (iter class part s) ts left h = no-turn (λ u v m r. (next_is (class u) m ≡ true) × Reads N (part u) v m r) (λ u m. (next_is (class u) m ≡ true) × Meets N M (part u) left_out m left) (λ u m e. no-left N M f (part u) m left e.1) h.0 s ts h.1
no-left N M f (nested p) ts left h = f p ts left h
no-left N M f (unless class p) ts left h = no-left N M f p ts left h
no-left N M f (barred class p) ts left h = no-left N M f p ts left h

pure-of : {T A : Type 0} (I : A → List T → List T → Type 0) (E : Fault → List T → ℕ → Type 0) (ts : List T) (o : Out T A) → Says_of I E ts o → ((left : ℕ) → E left_out ts left → ⊥) → Pure o
pure-of I E ts (got a rest) s f = tt
pure-of I E ts (stop lost left) s f = tt
pure-of I E ts (stop deep left) s f = tt
pure-of I E ts (stop left_out left) s f = f left s

past-none : {T : Type 0} (ts : List T) (left : ℕ) → MeetsPast left_out ts left → ⊥
past-none [] left h = let e : left_out ≡ lost = h.0 in cc
past-none (t ∷ ts) left h = let e : left_out ≡ deep = h.0 in cc

-- What is left is the end of the tokens
joined-end : {T : Type 0} (ts mid rest us vs : List T) → ts ≡ us ++ mid → mid ≡ vs ++ rest → ts ≡ (us ++ vs) ++ rest
joined-end {T} ts mid rest us vs e d = rw append_assoc (e ∙ ap (λ (z : List T). us ++ z) d)

abbrev EndOf : {T : Type 0} → List T → List T → Type 0
EndOf {T} ts rest = (us : List T) × (ts ≡ us ++ rest)

end-then : {T : Type 0} (ts mid rest : List T) → EndOf ts mid → EndOf mid rest → EndOf ts rest
end-then ts mid rest i r = (i.0 ++ r.0, joined-end ts mid rest i.0 r.0 i.1 r.1)

repeats-end : {T A : Type 0} (Item : A → List T → List T → Type 0) (End : List T → Type 0) → ((a : A) (ts rest : List T) → Item a ts rest → EndOf ts rest) → (list : List A) (ts rest : List T) → Repeats Item End list ts rest → EndOf ts rest
repeats-end Item End f [] ts rest h = ([], sym h.0)
repeats-end Item End f (a ∷ more) ts rest h = end-then ts h.0 rest (f a ts h.0 h.1) (repeats-end Item End f more h.0 rest h.2)

turns-end : {T S : Type 0} (Turn : S → S → List T → List T → Type 0) (End : S → List T → Type 0) (rest : List T) → ((u v : S) (m r : List T) → Turn u v m r → EndOf m r) → ((u : S) (m : List T) → End u m → rest ≡ m) → (n : ℕ) (s : S) (ts : List T) → AfterTurns Turn End n s ts → EndOf ts rest
turns-end Turn End rest f g zero s ts h = ([], sym (g s ts h))
turns-end Turn End rest f g (suc n) s ts h = end-then ts h.1 rest (f s h.0 ts h.1 h.2) (turns-end Turn End rest f g n h.0 h.1 h.3)

reads-end : {T P : Type 0} {V : P → Type 0} (N : (p : P) → V p → List T → List T → Type 0) → ((p : P) (a : V p) (ts rest : List T) → N p a ts rest → EndOf ts rest) → {A : Type 0} (p : Part T V A) (a : A) (ts rest : List T) → Reads N p a ts rest → EndOf ts rest
reads-end N f (done b) a ts rest h = ([], sym h.1)
reads-end N f (tok meaning) a ts rest h = (h.0 ∷ [], h.1)
reads-end N f (seq p q) a ts rest h = end-then ts h.0 rest (reads-end N f p a.0 ts h.0 h.1) (reads-end N f q a.1 h.0 rest h.2)
reads-end N f (bind p q) b ts rest h = end-then ts h.1 rest (reads-end N f p h.0 ts h.1 h.2) (reads-end N f (q h.0) b h.1 rest h.3)
reads-end N f (act g p) b ts rest h = reads-end N f p h.0 ts rest h.2
reads-end N f (alt class p q) a ts rest (inl h) = reads-end N f p a ts rest h.1
reads-end N f (alt class p q) a ts rest (inr h) = reads-end N f q a ts rest h.1
reads-end N f (rep class p) a ts rest h = repeats-end (λ a m r. (next_is class m ≡ true) × Reads N p a m r) (λ m. next_is class m ≡ false) (λ a m r i. reads-end N f p a m r i.1) a ts rest h
reads-end N f (iter class part s) a ts rest h = turns-end (λ u v m r. (next_is (class u) m ≡ true) × Reads N (part u) v m r) (λ u m. (a ≡ u) × (rest ≡ m) × (next_is (class u) m ≡ false)) rest (λ u w m r i. reads-end N f (part u) w m r i.1) (λ u m e. e.1) h.0 s ts h.1
reads-end N f (nested p) a ts rest h = f p a ts rest h
reads-end N f (unless class p) a ts rest h = reads-end N f p a ts rest h
reads-end N f (barred class p) a ts rest h = reads-end N f p a ts rest h

-- A whole source
whole-tree : {T A : Type 0} (a : A) (rest : List T) (o : Out T A) → whole o ≡ got a rest → (o ≡ got a []) × (rest ≡ [])
whole-tree a rest (got b []) e = (cc, cc)
whole-tree a rest (got b (t ∷ ts)) e = cc
whole-tree a rest (stop fault left) e = cc

ended-whole : {T A : Type 0} (o : Out T A) → Ended o → Ended (whole o)
ended-whole (got a []) e = e
ended-whole (got a (t ∷ ts)) e = absurd (none e)
  where
    none : (t ∷ ts) ≡ [] → ⊥
    none q = cc
ended-whole (stop fault left) e = e

whole-ended : {T A : Type 0} (o : Out T A) → Ended (whole o) → Ended o
whole-ended (got a []) e = e
whole-ended (got a (t ∷ ts)) e = let k : suc (length ts) ≡ 0 = e in absurd (omega arith)
whole-ended (stop fault left) e = e

whole-pure : {T A : Type 0} (o : Out T A) → Pure o → Pure (whole o)
whole-pure (got a []) p = tt
whole-pure (got a (t ∷ ts)) p = tt
whole-pure (stop fault left) p = p

whole-sized : {T A : Type 0} (ts : List T) (o : Out T A) → Sized 0 ts o → Sized 0 ts (whole o)
whole-sized ts (got a []) s = s
whole-sized ts (got a (t ∷ rest)) s = omega arith
whole-sized ts (stop fault left) s = s

whole-late : {T A : Type 0} (zs : List T) (o : Out T A) → Late zs o → Late zs (whole o)
whole-late zs (got a []) l = l
whole-late zs (got a (t ∷ ts)) l = l
whole-late zs (stop fault left) l = l

whole-cut : {T A : Type 0} (zs : List T) (o' o : Out T A) → Cut zs o' o → Cut zs (whole o') (whole o)
whole-cut zs (got a []) o c = whole-late zs o c
whole-cut {T} {A} zs (got a (t ∷ ts)) o c = let e : suc (length (ts ++ zs)) ≡ suc (length ts) + length zs = omega (arith, length-append ts zs) in rw (c, e)
whole-cut zs (stop lost zero) o c = whole-late zs o c
whole-cut zs (stop lost (suc left)) o c = rw c
whole-cut zs (stop deep left) o c = rw c
whole-cut zs (stop left_out left) o c = rw c

whole-below : {T A : Type 0} (x y : Out T A) → Below x y → Below (whole x) (whole y)
whole-below (got a []) y b = rw b
whole-below (got a (t ∷ ts)) y b = rw b
whole-below (stop lost left) y b = rw b
whole-below (stop deep left) y b = tt
whole-below (stop left_out left) y b = rw b

whole-behind : {T A : Type 0} (n : ℕ) (o : Out T A) → Behind n o → Behind n (whole o)
whole-behind n (got a []) b = b
whole-behind n (got a (t ∷ ts)) b = b
whole-behind n (stop fault left) b = b

whole-met : {T A : Type 0} (fault : Fault) (left : ℕ) (o : Out T A) → whole o ≡ stop fault left → (o ≡ stop fault left) ⊎ ((a : A) × (next : T) × (more : List T) × (o ≡ got a (next ∷ more)) × (fault ≡ lost) × (left ≡ suc (length more)))
whole-met fault left (got a []) e = cc
whole-met fault left (got a (t ∷ ts)) e = inr (a, t, ts, refl, cc, cc)
whole-met fault left (stop f j) e = inl e

-- What is known of a part, with its noted
module _ {T P : Type 0} {V : P → Type 0} (word : T → Bool) (grammar : (p : P) → Part T V (V p)) (eating : (p : P) → eats (grammar p) ≡ true) (advancing : (p : P) → Advances (grammar p)) where
  abbrev Shown : ℕ → {A : Type 0} → Part T V A → List T → ℕ → ℕ → Type 0
  Shown n p = Shows (ReadsAt grammar n) word (ShowsAt grammar word n) p

  reader-none : (n : ℕ) (p : P) (ts : List T) (left : ℕ) → MeetsAt grammar n p left_out ts left → ⊥
  reader-none zero p ts left h = past-none ts left h
  reader-none (suc n) p ts left h = no-left (ReadsAt grammar n) (MeetsAt grammar n) (reader-none n) (grammar p) ts left h

  reader-end : (n : ℕ) (p : P) (a : V p) (ts rest : List T) → ReadsAt grammar n p a ts rest → EndOf ts rest
  reader-end zero p a ts rest h = absurd h
  reader-end (suc n) p a ts rest h = reads-end (ReadsAt grammar n) (reader-end n) (grammar p) a ts rest h

  judged-part : {A : Type 0} (n : ℕ) (p : Part T V A) → Advances p → (ts : List T) (m : ℕ) → Judged (Shown n p ts) m (read grammar n p ts) (noted word grammar n p ts m)
  judged-part n p v ts m = run-judged word (reader grammar n) (noting_at word grammar n) (ReadsAt grammar n) (MeetsAt grammar n) (ShowsAt grammar word n) (size-reader grammar eating n) (reader-sound grammar eating advancing n) (reader-tree grammar eating advancing n) (reader-judged word grammar eating advancing n) p v ts m

  inside-part : {A : Type 0} (n : ℕ) (p : Part T V A) → Advances p → (ts : List T) (place shown : ℕ) → Shown n p ts place shown → Inside ts place shown
  inside-part n p v = run-inside word (reader grammar n) (ReadsAt grammar n) (MeetsAt grammar n) (ShowsAt grammar word n) (size-reader grammar eating n) (reader-sound grammar eating advancing n) (reader-tree grammar eating advancing n) (reader-inside word grammar eating advancing n) p v

  behind-part : {A : Type 0} (n : ℕ) (p : Part T V A) → Advances p → (ts : List T) (place shown : ℕ) → Shown n p ts place shown → Behind shown (read grammar n p ts)
  behind-part n p v = run-behind word (reader grammar n) (ReadsAt grammar n) (MeetsAt grammar n) (ShowsAt grammar word n) (size-reader grammar eating n) (reader-sound grammar eating advancing n) (reader-tree grammar eating advancing n) (reader-behind word grammar eating advancing n) p v

  front-part : {A : Type 0} (n : ℕ) (p : Part T V A) → Advances p → (us zs : List T) (place : ℕ) → Shown n p (us ++ zs) place (length zs) → Ended (read grammar n p us)
  front-part n p v = run-front word (reader grammar n) (ReadsAt grammar n) (MeetsAt grammar n) (ShowsAt grammar word n) (size-reader grammar eating n) (reader-sound grammar eating advancing n) (reader-tree grammar eating advancing n) (cut-reader grammar eating advancing n) (reader-inside word grammar eating advancing n) (reader-front word grammar eating advancing n) p v

  down-part : {A : Type 0} (n : ℕ) (p : Part T V A) → Advances p → (us zs : List T) (k j : ℕ) → 0 < j → Shown n p (us ++ zs) (k + length zs) (j + length zs) → Shown n p us k j
  down-part n p v = run-down word (reader grammar n) (ReadsAt grammar n) (MeetsAt grammar n) (ShowsAt grammar word n) (size-reader grammar eating n) (reader-sound grammar eating advancing n) (reader-tree grammar eating advancing n) (cut-reader grammar eating advancing n) (reader-inside word grammar eating advancing n) (reader-down word grammar eating advancing n) p v

  up-part : {A : Type 0} (n : ℕ) (p : Part T V A) → Advances p → (us zs : List T) (k j : ℕ) → Shown n p us k j → Shown n p (us ++ zs) (k + length zs) (j + length zs)
  up-part n p v = run-up word (reader grammar n) (ReadsAt grammar n) (MeetsAt grammar n) (ShowsAt grammar word n) (size-reader grammar eating n) (reader-sound grammar eating advancing n) (reader-tree grammar eating advancing n) (cut-reader grammar eating advancing n) (reader-inside word grammar eating advancing n) (reader-up word grammar eating advancing n) p v

  -- on more levels
  past-same : (p : P) (ts : List T) (m : ℕ) → Same (past_levels {A = V p} ts) (noting_past word ts m) (noting_at word grammar 1 p ts m)
  past-same p [] m =
      let j : Judged (ShowsAt grammar word 1 p []) m (reader grammar 1 p []) (noting_at word grammar 1 p [] m) = reader-judged word grammar eating advancing 1 p [] m in
      let e : reader grammar 1 p [] ≡ stop lost 0 = none-lost grammar eating (reader grammar 1 p []) (size-reader grammar eating 1 p []) in
      let k : j.0 ≡ m = elim j.2.is [ inl e ↦ e | inr q ↦ none j.0 q.0 (reader-inside word grammar eating advancing 1 p [] j.0 q.0 q.1) ] in
      j.1 ∙ (rw (e, k) refl)
    where
      none : (k shown : ℕ) → Inside {T = T} [] k shown → k ≡ m
      none k shown i = let a : 0 < shown = i.0 in let b : shown ≤ k = i.1 in let c : k ≤ 0 = i.2 in absurd (omega arith)
  past-same p (t ∷ ts) m = tt

  one-same : (n : ℕ) (p : P) (ts : List T) (m : ℕ) → Same (reader grammar n p ts) (noting_at word grammar n p ts m) (noting_at word grammar (suc n) p ts m)
  one-same zero p ts m = past-same p ts m
  one-same (suc n) p ts m = run-same word (reader grammar n) (noting_at word grammar n) (noting_at word grammar (suc n)) (ReadsAt grammar n) (MeetsAt grammar n) (ShowsAt grammar word n) (size-reader grammar eating n) (reader-sound grammar eating advancing n) (reader-tree grammar eating advancing n) (reader-judged word grammar eating advancing n) (one-same n) (grammar p) (advancing p) ts m

  same-trans : {A X : Type 0} (o o' : Out T A) (x y z : Out T X) → Below o o' → Same o x y → Same o' y z → Same o x z
  same-trans {A} {X} (got a rest) o' x y z b s r = let q : Same {T = T} (got a rest) y z = rw b at r in q ∙ s
  same-trans {A} {X} (stop lost left) o' x y z b s r = let q : Same {T = T} {A = A} (stop lost left) y z = rw b at r in q ∙ s
  same-trans (stop deep left) o' x y z b s r = tt
  same-trans {A} {X} (stop left_out left) o' x y z b s r = let q : Same {T = T} {A = A} (stop left_out left) y z = rw b at r in q ∙ s

  pub reader-same : (n more : ℕ) (p : P) (ts : List T) (m : ℕ) → Same (reader grammar n p ts) (noting_at word grammar n p ts m) (noting_at word grammar (more + n) p ts m)
  reader-same n zero p ts m = rw zero-add (same-of (reader grammar n p ts) (noting_at word grammar n p ts m) (noting_at word grammar n p ts m) refl)
  reader-same n (suc more) p ts m =
      rw suc-add (same-trans (reader grammar n p ts) (reader grammar (more + n) p ts) (noting_at word grammar n p ts m) (noting_at word grammar (more + n) p ts m) (noting_at word grammar (suc (more + n)) p ts m) (reader-below grammar eating n more p ts) (reader-same n more p ts m) (one-same (more + n) p ts m))

  same-part : {A : Type 0} (n more : ℕ) (p : Part T V A) → Advances p → (ts : List T) (m : ℕ) → Same (read grammar n p ts) (noted word grammar n p ts m) (noted word grammar (more + n) p ts m)
  same-part n more p v ts m = run-same word (reader grammar n) (noting_at word grammar n) (noting_at word grammar (more + n)) (ReadsAt grammar n) (MeetsAt grammar n) (ShowsAt grammar word n) (size-reader grammar eating n) (reader-sound grammar eating advancing n) (reader-tree grammar eating advancing n) (reader-judged word grammar eating advancing n) (reader-same n more) p v ts m

-- A reading that isn't too deep
same-is : {T A X : Type 0} (o : Out T A) (x y : Out T X) → ((left : ℕ) → o ≡ stop deep left → ⊥) → Same o x y → y ≡ x
same-is (got a rest) x y f s = s
same-is (stop lost left) x y f s = s
same-is (stop deep left) x y f s = absurd (f left refl)
same-is (stop left_out left) x y f s = s

module _ (t : Table) where
  -- a production
  production-facts : (p : t.Name) → Facts (production t p) (λ n. reader t.grammar n p)
  production-facts p = record {
    pure = λ n ts. pure-of (ReadsAt t.grammar n p) (MeetsAt t.grammar n p) ts (reader t.grammar n p ts) (reader-sound t.grammar t.eating t.advancing n p ts) (reader-none t.left_out t.grammar t.eating t.advancing n p ts);
    is = λ n a ts rest. (λ h. reader-tree t.grammar t.eating t.advancing n p a ts rest h, λ e. rw e at (reader-sound t.grammar t.eating t.advancing n p ts));
    refuses = λ n fault ts left. (λ h. reader-fault t.grammar t.eating t.advancing n p fault ts left h, λ e. rw e at (reader-sound t.grammar t.eating t.advancing n p ts));
    starts = λ n ts. (reader-ended t.grammar t.eating t.advancing n p ts, reader-begins t.grammar t.eating t.advancing n p ts);
    judged = λ n ts. let j : Judged (ShowsAt t.grammar t.left_out n p ts) 0 (reader t.grammar n p ts) (noting_at t.left_out t.grammar n p ts 0) = reader-judged t.left_out t.grammar t.eating t.advancing n p ts 0 in (j.0, ap answered j.1, j.2);
    sized = λ n ts. size-less 1 0 ts (reader t.grammar n p ts) (omega arith) (size-reader t.grammar t.eating n p ts);
    cut = λ n us zs. cut-reader t.grammar t.eating t.advancing n p us zs;
    suffix = λ n a ts rest e. reader-end t.left_out t.grammar t.eating t.advancing n p a ts rest (rw e at (reader-sound t.grammar t.eating t.advancing n p ts));
    below = λ n more ts. reader-below t.grammar t.eating n more p ts;
    same = λ n more ts f. ap answered (same-is (reader t.grammar n p ts) (noting_at t.left_out t.grammar n p ts 0) (noting_at t.left_out t.grammar (more + n) p ts 0) f (reader-same t.left_out t.grammar t.eating t.advancing n more p ts 0));
    inside = λ n ts place shown h. reader-inside t.left_out t.grammar t.eating t.advancing n p ts place shown h;
    behind = λ n ts place shown h. reader-behind t.left_out t.grammar t.eating t.advancing n p ts place shown h;
    front = λ n us zs place h. reader-front t.left_out t.grammar t.eating t.advancing n p us zs place h;
    down = λ n us zs k j l h. reader-down t.left_out t.grammar t.eating t.advancing n p us zs k j l h;
    up = λ n us zs k j h. reader-up t.left_out t.grammar t.eating t.advancing n p us zs k j h;
  }

  pub laws_of_productions : LawsOfProductions t
  laws_of_productions p = laws (production t p) (λ n. reader t.grammar n p) (production-facts p)

  -- a whole source
  abbrev parsed : ℕ → List t.Token → Out t.Token t.Source
  parsed n ts = whole (read t.grammar n t.start ts)

  abbrev Parses : ℕ → t.Source → List t.Token → List t.Token → Type 0
  Parses n a ts rest = On t.grammar n t.start a ts rest

  tree : (n : ℕ) (a : t.Source) (ts rest : List t.Token) → Parses n a ts rest → read t.grammar n t.start ts ≡ got a rest
  tree n a ts rest h = tree-part t.grammar t.eating t.advancing n t.start t.start_advancing a ts rest h

  says : (n : ℕ) (ts : List t.Token) (o : Out t.Token t.Source) → read t.grammar n t.start ts ≡ o → Says_of (On t.grammar n t.start) (Met t.grammar n t.start) ts o
  says n ts o e = rw e at (sound-part t.grammar t.eating t.advancing n t.start t.start_advancing ts)

  cut : (n : ℕ) (us zs : List t.Token) → Cut zs (read t.grammar n t.start us) (read t.grammar n t.start (us ++ zs))
  cut n us zs = cut-part t.grammar t.eating t.advancing n t.start t.start_advancing us zs

  sized : (n : ℕ) (ts : List t.Token) → Sized 0 ts (read t.grammar n t.start ts)
  sized n ts = size-less (weight (eats t.start)) 0 ts (read t.grammar n t.start ts) (omega arith) (size-part t.grammar t.eating t.advancing n t.start ts)

  shorter : (n : ℕ) (a : t.Source) (ts rest : List t.Token) → Parses n a ts rest → length rest ≤ length ts
  shorter n a ts rest h = go (rw (tree n a ts rest h) at (sized n ts))
    where
      go : 0 + length rest ≤ length ts → length rest ≤ length ts
      go l = omega arith

  source-is : (n : ℕ) (a : t.Source) (ts rest : List t.Token) → (whole_source t).Is n a ts rest ↔ (parsed n ts ≡ got a rest)
  source-is n a ts rest = (
    λ h. rw (tree n a ts [] h.0, h.1),
    λ e. let g : (read t.grammar n t.start ts ≡ got a []) × (rest ≡ []) = whole-tree a rest (read t.grammar n t.start ts) e in (says n ts (got a []) g.0, g.1),
  )

  source-refuses : (n : ℕ) (fault : Fault) (ts : List t.Token) (left : ℕ) → (whole_source t).Refuses n fault ts left ↔ (parsed n ts ≡ stop fault left)
  source-refuses n fault ts left = (to, from)
    where
      to : (whole_source t).Refuses n fault ts left → parsed n ts ≡ stop fault left
      to (inl h) = rw (fault-part t.grammar t.eating t.advancing n t.start t.start_advancing fault ts left h)
      to (inr h) = rw (tree n h.2.0 ts (h.0 ∷ h.1) h.2.1, h.3, h.4)

      from : parsed n ts ≡ stop fault left → (whole_source t).Refuses n fault ts left
      from e = elim (whole-met fault left (read t.grammar n t.start ts) e) [ inl g ↦ inl (says n ts (stop fault left) g) | inr g ↦ inr (g.1, g.2, (g.0, says n ts (got g.0 (g.1 ∷ g.2)) g.3), g.4, g.5) ]

  source-starts : (n : ℕ) (ts : List t.Token) → (whole_source t).Starts n ts ↔ Ended (parsed n ts)
  source-starts n ts = (
    λ h. ended-whole (read t.grammar n t.start ts) (ended-part t.grammar t.eating t.advancing n t.start t.start_advancing ts h),
    λ e. begins-part t.grammar t.eating t.advancing n t.start t.start_advancing ts (whole-ended (read t.grammar n t.start ts) e),
  )

  -- the noted of a source are those of its part, and a word that is left over
  abbrev S : ℕ → List t.Token → ℕ → ℕ → Type 0
  S n ts = Shown t.left_out t.grammar t.eating t.advancing n t.start ts

  source-judged : (n : ℕ) (ts : List t.Token) → (k : ℕ) × ((whole_source t).answer n ts ≡ answered (attached k (parsed n ts))) × Peak ((whole_source t).LeavesOut n ts) 0 k
  source-judged n ts = go (read t.grammar n t.start ts) refl (judged-part t.left_out t.grammar t.eating t.advancing n t.start t.start_advancing ts 0)
    where
      same : (a b : t.Source) (r m : List t.Token) → got a r ≡ got b m → m ≡ r
      same a b r m e = cc

      never : (a : t.Source) (fault : Fault) (left : ℕ) (rest : List t.Token) → stop fault left ≡ got a rest → ⊥
      never a fault left rest e = cc

      finish : (k : ℕ) (fault : Fault) (left : ℕ) → answered_whole {T = t.Token} {A = t.Source} t.left_out (refusal fault left k) ≡ answered (refusal fault left k)
      finish zero fault left = refl
      finish (suc k) fault left = refl

      refusal-answer : (k : ℕ) (fault : Fault) (left : ℕ) → refusal {T = t.Token} {A = t.Source} fault left k ≡ answered (refusal fault left k)
      refusal-answer zero fault left = refl
      refusal-answer (suc k) fault left = refl

      go : (o : Out t.Token t.Source) → read t.grammar n t.start ts ≡ o → Judged (S n ts) 0 o (noted t.left_out t.grammar n t.start ts 0) → (k : ℕ) × ((whole_source t).answer n ts ≡ answered (attached k (whole o))) × Peak ((whole_source t).LeavesOut n ts) 0 k
      go (got a []) e j = (
        j.0,
        ap (λ (z : Out t.Token (t.Source × ℕ)). answered_whole t.left_out z) j.1,
        peak-map (S n ts) ((whole_source t).LeavesOut n ts) 0 j.0 (λ place shown s. inl s) (λ place shown s. elim s [ inl s ↦ s | inr s ↦ absurd (empty place shown s.0 s.1 s.2) ]) j.2,
      )
        where
          empty : (place shown : ℕ) (rest : List t.Token) → IsLeft t n ts rest → ShowsHere t.left_out rest place shown → ⊥
          empty place shown rest h w = let q : rest ≡ [] = same a h.0 [] rest (sym e ∙ tree n h.0 ts rest h.1) in let b : next_is t.left_out [] ≡ true = rw q at w.0 in cc
      go (got a (x ∷ m)) e j = (
        omission_at (x ∷ m) (t.left_out x) j.0,
        ap (λ (z : Out t.Token (t.Source × ℕ)). answered_whole t.left_out z) j.1 ∙ refusal-answer (omission_at (x ∷ m) (t.left_out x) j.0) lost (suc (length m)),
        peak-then (S n ts) (λ place shown. (t.left_out x ≡ true) × (place ≡ length (x ∷ m)) × (shown ≡ length (x ∷ m))) ((whole_source t).LeavesOut n ts) 0 j.0 (omission_at (x ∷ m) (t.left_out x) j.0)
            (λ place shown s. inl s)
            (λ place shown s. inr (x ∷ m, (a, says n ts (got a (x ∷ m)) e), s))
            (λ place shown s. elim s [ inl s ↦ inl s | inr s ↦ inr (over place shown s.0 s.1 s.2) ])
            j.2
            (peak-at (x ∷ m) (length (x ∷ m)) (t.left_out x) (t.left_out x) j.0 refl),
      )
        where
          over : (place shown : ℕ) (rest : List t.Token) → IsLeft t n ts rest → ShowsHere t.left_out rest place shown → (t.left_out x ≡ true) × (place ≡ length (x ∷ m)) × (shown ≡ length (x ∷ m))
          over place shown rest h w = let q : rest ≡ x ∷ m = same a h.0 (x ∷ m) rest (sym e ∙ tree n h.0 ts rest h.1) in rw q at w
      go (stop fault left) e j = (
        j.0,
        ap (λ (z : Out t.Token (t.Source × ℕ)). answered_whole t.left_out z) j.1 ∙ finish j.0 fault left,
        peak-map (S n ts) ((whole_source t).LeavesOut n ts) 0 j.0 (λ place shown s. inl s) (λ place shown s. elim s [ inl s ↦ s | inr s ↦ absurd (never s.1.0 fault left s.0 (sym e ∙ tree n s.1.0 ts s.0 s.1.1)) ]) j.2,
      )

  source-inside : (n : ℕ) (ts : List t.Token) (place shown : ℕ) → (whole_source t).LeavesOut n ts place shown → Inside ts place shown
  source-inside n ts place shown (inl h) = inside-part t.left_out t.grammar t.eating t.advancing n t.start t.start_advancing ts place shown h
  source-inside n ts place shown (inr h) = inside-mid ts h.0 place shown (shorter n h.1.0 ts h.0 h.1.1) (inside-here t.left_out h.0 place shown h.2)

  source-behind : (n : ℕ) (ts : List t.Token) (place shown : ℕ) → (whole_source t).LeavesOut n ts place shown → Behind shown (parsed n ts)
  source-behind n ts place shown (inl h) = whole-behind shown (read t.grammar n t.start ts) (behind-part t.left_out t.grammar t.eating t.advancing n t.start t.start_advancing ts place shown h)
  source-behind n ts place shown (inr h) = whole-behind shown (read t.grammar n t.start ts) (rw (tree n h.1.0 ts h.0 h.1.1, h.2.2) (omega arith))

  source-front : (n : ℕ) (us zs : List t.Token) (place : ℕ) → (whole_source t).LeavesOut n (us ++ zs) place (length zs) → Ended (parsed n us)
  source-front n us zs place (inl h) = ended-whole (read t.grammar n t.start us) (front-part t.left_out t.grammar t.eating t.advancing n t.start t.start_advancing us zs place h)
  source-front n us zs place (inr h) = ended-whole (read t.grammar n t.start us) (go (read t.grammar n t.start us) (rw (tree n h.1.0 (us ++ zs) h.0 h.1.1) at (cut n us zs)))
    where
      go : (o : Out t.Token t.Source) → Cut zs o (got h.1.0 h.0) → Ended o
      go (got a []) c = refl
      go (got a (x ∷ m)) c = let q : h.0 ≡ x ∷ (m ++ zs) = cc in let l : length zs ≡ length h.0 = h.2.2 in let k : length h.0 ≡ suc (length (m ++ zs)) = ap length q in absurd (omega (arith, length-append m zs))
      go (stop lost zero) c = refl
      go (stop lost (suc left)) c = cc
      go (stop deep left) c = cc
      go (stop left_out left) c = cc

  source-down : (n : ℕ) (us zs : List t.Token) (k j : ℕ) → 0 < j → (whole_source t).LeavesOut n (us ++ zs) (k + length zs) (j + length zs) → (whole_source t).LeavesOut n us k j
  source-down n us zs k j l (inl h) = inl (down-part t.left_out t.grammar t.eating t.advancing n t.start t.start_advancing us zs k j l h)
  source-down n us zs k j l (inr h) =
      let x : j + length zs ≡ length h.0 = h.2.2 in
      let c : (u : t.Token) × (m : List t.Token) × (read t.grammar n t.start us ≡ got h.1.0 (u ∷ m)) × (h.0 ≡ (u ∷ m) ++ zs) = got-cut zs h.0 h.1.0 (read t.grammar n t.start us) (read t.grammar n t.start (us ++ zs)) (cut n us zs) (tree n h.1.0 (us ++ zs) h.0 h.1.1) (omega arith) in
      inr (c.0 ∷ c.1, (h.1.0, says n us (got h.1.0 (c.0 ∷ c.1)) c.2), here-down t.left_out (c.0 ∷ c.1) zs k j l (rw c.3 at h.2))

  source-up : (n : ℕ) (us zs : List t.Token) (k j : ℕ) → (whole_source t).LeavesOut n us k j → (whole_source t).LeavesOut n (us ++ zs) (k + length zs) (j + length zs)
  source-up n us zs k j (inl h) = inl (up-part t.left_out t.grammar t.eating t.advancing n t.start t.start_advancing us zs k j h)
  source-up n us zs k j (inr h) = inr (h.0 ++ zs, (h.1.0, says n (us ++ zs) (got h.1.0 (h.0 ++ zs)) (more h.0 (tree n h.1.0 us h.0 h.1.1) (inside-next t.left_out h.0 h.2.0))), here-up t.left_out h.0 zs k j h.2)
    where
      more : (rest : List t.Token) → read t.grammar n t.start us ≡ got h.1.0 rest → 0 < length rest → read t.grammar n t.start (us ++ zs) ≡ got h.1.0 (rest ++ zs)
      more [] e l = absurd (omega arith)
      more (x ∷ m) e l = rw e at (cut n us zs)

  source-facts : Facts (whole_source t) parsed
  source-facts = record {
    pure = λ n ts. whole-pure (read t.grammar n t.start ts) (pure-of (On t.grammar n t.start) (Met t.grammar n t.start) ts (read t.grammar n t.start ts) (says n ts (read t.grammar n t.start ts) refl) (λ left h. no-left (ReadsAt t.grammar n) (MeetsAt t.grammar n) (reader-none t.left_out t.grammar t.eating t.advancing n) t.start ts left h));
    is = source-is;
    refuses = source-refuses;
    starts = source-starts;
    judged = source-judged;
    sized = λ n ts. whole-sized ts (read t.grammar n t.start ts) (sized n ts);
    cut = λ n us zs. whole-cut zs (read t.grammar n t.start us) (read t.grammar n t.start (us ++ zs)) (cut n us zs);
    suffix = λ n a ts rest e. (ts, let g : (read t.grammar n t.start ts ≡ got a []) × (rest ≡ []) = whole-tree a rest (read t.grammar n t.start ts) e in rw (g.1, append-nil) refl);
    below = λ n more ts. whole-below (read t.grammar n t.start ts) (read t.grammar (more + n) t.start ts) (below-part t.grammar t.eating t.advancing n more t.start ts);
    same = λ n more ts f. ap (λ (z : Out t.Token (t.Source × ℕ)). answered_whole t.left_out z)
        (same-is (read t.grammar n t.start ts) (noted t.left_out t.grammar n t.start ts 0) (noted t.left_out t.grammar (more + n) t.start ts 0) (λ left e. f left (ap (λ (z : Out t.Token t.Source). whole z) e)) (same-part t.left_out t.grammar t.eating t.advancing n more t.start t.start_advancing ts 0));
    inside = source-inside;
    behind = source-behind;
    front = source-front;
    down = source-down;
    up = source-up;
  }

  pub laws_of_sources : LawsOfSources t
  laws_of_sources = laws (whole_source t) parsed source-facts

  -- the choices
  abbrev firsts : t.Name → t.Token → Bool
  firsts = first_at t.grammar t.reach

  pub classes_are_firsts : ClassesAreFirsts t
  classes_are_firsts = (
    λ p. chooses t.grammar t.eating t.advancing t.reach t.settled t.heeding (t.grammar p) (t.heeding p),
    chooses t.grammar t.eating t.advancing t.reach t.settled t.heeding t.start t.start_heeding,
  )

  pub spells_without_classes : SpellsWithoutClasses t
  spells_without_classes n a ts = (
    λ s. to-reads t.grammar t.eating t.advancing t.reach t.settled t.heeding n (SpellsAt firsts t.grammar n) (OpensAt firsts t.grammar n) (spells-reads t.grammar t.eating t.advancing t.reach t.settled t.heeding n) t.start t.start_advancing t.start_heeding a ts [] s,
    λ s. from-reads t.grammar t.eating t.advancing t.reach t.settled t.heeding n (SpellsAt firsts t.grammar n) (OpensAt firsts t.grammar n) (reads-spells t.grammar t.eating t.advancing t.reach t.settled t.heeding n) t.start t.start_advancing t.start_heeding a ts [] s,
  )

  pub begins_without_classes : BeginsWithoutClasses t
  begins_without_classes n ts = (
    λ o. to-begins t.grammar t.eating t.advancing t.reach t.settled t.heeding n (SpellsAt firsts t.grammar n) (OpensAt firsts t.grammar n) (spells-reads t.grammar t.eating t.advancing t.reach t.settled t.heeding n) (opens-begins t.grammar t.eating t.advancing t.reach t.settled t.heeding n) t.start t.start_advancing t.start_heeding ts o,
    λ b. from-begins t.grammar t.eating t.advancing t.reach t.settled t.heeding n (SpellsAt firsts t.grammar n) (OpensAt firsts t.grammar n) (reads-spells t.grammar t.eating t.advancing t.reach t.settled t.heeding n) (begins-opens t.grammar t.eating t.advancing t.reach t.settled t.heeding n) t.start t.start_advancing t.start_heeding ts b,
  )

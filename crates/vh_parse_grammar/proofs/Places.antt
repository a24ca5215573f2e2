-- Further tokens change nothing of a reading that has come to a token that it leaves or refuses; and a
-- reading that has come to the end of some tokens goes on behind them.
use Rattle.std.proofs.Common.{◌≡◌, ℕ, zero, suc, ◌+◌, ◌≤◌, Bool, true, false, cond, Option, Some, None, List, [], ◌∷◌, ◌++◌, length, refl, ap, arith, length-append}
use Rattle.vh_parse_grammar.specs.Part.{Part, done, tok, seq, bind, act, alt, rep, iter, nested, unless, barred}
use Rattle.vh_parse_grammar.specs.Reading.{lost, deep, left_out, Out, got, stop, then_, next_is, taken, token_of, past_levels, many, turns, run, reader}
use Rattle.vh_parse_grammar.specs.Conditions.{eats, Advances}
use Rattle.vh_parse_grammar.proofs.Size.{weight, Sized, size-then, size-less, size-many, size-turns, size-run, size-past, size-reader}

-- A reading that goes on to the tokens `zs`, or stops there
abbrev pub Late : {T A : Type 0} → List T → Out T A → Type 0
Late zs (got a rest) = length rest ≤ length zs
Late zs (stop lost left) = left ≤ length zs
Late zs (stop deep left) = left ≤ length zs
Late zs (stop left_out left) = Unit {0}

-- What a reading of some tokens says of the reading with `zs` behind them
abbrev pub Cut : {T A : Type 0} → List T → Out T A → Out T A → Type 0
Cut zs (got a []) o = Late zs o
Cut zs (got a (t ∷ ts)) o = o ≡ got a (t ∷ (ts ++ zs))
Cut zs (stop lost zero) o = Late zs o
Cut zs (stop lost (suc left)) o = o ≡ stop lost (suc left + length zs)
Cut zs (stop deep left) o = o ≡ stop deep (left + length zs)
Cut zs (stop left_out left) o = o ≡ stop left_out (left + length zs)

pub late : {T A : Type 0} (w : ℕ) (zs : List T) (o : Out T A) → Sized w zs o → Late zs o
late w zs (got a rest) h = omega arith
late w zs (stop lost left) h = h
late w zs (stop deep left) h = h.1
late w zs (stop left_out left) h = tt

late-then : {T A B : Type 0} (zs : List T) (o : Out T A) (k : A → List T → Out T B) → Late zs o → ((a : A) (mid : List T) → length mid ≤ length zs → Late zs (k a mid)) → Late zs (then_ o k)
late-then zs (got a rest) k h f = f a rest h
late-then zs (stop lost left) k h f = h
late-then zs (stop deep left) k h f = h
late-then zs (stop left_out left) k h f = h

late-of : {T A : Type 0} (w : ℕ) (zs mid : List T) (o : Out T A) → length mid ≤ length zs → Sized w mid o → Late zs o
late-of w zs mid (got a rest) b h = omega arith
late-of w zs mid (stop lost left) b h = omega arith
late-of w zs mid (stop deep left) b h = omega arith
late-of w zs mid (stop left_out left) b h = tt

-- A reading of no tokens ends where they end
pub cut-end : {T A : Type 0} (w : ℕ) (zs : List T) (o' o : Out T A) → Sized {T = T} w [] o' → Late zs o → Cut zs o' o
cut-end w zs (got a []) o s h = h
cut-end w zs (got a (t ∷ ts)) o s h = absurd (omega arith)
cut-end w zs (stop lost zero) o s h = h
cut-end w zs (stop lost (suc left)) o s h = absurd (omega arith)
cut-end w zs (stop deep left) o s h = absurd (omega arith)
cut-end w zs (stop left_out left) o s h = absurd (omega arith)

pub cut-then : {T A B : Type 0} (w : ℕ) (us zs : List T) (o' o : Out T A) (k' k : A → List T → Out T B) → Cut zs o' o → Sized w us o' → ((a : A) → Sized {T = T} 0 [] (k' a [])) → ((a : A) (mid : List T) → length mid ≤ length zs → Late zs (k a mid)) → ((a : A) (t : T) (mid : List T) → w + suc (length mid) ≤ length us → Cut zs (k' a (t ∷ mid)) (k a (t ∷ (mid ++ zs)))) → Cut zs (then_ o' k') (then_ o k)
cut-then w us zs (got a []) o k' k h s e f g = cut-end 0 zs (k' a []) (then_ o k) (e a) (late-then zs o k h f)
cut-then w us zs (got a (t ∷ ts)) o k' k h s e f g = rw h (g a t ts s)
cut-then w us zs (stop lost zero) o k' k h s e f g = late-then zs o k h f
cut-then w us zs (stop lost (suc left)) o k' k h s e f g = rw h
cut-then w us zs (stop deep left) o k' k h s e f g = rw h
cut-then w us zs (stop left_out left) o k' k h s e f g = rw h

pub cut-cond : {T A : Type 0} (zs : List T) (d : Bool) (x' x y' y : Out T A) → Cut zs x' x → Cut zs y' y → Cut zs (cond d x' y') (cond d x y)
cut-cond zs true x' x y' y h k = h
cut-cond zs false x' x y' y h k = k

late-cond : {T A : Type 0} (zs : List T) (d : Bool) (x y : Out T A) → Late zs x → Late zs y → Late zs (cond d x y)
late-cond zs true x y h k = h
late-cond zs false x y h k = k

cut-got : {T A : Type 0} (a : A) (us zs : List T) → Cut zs (got a us) (got a (us ++ zs))
cut-got a [] zs = omega arith
cut-got a (t ∷ us) zs = refl

length-more : {T : Type 0} (ts zs : List T) → suc (length (ts ++ zs)) ≡ suc (length ts) + length zs
length-more ts zs = omega (arith, length-append ts zs)

late-token : {T A : Type 0} (meaning : T → Option A) (zs : List T) → Late zs (token_of meaning zs)
late-token meaning [] = omega arith
late-token {T} {A} meaning (t ∷ zs) = go (meaning t)
  where
    go : (o : Option A) → Late (t ∷ zs) (taken o zs)
    go (Some a) = omega arith
    go None = omega arith

cut-token : {T A : Type 0} (meaning : T → Option A) (us zs : List T) → Cut zs (token_of meaning us) (token_of meaning (us ++ zs))
cut-token meaning [] zs = late-token meaning zs
cut-token {T} {A} meaning (t ∷ us) zs = go (meaning t)
  where
    go : (o : Option A) → Cut zs (taken o us) (taken o (us ++ zs))
    go (Some a) = cut-got a us zs
    go None = ap (λ (n : ℕ). stop lost n) (length-more us zs)

cut-many : {T A : Type 0} (item : List T → Out T A) (class : T → Bool) → ((ts : List T) → Sized 1 ts (item ts)) → (zs : List T) → ((us : List T) → Cut zs (item us) (item (us ++ zs))) → (n m : ℕ) (us : List T) → length us ≤ n → length (us ++ zs) ≤ m → Cut zs (many item class n us) (many item class m (us ++ zs))
cut-many item class short zs h zero m [] b d = late 0 zs (many item class m zs) (size-many item class m zs (λ ts. size-less 1 0 ts (item ts) (omega arith) (short ts)))
cut-many item class short zs h (suc n) m [] b d = late 0 zs (many item class m zs) (size-many item class m zs (λ ts. size-less 1 0 ts (item ts) (omega arith) (short ts)))
cut-many item class short zs h zero m (t ∷ us) b d = absurd (omega arith)
cut-many item class short zs h (suc n) zero (t ∷ us) b d = absurd (omega arith)
cut-many {T} {A} item class short zs h (suc n) (suc m) (t ∷ us) b d =
    let small : (ts : List T) → Sized 0 ts (item ts) = λ ts. size-less 1 0 ts (item ts) (omega arith) (short ts) in
    let put : A → List A → List T → Out T (List A) = λ a more rest. got (a ∷ more) rest in
    let sized : (a : A) (k : ℕ) (ts : List T) → Sized 0 ts (then_ (many item class k ts) (put a)) = λ a k ts. size-then 0 0 0 ts (many item class k ts) (put a) (size-many item class k ts small) (λ more rest. omega arith) (omega arith) in
    cut-cond zs (class t) (then_ (item (t ∷ us)) (λ a mid. then_ (many item class n mid) (put a))) (then_ (item (t ∷ (us ++ zs))) (λ a mid. then_ (many item class m mid) (put a))) (got [] (t ∷ us)) (got [] (t ∷ (us ++ zs)))
    (cut-then 1 (t ∷ us) zs (item (t ∷ us)) (item (t ∷ (us ++ zs))) (λ a mid. then_ (many item class n mid) (put a)) (λ a mid. then_ (many item class m mid) (put a)) (h (t ∷ us)) (short (t ∷ us))
    (λ a. sized a n [])
    (λ a mid l. late-of 0 zs mid (then_ (many item class m mid) (put a)) l (sized a m mid))
    (λ a v mid l. cut-then 0 (v ∷ mid) zs (many item class n (v ∷ mid)) (many item class m (v ∷ (mid ++ zs))) (put a) (put a)
    (cut-many item class short zs h n m (v ∷ mid) (omega arith) (omega (arith, length-append us zs, length-append mid zs)))
    (size-many item class n (v ∷ mid) small) (λ more. omega arith) (λ more rest e. e) (λ more x rest e. refl)))
    refl

cut-turns : {T S : Type 0} (turn : S → List T → Out T S) (class : S → T → Bool) → ((s : S) (ts : List T) → Sized 1 ts (turn s ts)) → (zs : List T) → ((s : S) (us : List T) → Cut zs (turn s us) (turn s (us ++ zs))) → (n m : ℕ) (s : S) (us : List T) → length us ≤ n → length (us ++ zs) ≤ m → Cut zs (turns turn class n s us) (turns turn class m s (us ++ zs))
cut-turns turn class short zs h zero m s [] b d = late 0 zs (turns turn class m s zs) (size-turns turn class m s zs (λ u ts. size-less 1 0 ts (turn u ts) (omega arith) (short u ts)))
cut-turns turn class short zs h (suc n) m s [] b d = late 0 zs (turns turn class m s zs) (size-turns turn class m s zs (λ u ts. size-less 1 0 ts (turn u ts) (omega arith) (short u ts)))
cut-turns turn class short zs h zero m s (t ∷ us) b d = absurd (omega arith)
cut-turns turn class short zs h (suc n) zero s (t ∷ us) b d = absurd (omega arith)
cut-turns {T} {S} turn class short zs h (suc n) (suc m) s (t ∷ us) b d =
    let small : (u : S) (ts : List T) → Sized 0 ts (turn u ts) = λ u ts. size-less 1 0 ts (turn u ts) (omega arith) (short u ts) in
    cut-cond zs (class s t) (then_ (turn s (t ∷ us)) (turns turn class n)) (then_ (turn s (t ∷ (us ++ zs))) (turns turn class m)) (got s (t ∷ us)) (got s (t ∷ (us ++ zs)))
    (cut-then 1 (t ∷ us) zs (turn s (t ∷ us)) (turn s (t ∷ (us ++ zs))) (turns turn class n) (turns turn class m) (h s (t ∷ us)) (short s (t ∷ us))
    (λ a. size-turns turn class n a [] small)
    (λ a mid l. late-of 0 zs mid (turns turn class m a mid) l (size-turns turn class m a mid small))
    (λ a v mid l. cut-turns turn class short zs h n m a (v ∷ mid) (omega arith) (omega (arith, length-append us zs, length-append mid zs))))
    refl

module _ {T P : Type 0} {V : P → Type 0} (R : (p : P) → List T → Out T (V p)) (each : (p : P) (ts : List T) → Sized 1 ts (R p ts)) (nested-cut : (p : P) (us zs : List T) → Cut zs (R p us) (R p (us ++ zs))) where
  small-run : {A : Type 0} (p : Part T V A) (ts : List T) → Sized 0 ts (run R p ts)
  small-run p ts = size-less (weight (eats p)) 0 ts (run R p ts) (omega arith) (size-run R each p ts)

  late-run : {A : Type 0} (p : Part T V A) (zs mid : List T) → length mid ≤ length zs → Late zs (run R p mid)
  late-run p zs mid l = late-of 0 zs mid (run R p mid) l (small-run p mid)

  cut-alt : {A : Type 0} (class : T → Bool) (p q : Part T V A) (us zs : List T) → Cut zs (run R p us) (run R p (us ++ zs)) → Cut zs (run R q us) (run R q (us ++ zs)) → Cut zs (run R (alt class p q) us) (run R (alt class p q) (us ++ zs))
  cut-alt class p q [] zs h k = cut-end 0 zs (run R q []) (run R (alt class p q) zs) (small-run q []) (late-cond zs (next_is class zs) (run R p zs) (run R q zs) (late-run p zs zs (omega arith)) (late-run q zs zs (omega arith)))
  cut-alt class p q (t ∷ us) zs h k = cut-cond zs (class t) (run R p (t ∷ us)) (run R p (t ∷ (us ++ zs))) (run R q (t ∷ us)) (run R q (t ∷ (us ++ zs))) h k

  pub cut-run : {A : Type 0} (p : Part T V A) → Advances p → (us zs : List T) → Cut zs (run R p us) (run R p (us ++ zs))
  cut-run (done a) v us zs = cut-got a us zs
  cut-run (tok meaning) v us zs = cut-token meaning us zs
  cut-run (seq {A} {B} p q) v us zs =
      let put : A → B → List T → Out T (A × B) = λ a b rest. got (a, b) rest in
      cut-then 0 us zs (run R p us) (run R p (us ++ zs)) (λ a mid. then_ (run R q mid) (put a)) (λ a mid. then_ (run R q mid) (put a)) (cut-run p v.0 us zs) (small-run p us)
      (λ a. size-then 0 0 0 [] (run R q []) (put a) (small-run q []) (λ b rest. omega arith) (omega arith))
      (λ a mid l. late-of 0 zs mid (then_ (run R q mid) (put a)) l (size-then 0 0 0 mid (run R q mid) (put a) (small-run q mid) (λ b rest. omega arith) (omega arith)))
      (λ a t mid l. cut-then 0 (t ∷ mid) zs (run R q (t ∷ mid)) (run R q (t ∷ (mid ++ zs))) (put a) (put a) (cut-run q v.1 (t ∷ mid) zs) (small-run q (t ∷ mid)) (λ b. omega arith) (λ b rest e. e) (λ b x rest e. refl))
  cut-run (bind p q) v us zs =
      cut-then 0 us zs (run R p us) (run R p (us ++ zs)) (λ a mid. run R (q a) mid) (λ a mid. run R (q a) mid) (cut-run p v.0 us zs) (small-run p us)
      (λ a. small-run (q a) [])
      (λ a mid l. late-run (q a) zs mid l)
      (λ a t mid l. cut-run (q a) (v.1 a) (t ∷ mid) zs)
  cut-run (act f p) v us zs =
      cut-then 0 us zs (run R p us) (run R p (us ++ zs)) (λ a rest. got (f a) rest) (λ a rest. got (f a) rest) (cut-run p v us zs) (small-run p us) (λ b. omega arith) (λ b rest e. e) (λ b x rest e. refl)
  cut-run (alt class p q) v us zs = cut-alt class p q us zs (cut-run p v.0 us zs) (cut-run q v.1 us zs)
  cut-run (rep class p) v us zs = cut-many (run R p) class (λ ts. rw v.0 at (size-run R each p ts)) zs (λ xs. cut-run p v.1 xs zs) (length us) (length (us ++ zs)) us (omega arith) (omega arith)
  cut-run (iter class part s) v us zs = cut-turns (λ u. run R (part u)) class (λ u ts. rw (v u).0 at (size-run R each (part u) ts)) zs (λ u xs. cut-run (part u) (v u).1 xs zs) (length us) (length (us ++ zs)) s us (omega arith) (omega arith)
  cut-run (nested p) v us zs = nested-cut p us zs
  cut-run (unless class p) v us zs = cut-run p v us zs
  cut-run (barred class p) v us zs = cut-run p v us zs

module _ {T P : Type 0} {V : P → Type 0} (grammar : (p : P) → Part T V (V p)) (eating : (p : P) → eats (grammar p) ≡ true) (advancing : (p : P) → Advances (grammar p)) where
  cut-past : (A : Type 0) (us zs : List T) → Cut zs (past_levels {A = A} us) (past_levels (us ++ zs))
  cut-past A [] zs = late 1 zs (past_levels zs) (size-past A zs)
  cut-past A (t ∷ us) zs = ap (λ (n : ℕ). stop deep n) (length-more us zs)

  pub cut-reader : (n : ℕ) (p : P) (us zs : List T) → Cut zs (reader grammar n p us) (reader grammar n p (us ++ zs))
  cut-reader zero p us zs = cut-past (V p) us zs
  cut-reader (suc n) p us zs = cut-run (reader grammar n) (size-reader grammar eating n) (cut-reader n) (grammar p) (advancing p) us zs

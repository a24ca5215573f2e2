-- Where nothing is left out, reading with an omission is reading.
use Rattle.std.proofs.Common.{◌≡◌, if◌then◌else◌, ℕ, zero, suc, Bool, true, false, cond, Option, Some, None, List, [], ◌∷◌, length, map, refl, ap, ◌∙◌}
use Rattle.vh_base.specs.declared.faults.AppFault.{AppFault}
use Rattle.vh_parse_grammar.specs.Part.{Part, done, tok, seq, bind, act, alt, rep, iter, nested, unless, barred}
use Rattle.vh_parse_grammar.specs.Reading.{Out, got, stop, then_, next_is, taken, many, turns, run, reader, read, whole}
use Rattle.vh_parse_grammar.specs.Omissions.{taken_from, noting_many, noting, noting_at, noted, answered_whole}
use Rattle.vh_app_script.specs.declared.app.TheConstants.{MOST_LEVELS}
use Rattle.vh_app_script.specs.declared.token.Token as held
use Rattle.vh_app_script.specs.Token.{Terminal}
use Rattle.vh_app_script.specs.Spelling.{kinds_of}
use Rattle.vh_app_script.specs.Views.{kind_seen, token_seen, terminals}
use Rattle.vh_app_script.specs.Grammar.{Name, grammar, app}
use Rattle.vh_app_script.specs.Conditions.{Plain, block_plain, app_plain}
use Rattle.vh_app_script.specs.Answers.{answer}

-- A reading without an omission
abbrev lift : {T A : Type 0} → Out T A → Out T (A × ℕ)
lift (got a rest) = got (a, 0) rest
lift (stop fault left) = stop fault left

-- No token stands for what is left out
abbrev none : {T : Type 0} → T → Bool
none t = false

one-token : {T A : Type 0} (o : Option A) (t : T) (ts : List T) → taken_from none o t ts 0 ≡ lift (taken o ts)
one-token (Some a) t ts = refl
one-token None t ts = refl

plain-whole : {T A : Type 0} (o : Out T A) → answered_whole none (lift o) ≡ whole o
plain-whole (got a []) = refl
plain-whole (got a (t ∷ ts)) = refl
plain-whole (stop fault left) = refl

pair-run : {T A B : Type 0} (a : A) (o : Out T B) → then_ (lift o) (λ b rest. got ((a, b.0), b.1) rest) ≡ lift {A = A × B} (then_ o (λ b rest. got (a, b) rest))
pair-run a (got b rest) = refl
pair-run a (stop fault left) = refl

-- A reading with an omission is one without, where there is none
abbrev Same : {T A : Type 0} → (List T → ℕ → Out T (A × ℕ)) → (List T → Out T A) → Type 0
Same {T} m r = (ts : List T) → m ts 0 ≡ lift (r ts)

seq-run : {T A B : Type 0} (m : List T → ℕ → Out T (B × ℕ)) (r : List T → Out T B) → Same m r → (o : Out T A) →
    then_ (lift o) (λ a mid. then_ (m mid a.1) (λ b rest. got ((a.0, b.0), b.1) rest)) ≡ lift {A = A × B} (then_ o (λ a mid. then_ (r mid) (λ b rest. got (a, b) rest)))
seq-run m r h (got a mid) = ap (λ o. then_ o (λ b rest. got ((a, b.0), b.1) rest)) (h mid) ∙ pair-run a (r mid)
seq-run m r h (stop fault left) = refl

bind-run : {T A B : Type 0} (m : A → List T → ℕ → Out T (B × ℕ)) (r : A → List T → Out T B) → ((a : A) → Same (m a) (r a)) → (o : Out T A) → then_ (lift o) (λ a mid. m a.0 mid a.1) ≡ lift (then_ o (λ a mid. r a mid))
bind-run m r h (got a mid) = h a mid
bind-run m r h (stop fault left) = refl

act-run : {T A B : Type 0} (f : A → B) (o : Out T A) → then_ (lift o) (λ a rest. got (f a.0, a.1) rest) ≡ lift (then_ o (λ a rest. got (f a) rest))
act-run f (got a rest) = refl
act-run f (stop fault left) = refl

alt-run : {T A : Type 0} (b : Bool) (x y : Out T (A × ℕ)) (u v : Out T A) → x ≡ lift u → y ≡ lift v → (if b then x else y) ≡ lift (cond b u v)
alt-run true x y u v e f = e
alt-run false x y u v e f = f

cons-run : {T A : Type 0} (a : A) (o : Out T (List A)) → then_ (lift o) (λ more rest. got (a ∷ more.0, more.1) rest) ≡ lift (then_ o (λ more rest. got (a ∷ more) rest))
cons-run a (got more rest) = refl
cons-run a (stop fault left) = refl

many-next : {T A : Type 0} (m : List T → ℕ → Out T (List A × ℕ)) (r : List T → Out T (List A)) → Same m r → (o : Out T A) →
    then_ (lift o) (λ a mid. then_ (m mid a.1) (λ more rest. got (a.0 ∷ more.0, more.1) rest)) ≡ lift (then_ o (λ a mid. then_ (r mid) (λ more rest. got (a ∷ more) rest)))
many-next m r h (got a mid) = ap (λ o. then_ o (λ more rest. got (a ∷ more.0, more.1) rest)) (h mid) ∙ cons-run a (r mid)
many-next m r h (stop fault left) = refl

many-run : {T A : Type 0} (class : T → Bool) (m : List T → ℕ → Out T (A × ℕ)) (r : List T → Out T A) → Same m r → (n : ℕ) (ts : List T) → noting_many m class n ts 0 ≡ lift (many r class n ts)
many-run class m r h zero ts = refl
many-run class m r h (suc n) ts =
    alt-run (next_is class ts) _ _ _ _
    (ap (λ o. then_ o (λ a mid. then_ (noting_many m class n mid a.1) (λ more rest. got (a.0 ∷ more.0, more.1) rest))) (h ts) ∙ many-next (noting_many m class n) (many r class n) (many-run class m r h n) (r ts)) refl

turns-next : {T S : Type 0} (m : S × ℕ → List T → Out T (S × ℕ)) (r : S → List T → Out T S) → ((s : S) (ts : List T) → m (s, 0) ts ≡ lift (r s ts)) → (o : Out T S) → then_ (lift o) m ≡ lift (then_ o r)
turns-next m r h (got s mid) = h s mid
turns-next m r h (stop fault left) = refl

turns-run : {T S : Type 0} (class : S → T → Bool) (m : S → List T → ℕ → Out T (S × ℕ)) (r : S → List T → Out T S) → ((s : S) → Same (m s) (r s)) → (n : ℕ) (s : S) (ts : List T) →
    turns (λ u mid. m u.0 mid u.1) (λ u. class u.0) n (s, 0) ts ≡ lift (turns r class n s ts)
turns-run class m r h zero s ts = refl
turns-run class m r h (suc n) s ts =
    alt-run (next_is (class s) ts) _ _ _ _
    (ap (λ o. then_ o (turns (λ u mid. m u.0 mid u.1) (λ u. class u.0) n)) (h s ts) ∙ turns-next (turns (λ u mid. m u.0 mid u.1) (λ u. class u.0) n) (turns r class n) (turns-run class m r h n) (r s ts)) refl

module _ {T P : Type 0} {V : P → Type 0} where
  module _ (R : (p : P) → List T → Out T (V p)) (M : (p : P) → List T → ℕ → Out T (V p × ℕ)) (same : (p : P) (ts : List T) → M p ts 0 ≡ lift (R p ts)) where
    plain-run : {A : Type 0} (p : Part T V A) → Plain p → (ts : List T) → noting none M p ts 0 ≡ lift (run R p ts)
    plain-run (done a) h ts = refl
    plain-run (tok meaning) h [] = refl
    plain-run (tok meaning) h (t ∷ ts) = one-token (meaning t) t ts
    plain-run (seq p q) h ts =
        ap (λ o. then_ o (λ a mid. then_ (noting none M q mid a.1) (λ b rest. got ((a.0, b.0), b.1) rest))) (plain-run p h.0 ts)
        ∙ seq-run (noting none M q) (run R q) (plain-run q h.1) (run R p ts)
    plain-run (bind p q) h ts =
        ap (λ o. then_ o (λ a mid. noting none M (q a.0) mid a.1)) (plain-run p h.0 ts)
        ∙ bind-run (λ a. noting none M (q a)) (λ a. run R (q a)) (λ a. plain-run (q a) (h.1 a)) (run R p ts)
    plain-run (act f p) h ts = ap (λ o. then_ o (λ a rest. got (f a.0, a.1) rest)) (plain-run p h ts) ∙ act-run f (run R p ts)
    plain-run (alt class p q) h ts = alt-run (next_is class ts) _ _ _ _ (plain-run p h.0 ts) (plain-run q h.1 ts)
    plain-run (rep class p) h ts = many-run class (noting none M p) (run R p) (plain-run p h.1) (length ts) ts
    plain-run (iter class part s) h ts = turns-run class (λ u. noting none M (part u)) (λ u. run R (part u)) (λ u. plain-run (part u) (h u).1) (length ts) s ts
    plain-run (nested p) h ts = same p ts
    plain-run (unless class p) h ts = absurd h
    plain-run (barred class p) h ts = absurd h

  module _ (all : (p : P) → Part T V (V p)) (plain : (p : P) → Plain (all p)) where
    plain-reader : (levels : ℕ) (p : P) (ts : List T) → noting_at none all levels p ts 0 ≡ lift (reader all levels p ts)
    plain-reader zero p [] = refl
    plain-reader zero p (t ∷ ts) = refl
    plain-reader (suc levels) p ts = plain-run (reader all levels) (noting_at none all levels) (plain-reader levels) (all p) (plain p) ts

    plain-source : {A : Type 0} (levels : ℕ) (p : Part T V A) → Plain p → (ts : List T) → answered_whole none (noted none all levels p ts 0) ≡ whole (read all levels p ts)
    plain-source levels p h ts =
        ap (λ o. answered_whole none o) (plain-run (reader all levels) (noting_at none all levels) (plain-reader levels) p h ts) ∙ plain-whole (read all levels p ts)

-- What the table answers is what a parser reads without an omission
pub answer-read : (rules : AppFault) (earlier : List (List ℕ)) (ts : List Terminal) → answer rules earlier ts ≡ whole (read grammar MOST_LEVELS (app rules earlier) ts)
answer-read rules earlier ts = plain-source grammar block_plain MOST_LEVELS (app rules earlier) (app_plain rules earlier) ts

-- What the grammar reads of the tokens of the code
pub kinds-terminals : (ts : List held.Token) → kinds_of (map token_seen ts) ≡ terminals ts
kinds-terminals [] = refl
kinds-terminals (t ∷ ts) = ap (λ more. kind_seen t.kind ∷ more) (kinds-terminals ts)

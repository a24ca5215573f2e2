-- What is known of a reading, of a part with so many levels left below it.
use Rattle.std.proofs.Common.{◌≡◌, ℕ, ◌+◌, true, List, [], ◌++◌}
use Rattle.vh_parse_grammar.specs.Part.{Part}
use Rattle.vh_parse_grammar.specs.Reading.{Fault, got, stop, reader, read}
use Rattle.vh_parse_grammar.specs.Sentences.{Reads, Begins, Meets, ReadsAt, BeginsAt, MeetsAt}
use Rattle.vh_parse_grammar.specs.Conditions.{eats, Advances}
use Rattle.vh_parse_grammar.proofs.Size.{weight, Sized, size-run, size-reader}
use Rattle.vh_parse_grammar.proofs.Outcomes.{Says_of, run-sound, run-tree, run-fault, reader-sound, reader-tree, reader-fault}
use Rattle.vh_parse_grammar.proofs.Places.{Cut, cut-run, cut-reader}
use Rattle.vh_parse_grammar.proofs.Starts.{Ended, ended-size, run-begins, run-ended, reader-begins, reader-ended}
use Rattle.vh_parse_grammar.proofs.Levels.{Below, run-below, reader-below}

module _ {T P : Type 0} {V : P → Type 0} (grammar : (p : P) → Part T V (V p)) where
  abbrev pub On : ℕ → {A : Type 0} → Part T V A → A → List T → List T → Type 0
  On n p a ts rest = Reads (ReadsAt grammar n) p a ts rest

  abbrev pub Begun : ℕ → {A : Type 0} → Part T V A → List T → Type 0
  Begun n p ts = Begins (ReadsAt grammar n) (BeginsAt grammar n) p ts

  abbrev pub Met : ℕ → {A : Type 0} → Part T V A → Fault → List T → ℕ → Type 0
  Met n p fault ts left = Meets (ReadsAt grammar n) (MeetsAt grammar n) p fault ts left

module _ {T P : Type 0} {V : P → Type 0} (grammar : (p : P) → Part T V (V p)) (eating : (p : P) → eats (grammar p) ≡ true) (advancing : (p : P) → Advances (grammar p)) where
  pub size-part : {A : Type 0} (n : ℕ) (p : Part T V A) (ts : List T) → Sized (weight (eats p)) ts (read grammar n p ts)
  size-part n p ts = size-run (reader grammar n) (size-reader grammar eating n) p ts

  pub cut-part : {A : Type 0} (n : ℕ) (p : Part T V A) → Advances p → (us zs : List T) → Cut zs (read grammar n p us) (read grammar n p (us ++ zs))
  cut-part n p v us zs = cut-run (reader grammar n) (size-reader grammar eating n) (cut-reader grammar eating advancing n) p v us zs

  pub tree-part : {A : Type 0} (n : ℕ) (p : Part T V A) → Advances p → (a : A) (ts rest : List T) → On grammar n p a ts rest → read grammar n p ts ≡ got a rest
  tree-part n p v a ts rest h = run-tree (reader grammar n) (ReadsAt grammar n) (MeetsAt grammar n) (size-reader grammar eating n) (reader-tree grammar eating advancing n) p v a ts rest h

  pub fault-part : {A : Type 0} (n : ℕ) (p : Part T V A) → Advances p → (fault : Fault) (ts : List T) (left : ℕ) → Met grammar n p fault ts left → read grammar n p ts ≡ stop fault left
  fault-part n p v fault ts left h = run-fault (reader grammar n) (ReadsAt grammar n) (MeetsAt grammar n) (size-reader grammar eating n) (reader-tree grammar eating advancing n) (reader-fault grammar eating advancing n) p v fault ts left h

  pub sound-part : {A : Type 0} (n : ℕ) (p : Part T V A) → Advances p → (ts : List T) → Says_of (On grammar n p) (Met grammar n p) ts (read grammar n p ts)
  sound-part n p v ts = run-sound (reader grammar n) (ReadsAt grammar n) (MeetsAt grammar n) (size-reader grammar eating n) (reader-sound grammar eating advancing n) p v ts

  pub begins-part : {A : Type 0} (n : ℕ) (p : Part T V A) → Advances p → (ts : List T) → Ended (read grammar n p ts) → Begun grammar n p ts
  begins-part n p v ts e = run-begins (reader grammar n) (ReadsAt grammar n) (MeetsAt grammar n) (BeginsAt grammar n) (size-reader grammar eating n) (reader-sound grammar eating advancing n) (reader-begins grammar eating advancing n) p v ts e

  pub ended-part : {A : Type 0} (n : ℕ) (p : Part T V A) → Advances p → (ts : List T) → Begun grammar n p ts → Ended (read grammar n p ts)
  ended-part n p v ts h = run-ended (reader grammar n) (ReadsAt grammar n) (MeetsAt grammar n) (BeginsAt grammar n) (size-reader grammar eating n) (reader-tree grammar eating advancing n) (reader-ended grammar eating advancing n) p v ts h

  pub begins-none : {A : Type 0} (n : ℕ) (p : Part T V A) → Advances p → Begun grammar n p []
  begins-none n p v = begins-part n p v [] (ended-size (weight (eats p)) (read grammar n p []) (size-part n p []))

  pub below-part : {A : Type 0} (n more : ℕ) (p : Part T V A) (ts : List T) → Below (read grammar n p ts) (read grammar (more + n) p ts)
  below-part n more p ts = run-below (reader grammar n) (reader grammar (more + n)) (λ q xs. reader-below grammar eating n more q xs) p ts

-- Names beside values, in pairs.
use Rattle.std.proofs.Common.{◌≡◌, ◌∙◌, ◌++◌, ℕ, zero, suc, List, [], ◌∷◌, length, map, Option, Some, None, refl, ap, sym, arith}
use Rattle.std.specs.Prelude.{slice_get}
use Rattle.std.specs.Option.{option_and_then, option_map}
use Rattle.vh_elab_index.specs.First.{position_in}
use Rattle.vh_logic.specs.Vector.{Vector}
use Rattle.vh_elab_declare.specs.Constants.{given_for, paired}

pub names-paired : (ns : List (List ℕ)) (vs : List Vector) → length ns ≡ length vs → map (λ e. e.0) (paired ns vs) ≡ ns
names-paired [] vs h = refl
names-paired (n ∷ ns) [] h = absurd (cc)
names-paired (n ∷ ns) (v ∷ vs) h =
    let less : length ns ≡ length vs = grind (arith, h) in ap (λ xs. n ∷ xs) (names-paired ns vs less)

pub paired-more : (ns : List (List ℕ)) (vs : List Vector) (n : List ℕ) (v : Vector) → length ns ≡ length vs
    → paired (ns ++ n ∷ []) (vs ++ v ∷ []) ≡ paired ns vs ++ (n, v) ∷ []
paired-more [] [] n v h = refl
paired-more [] (w ∷ vs) n v h = absurd (cc)
paired-more (m ∷ ns) [] n v h = absurd (cc)
paired-more (m ∷ ns) (w ∷ vs) n v h =
    let less : length ns ≡ length vs = grind (arith, h) in ap (λ xs. (m, w) ∷ xs) (paired-more ns vs n v less)

pub value-paired : (ns : List (List ℕ)) (vs : List Vector) (k : ℕ) → length ns ≡ length vs
    → option_map (λ e. e.1) (slice_get (paired ns vs) k) ≡ slice_get vs k
value-paired [] [] k h = refl
value-paired [] (w ∷ vs) k h = absurd (cc)
value-paired (m ∷ ns) [] k h = absurd (cc)
value-paired (m ∷ ns) (w ∷ vs) zero h = refl
value-paired (m ∷ ns) (w ∷ vs) (suc k) h =
    let less : length ns ≡ length vs = grind (arith, h) in value-paired ns vs k less

-- The value of a name: that at the place of the first of them.
pub given-at : (ns : List (List ℕ)) (vs : List Vector) (name : List ℕ) → length ns ≡ length vs
    → given_for (paired ns vs) name ≡ option_and_then (slice_get vs) (position_in ns name)
given-at ns vs name h =
    ap (λ names. option_map (λ (e : List ℕ × Vector). e.1) (option_and_then (slice_get (paired ns vs)) (position_in names name))) (names-paired ns vs h)
    ∙ by (position_in ns name)
  where
    by : (o : Option ℕ) → option_map (λ (e : List ℕ × Vector). e.1) (option_and_then (slice_get (paired ns vs)) o)
        ≡ option_and_then (slice_get vs) o
    by None = refl
    by (Some k) = value-paired ns vs k h

-- One name more, with its value.
pub given-more : (ns ns' : List (List ℕ)) (vs vs' : List Vector) (n : List ℕ) (v : Vector) → length ns ≡ length vs
    → ns' ≡ ns ++ n ∷ [] → vs' ≡ vs ++ v ∷ [] → paired ns' vs' ≡ paired ns vs ++ (n, v) ∷ []
given-more ns ns' vs vs' n v h names values = rw names (rw values (paired-more ns vs n v h))

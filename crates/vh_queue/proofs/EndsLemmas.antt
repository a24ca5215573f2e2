-- What the least key, and the least serial, tell of those of a range.
use Rattle.std.proofs.Common.{◌≡◌, ◌∙◌, ℕ, suc, ◌<◌, ◌≤◌, List, [], ◌∷◌, map, filter, slice_get, Bool, true, false, not, ◌&&◌, nat_lt, Some, refl, ap, arith}
use Rattle.std.proofs.lemmas.Bool.Decides.{nat_tests}
use Rattle.std.proofs.lemmas.Cmp.{nat_cmp_total, then_total}
use Rattle.std.specs.BTreeMap.Range.{range_contains, IsLeBy}
use Rattle.std.specs.BTreeSet.{BTreeSet}
use Rattle.std.specs.Cmp.{IsTotalOrder, on_total, upto}
use Rattle.std.specs.List.{All}
use Rattle.std.specs.Ordering.{nat_cmp, is_le, is_gt, ordering_then, partial_ordering_then, partial_le, is_some_and}
use Rattle.std.specs.declared.cmp.Ordering.{Ordering}
use Rattle.std.specs.declared.cmp.Ordering.TheVariants.{Less, Equal, Greater}
use Rattle.std.specs.declared.ops.Bound.TheVariants.{Included, Excluded}
use Rattle.vh_queue.specs.declared.key.Key.{Key}
use Rattle.vh_queue.specs.contracts.key.KeyOrd.TheImpl.{cmp-value}
use Rattle.vh_queue.specs.contracts.key.KeyPartialOrd.TheImpl.{partial_cmp-value}
use Rattle.vh_queue.specs.Ranked.{key, serials_of, dated_in}

abbrev key_cmp : Key → Key → Ordering
key_cmp = (cmp-value).it

key_total : IsTotalOrder key_cmp
key_total =
    then_total (on_total (λ (p : Key). p.time) nat_cmp_total)
    (then_total (on_total (λ (p : Key). p.rank) nat_cmp_total) (on_total (λ (p : Key). p.serial) nat_cmp_total))

le-not-gt : (o : Ordering) → is_le o ≡ not (is_gt o)
le-not-gt Less = refl
le-not-gt Equal = refl
le-not-gt Greater = refl

-- What a test that is false of all keeps.
filter-all : {X : Type 0} (keep : X → Bool) (xs : List X) → All (λ x. keep x ≡ false) xs → filter keep xs ≡ []
filter-all keep [] none = refl
filter-all keep (x ∷ xs) none =
    rw (none 0 x (omega arith)) (filter-all keep xs (λ k d within. none (suc k) d (omega (arith, within))))

filter-first : {X : Type 0} (keep : X → Bool) (xs : List X) (x : X) → slice_get xs 0 ≡ Some x → keep x ≡ true → slice_get (filter keep xs) 0 ≡ Some x
filter-first keep [] x is kept = absurd (cc)
filter-first {X} keep (y ∷ ys) x is kept = let same : y ≡ x = cc in rw (ap keep same ∙ kept) is

-- No key of a range that ends at the least one or before it; and the least one where it begins there or before.
not-past : (a b : Bool) → b ≡ true → (a && not b) ≡ false
not-past true b is = ap not is
not-past false b is = refl

within-both : (a b : Bool) → a ≡ true → b ≡ false → (a && not b) ≡ true
within-both a b one none = rw (one, none) refl

pub ends-before : (time r from below : ℕ) (least : Key) (ranked : BTreeSet Key)
    → is_gt (key_cmp (key time r below) least) ≡ false → All (IsLeBy key_cmp least) ranked.keys → serials_of time r from below ranked ≡ []
ends-before time r from below least ranked past all =
    ap (map (λ (p : Key). p.serial)) (filter-all between ranked.keys outside)
  where
    between : Key → Bool
    between p = range_contains key_cmp (Included (key time r from)) (Excluded (key time r below)) p

    outside : All (λ p. between p ≡ false) ranked.keys
    outside k d within = not-past _ _ (le-not-gt _ ∙ ap not (upto key_total (key time r below) least _ past (all k d within)))

-- Where the least one stands at a later time, none stands at this one.
less-first : (o p : Ordering) → o ≡ Less → is_gt (ordering_then o p) ≡ false
less-first o p is = rw is refl

less-time : (a b : ℕ) → nat_lt a b ≡ true → nat_cmp a b ≡ Less
less-time a b less = grind (arith, nat_tests)

pub later-none : (time r from below : ℕ) (least : Key) (ranked : BTreeSet Key)
    → nat_lt time least.time ≡ true → All (IsLeBy key_cmp least) ranked.keys → serials_of time r from below ranked ≡ []
later-none time r from below least ranked less all =
    ends-before time r from below least ranked (less-first (nat_cmp time least.time) _ (less-time time least.time less)) all

pub begins-before : (time r from below : ℕ) (least : Key) (ranked : BTreeSet Key)
    → slice_get ranked.keys 0 ≡ Some least → is_gt (key_cmp (key time r from) least) ≡ false → is_gt (key_cmp (key time r below) least) ≡ true
    → slice_get (serials_of time r from below ranked) 0 ≡ Some least.serial
begins-before time r from below least ranked first from_is below_is =
    of-map (filter between ranked.keys) (filter-first between ranked.keys least first
    (within-both _ _ (le-not-gt _ ∙ ap not from_is) (le-not-gt _ ∙ ap not below_is)))
  where
    between : Key → Bool
    between p = range_contains key_cmp (Included (key time r from)) (Excluded (key time r below)) p

    of-map : (ps : List Key) → slice_get ps 0 ≡ Some least → slice_get (map (λ (p : Key). p.serial) ps) 0 ≡ Some least.serial
    of-map [] is = absurd (cc)
    of-map (p ∷ ps) is = let same : p ≡ least = cc in ap (λ (q : Key). Some q.serial) same

-- Nothing stands between two ranked of a set that has none.
pub none-of : (time r from below : ℕ) (ranked : BTreeSet Key) → ranked.keys ≡ [] → serials_of time r from below ranked ≡ []
none-of time r from below ranked none =
    ap (λ (ks : List Key). map (λ (p : Key). p.serial) (filter (λ p. range_contains key_cmp (Included (key time r from)) (Excluded (key time r below)) p) ks)) none

pub dated-none : (below least : ℕ) (serials : BTreeSet ℕ)
    → below ≤ least → All (IsLeBy nat_cmp least) serials.keys → dated_in below serials ≡ []
dated-none below least serials past all =
    filter-all _ serials.keys (λ k d within. ap not (le-not-gt _ ∙ ap not (upto nat_cmp_total below least _ (grind (arith, nat_tests)) (all k d within))))

pub dated-first : (below least : ℕ) (serials : BTreeSet ℕ)
    → slice_get serials.keys 0 ≡ Some least → least < below → slice_get (dated_in below serials) 0 ≡ Some least
dated-first below least serials first is =
    filter-first _ serials.keys least first (ap not (le-not-gt _ ∙ ap not (let gt : is_gt (nat_cmp below least) ≡ true = grind (arith, nat_tests) in gt)))

-- How two ranked are compared.
le-then : (o p q : Ordering) → is_some_and is_le (partial_ordering_then (Some o) (partial_ordering_then (Some p) (Some q))) ≡ not (is_gt (ordering_then o (ordering_then p q)))
le-then Less p q = refl
le-then Greater p q = refl
le-then Equal Less q = refl
le-then Equal Greater q = refl
le-then Equal Equal Less = refl
le-then Equal Equal Equal = refl
le-then Equal Equal Greater = refl

pub key-le : (p q : Key) → partial_le (partial_cmp-value).it p q ≡ not (is_gt (key_cmp p q))
key-le p q = le-then (nat_cmp p.time q.time) (nat_cmp p.rank q.rank) (nat_cmp p.serial q.serial)

turned : (b c : Bool) → b ≡ not c → b ≡ true → c ≡ false
turned b true is so = absurd (cc)
turned b false is so = refl

straight : (b c : Bool) → b ≡ not c → b ≡ false → c ≡ true
straight b true is so = refl
straight b false is so = absurd (cc)

pub key-up-to : (p q : Key) → partial_le (partial_cmp-value).it p q ≡ true → is_gt (key_cmp p q) ≡ false
key-up-to p q = turned _ _ (key-le p q)

pub key-past : (p q : Key) → partial_le (partial_cmp-value).it p q ≡ false → is_gt (key_cmp p q) ≡ true
key-past p q = straight _ _ (key-le p q)

-- Lemmas on `specs/Follows.antt`: keys compare as their statements do; a statement is put into a list once; the statements
-- so far, and one more.
use Rattle.std.proofs.Common.{◌≡◌, ◌∙◌, ◌<◌, ◌+◌, ℕ, List, [], ◌∷◌, ◌++◌, map, filter, length, take, get_or, Bool, true, false, not, ◌&&◌, ◌||◌, cond, nat_lt, Option, Some, None, slice_get, refl, sym, ap, arith, zero-add}
use Rattle.std.proofs.lemmas.Bool.{ltb-true}
use Rattle.std.proofs.lemmas.Grind.{flat_map-append}
use Rattle.std.proofs.lemmas.List.{append-nil, map-id, take_more}
use Rattle.std.proofs.lemmas.List.Elements.{filter-append, filter_map-append}
use Rattle.std.proofs.lemmas.List.FromFn.{map-range_with_len_more}
use Rattle.std.proofs.lemmas.List.Sums.{fold-append}
use Rattle.std.proofs.lemmas.Option.{slice_get_within, get_or_from_slice_get}
use Rattle.std.specs.BTreeMap.Range.{range_contains}
use Rattle.std.specs.BTreeSet.{BTreeSet, insert_key, keys_between}
use Rattle.std.specs.Cmp.{nat_cmp_is}
use Rattle.std.specs.List.{fold, find, filter_map, flat_map, cons_option, list_all, range_with_len, AllByRecursion}
use Rattle.std.specs.List.Sorted.{IsStrictlySortedBy}
use Rattle.std.specs.Option.{option_map}
use Rattle.std.specs.Ordering.{nat_cmp, bool_cmp, ordering_then, match_ordering, is_lt}
use Rattle.std.specs.declared.cmp.Ordering.{Ordering}
use Rattle.std.specs.declared.cmp.Ordering.TheVariants.{Less, Equal, Greater}
use Rattle.std.specs.declared.ops.Bound.TheVariants.{Unbounded}
use Rattle.vh_design_nodes.specs.declared.driver.DriverInfo.{DriverInfo}
use Rattle.vh_design_nodes.specs.declared.expr.ExprNode.{ExprNode}
use Rattle.vh_design_nodes.specs.declared.object.ObjectInfo.{ObjectInfo}
use Rattle.vh_design_nodes.specs.Fits.{has_kind, before}
use Rattle.vh_design_nodes.specs.Kinds.{is_forcible, is_variable}
use Rattle.vh_design_nodes.proofs.FitsLemmas.{and_left, and_right}
use Rattle.vh_design_code.specs.declared.code.Code.{Code}
use Rattle.vh_design_code.specs.declared.code.Instruction.{Instruction}
use Rattle.vh_design_code.specs.declared.codes.Limits.{Limits}
use Rattle.vh_design_code.specs.declared.operation.Operation.{Operation}
use Rattle.vh_design_code.specs.declared.operation.Operation.TheVariants as operation
use Rattle.vh_design_code.specs.declared.operation.Single.{Single}
use Rattle.vh_design_code.specs.declared.operation.Single.TheVariants as single
use Rattle.vh_design_code.specs.Codes.{fits_code, fits_instruction, fits_blocks}
use Rattle.vh_design_code.specs.Operations.{fits_goes, fits_operation, fits_single}
use Rattle.vh_sense.specs.declared.follow.Follow.{Follow}
use Rattle.vh_sense.specs.declared.follow.Key.{Key}
use Rattle.vh_sense.specs.contracts.follow.KeyOrd.TheImpl.{cmp-value}
use Rattle.vh_sense.specs.Reads.{reads}
use Rattle.vh_sense.specs.Follows.{kept_by, follow_of, statements_in, follow_cmp, is_behind, first_behind}
use Rattle.vh_sense.specs.Views.{follow_at, follows_in, key_of, behind, noted, gathered}
use Rattle.vh_sense.proofs.ReadsLemmas.{all_at}

some_is : {X : Type 0} (x y : X) → Some x ≡ Some y → x ≡ y
some_is x y h = cc

-- An insertion goes through a map that keeps the order.
map_match : {A B : Type 0} (f : A → B) (o : Ordering) (xs ys zs : List A)
    → map f (match_ordering o xs ys zs) ≡ match_ordering o (map f xs) (map f ys) (map f zs)
map_match f Less xs ys zs = refl
map_match f Equal xs ys zs = refl
map_match f Greater xs ys zs = refl

pub map-insert_key : {A B : Type 0} (f : A → B) (R : A → A → Ordering) (S : B → B → Ordering)
    → ((x y : A) → R x y ≡ S (f x) (f y)) → (xs : List A) (k : A)
    → map f (insert_key R xs k) ≡ insert_key S (map f xs) (f k)
map-insert_key f R S same [] k = refl
map-insert_key {B = B} f R S same (x ∷ xs) k =
    map_match f (R k x) (k ∷ x ∷ xs) (x ∷ xs) (x ∷ insert_key R xs k)
    ∙ ap (λ (o : Ordering). match_ordering o (f k ∷ f x ∷ map f xs) (f x ∷ map f xs) (f x ∷ map f (insert_key R xs k))) (same k x)
    ∙ ap (λ (t : List B). match_ordering (S (f k) (f x)) (f k ∷ f x ∷ map f xs) (f x ∷ map f xs) (f x ∷ t)) (map-insert_key f R S same xs k)

flipped : (a b : Bool) → bool_cmp a b ≡ bool_cmp (not b) (not a)
flipped true true = refl
flipped true false = refl
flipped false true = refl
flipped false false = refl

pub same_order : (a b : Key) → (cmp-value).it a b ≡ follow_cmp (follow_at a) (follow_at b)
same_order a b =
    ap (λ (o : Ordering). ordering_then (nat_cmp a.object b.object) (ordering_then o (nat_cmp a.expr b.expr))) (flipped a.assign b.assign)

-- A number, and a statement, is in order with itself.
nat_itself : (n : ℕ) → nat_cmp n n ≡ Equal
nat_itself n = sym (nat_cmp_is n n Equal refl)

bool_itself : (b : Bool) → bool_cmp b b ≡ Equal
bool_itself true = refl
bool_itself false = refl

pub follow_itself : (f : Follow) → follow_cmp f f ≡ Equal
follow_itself f = rw (nat_itself f.object, bool_itself f.force, nat_itself f.expr) refl

-- What is put in twice stands there once.
insert_by : {K : Type 0} (R : K → K → Ordering) (x k : K) (xs : List K) (o : Ordering) → R k k ≡ Equal → R k x ≡ o
    → insert_key R (insert_key R xs k) k ≡ insert_key R xs k
    → insert_key R (match_ordering o (k ∷ x ∷ xs) (x ∷ xs) (x ∷ insert_key R xs k)) k
    ≡ match_ordering o (k ∷ x ∷ xs) (x ∷ xs) (x ∷ insert_key R xs k)
insert_by R x k xs Less itself is rest = rw itself refl
insert_by R x k xs Equal itself is rest = rw is refl
insert_by {K} R x k xs Greater itself is rest = rw is (ap (λ (t : List K). x ∷ t) rest)

pub insert_twice : {K : Type 0} (R : K → K → Ordering) (xs : List K) (k : K) → R k k ≡ Equal
    → insert_key R (insert_key R xs k) k ≡ insert_key R xs k
insert_twice R [] k itself = rw itself refl
insert_twice R (x ∷ xs) k itself = insert_by R x k xs (R k x) itself refl (insert_twice R xs k itself)

pub noted_twice : (a b : Bool) (f : Follow) (fs : List Follow) → noted b f (noted a f fs) ≡ noted (a || b) f fs
noted_twice true true f fs = insert_twice follow_cmp fs f (follow_itself f)
noted_twice true false f fs = refl
noted_twice false true f fs = refl
noted_twice false false f fs = refl

-- One statement more, and more statements.
pub gathered_more : (ns : List ExprNode) (o : ℕ) (before : List Follow) (f : Follow) (fs : List Follow)
    → gathered ns o before (f ∷ fs) ≡ gathered ns o (noted (reads ns o f.expr) f before) fs
gathered_more ns o before f fs = more_by (reads ns o f.expr)
  where
    more_by : (b : Bool) → fold (insert_key follow_cmp) before (cond b (f ∷ filter (λ (g : Follow). reads ns o g.expr) fs) (filter (λ (g : Follow). reads ns o g.expr) fs))
        ≡ gathered ns o (noted b f before) fs
    more_by true = refl
    more_by false = refl

pub gathered-append : (ns : List ExprNode) (o : ℕ) (before fs gs : List Follow)
    → gathered ns o before (fs ++ gs) ≡ gathered ns o (gathered ns o before fs) gs
gathered-append ns o before fs gs =
    rw filter-append (fold-append (insert_key follow_cmp) before (filter (λ (f : Follow). reads ns o f.expr) fs) (filter (λ (f : Follow). reads ns o f.expr) gs))

-- The statements of a code so far, and one instruction more.
abbrev so_far : List Instruction → List Follow
so_far is = filter_map (λ (i : Instruction). follow_of i.operation) is

one_more : (is : List Instruction) (i : ℕ) (x : Instruction) (found : Option Follow) → i < length is → x ≡ get_or is i x
    → follow_of x.operation ≡ found → so_far (take (i + 1) is) ≡ so_far (take i is) ++ cons_option found []
one_more is i x found within same gives =
    rw (take_more is i x within, ← same, filter_map-append (λ (j : Instruction). follow_of j.operation) (take i is) (x ∷ []), gives) refl

pub statement_more : (ns : List ExprNode) (o : ℕ) (before : List Follow) (is : List Instruction) (i : ℕ) (x : Instruction) (f : Follow)
    → i < length is → x ≡ get_or is i x → follow_of x.operation ≡ Some f
    → noted (reads ns o f.expr) f (gathered ns o before (so_far (take i is))) ≡ gathered ns o before (so_far (take (i + 1) is))
statement_more ns o before is i x f within same gives =
    rw (one_more is i x (Some f) within same gives, gathered-append ns o before (so_far (take i is)) (f ∷ []))
    (sym (gathered_more ns o (gathered ns o before (so_far (take i is))) f []))

pub other_more : (ns : List ExprNode) (o : ℕ) (before : List Follow) (is : List Instruction) (i : ℕ) (x : Instruction)
    → i < length is → x ≡ get_or is i x → follow_of x.operation ≡ None
    → gathered ns o before (so_far (take i is)) ≡ gathered ns o before (so_far (take (i + 1) is))
other_more ns o before is i x within same gives =
    rw (one_more is i x None within same gives, append-nil (so_far (take i is))) refl

-- The code of one process more, and one body more.
pub code_more : (cs : List Code) (i : ℕ) (c : Code) → slice_get cs i ≡ Some c
    → flat_map statements_in (take (i + 1) cs) ≡ flat_map statements_in (take i cs) ++ statements_in c
code_more cs i c at =
    rw (
      take_more cs i c (slice_get_within cs i c at),
      get_or_from_slice_get cs i c c at,
      flat_map-append statements_in (take i cs) (c ∷ []),
      append-nil (statements_in c),
    ) refl

numbers_more : (n : ℕ) → range_with_len 0 (n + 1) ≡ range_with_len 0 n ++ n ∷ []
numbers_more n =
    sym (map-id (range_with_len 0 (n + 1))) ∙ map-range_with_len_more (λ (x : ℕ). x) 0 n n (zero-add n)
    ∙ ap (λ (t : List ℕ). t ++ n ∷ []) (map-id (range_with_len 0 n))

pub body_more : (g : ℕ → List Follow) (n : ℕ) → flat_map g (range_with_len 0 (n + 1)) ≡ flat_map g (range_with_len 0 n) ++ g n
body_more g n = rw (numbers_more n, flat_map-append g (range_with_len 0 n) (n ∷ []), append-nil (g n)) refl

-- The expression of a statement is there.
single_there : (os : List ObjectInfo) (exprs shows : ℕ) (s : Single) (f : Follow) → fits_single os exprs shows s ≡ true
    → kept_by s ≡ Some f → f.expr < exprs
single_there os exprs shows (single.Force o e) f fits is =
    let same : e ≡ f.expr = ap (λ (k : Follow). k.expr) (some_is _ f is) in
    let below : e < exprs = ltb-true e exprs (and_right (has_kind is_forcible os o) (nat_lt e exprs) fits) in
    omega (arith, same, below)
single_there os exprs shows (single.Procedural o e) f fits is =
    let same : e ≡ f.expr = ap (λ (k : Follow). k.expr) (some_is _ f is) in
    let below : e < exprs = ltb-true e exprs (and_right (has_kind is_variable os o) (nat_lt e exprs) fits) in
    omega (arith, same, below)
single_there os exprs shows _ f fits is = cc

operation_there : (os : List ObjectInfo) (ns : List ExprNode) (ds : List DriverInfo) (l : Limits) (positions : ℕ) (op : Operation) (f : Follow)
    → fits_operation os ns ds l positions op ≡ true → follow_of op ≡ Some f → f.expr < length ns
operation_there os ns ds l positions (operation.Single s) f fits is = single_there os (length ns) l.shows s f fits is
operation_there os ns ds l positions _ f fits is = cc

pub statement_there : (os : List ObjectInfo) (ns : List ExprNode) (ds : List DriverInfo) (l : Limits) (c : Code) (i : ℕ) (x : Instruction) (f : Follow)
    → fits_code os ns ds l c ≡ true → slice_get c.instructions i ≡ Some x → follow_of x.operation ≡ Some f → f.expr < length ns
statement_there os ns ds l c i x f fits at is =
    let positions = length c.instructions in
    let each = list_all (fits_instruction os ns ds l positions (length c.blocks)) c.instructions in
    let instructions : each ≡ true =
    and_right (fits_goes positions c.start) each (and_left (fits_goes positions c.start && each) (fits_blocks os positions c.blocks) fits) in
    let one = all_at (fits_instruction os ns ds l positions (length c.blocks)) c.instructions i x instructions at in
    let a = fits_operation os ns ds l positions x.operation in let b = fits_goes positions x.next in
    let d = before l.stmts x.stmt in let e = before (length c.blocks) x.block in
    operation_there os ns ds l positions x.operation f (and_left a b (and_left (a && b) d (and_left ((a && b) && d) e one))) is

-- A key is that of its statement.
not_twice : (b : Bool) → not (not b) ≡ b
not_twice true = refl
not_twice false = refl

pub follow_of_key : (f : Follow) → follow_at (key_of f) ≡ f
follow_of_key f = ap (λ (b : Bool). with_force b f) (not_twice f.force)
  where
    with_force : Bool → Follow → Follow
    with_force b g = record g { force = b }

-- The first statement behind another is the first key behind its key.
behind_by : (after : Option Follow) (k : Key) → range_contains (cmp-value).it (behind after) Unbounded k ≡ is_behind after (follow_at k)
behind_by None k = refl
behind_by (Some a) k =
    ap (λ (o : Ordering). is_lt o && true) (same_order (key_of a) k ∙ ap (λ (f : Follow). follow_cmp f (follow_at k)) (follow_of_key a))
    ∙ only_one (is_lt (follow_cmp a (follow_at k)))
  where
    only_one : (b : Bool) → (b && true) ≡ b
    only_one true = refl
    only_one false = refl

find_behind : (after : Option Follow) (ks : List Key)
    → find (is_behind after) (map follow_at ks) ≡ option_map follow_at (slice_get (filter (range_contains (cmp-value).it (behind after) Unbounded) ks) 0)
find_behind after [] = refl
find_behind after (k ∷ ks) = rw (behind_by after k) (by_test (find_behind after ks) (is_behind after (follow_at k)))
  where
    by_test : find (is_behind after) (map follow_at ks) ≡ option_map follow_at (slice_get (filter (range_contains (cmp-value).it (behind after) Unbounded) ks) 0)
        → (b : Bool) → cond b (Some (follow_at k)) (find (is_behind after) (map follow_at ks))
        ≡ option_map follow_at (slice_get (cond b (k ∷ filter (range_contains (cmp-value).it (behind after) Unbounded) ks) (filter (range_contains (cmp-value).it (behind after) Unbounded) ks)) 0)
    by_test rest true = refl
    by_test rest false = rest

pub no_follow : (after : Option Follow) (s : BTreeSet Key) → keys_between (cmp-value).it (behind after) Unbounded s ≡ []
    → None ≡ first_behind after (follows_in s)
no_follow after s none = rw (find_behind after s.keys, none) refl

pub a_follow : (after : Option Follow) (s : BTreeSet Key) (k : Key) (rest : List Key) → keys_between (cmp-value).it (behind after) Unbounded s ≡ k ∷ rest
    → Some (follow_at k) ≡ first_behind after (follows_in s)
a_follow after s k rest some = rw (find_behind after s.keys, some) refl

-- The statements of keys in order are in order.
all_less : (k : Key) (ks : List Key) → AllByRecursion (λ j. (cmp-value).it k j ≡ Less) ks
    → AllByRecursion (λ f. follow_cmp (follow_at k) f ≡ Less) (map follow_at ks)
all_less k [] all = tt
all_less k (j ∷ ks) all = (sym (same_order k j) ∙ all.0, all_less k ks all.1)

pub follows_sorted : (ks : List Key) → IsStrictlySortedBy (cmp-value).it ks → IsStrictlySortedBy follow_cmp (map follow_at ks)
unfolding IsStrictlySortedBy
follows_sorted [] sorted = tt
follows_sorted (k ∷ ks) sorted = (all_less k ks sorted.0, follows_sorted ks sorted.1)

pub none_sorted : IsStrictlySortedBy follow_cmp []
unfolding IsStrictlySortedBy
none_sorted = tt

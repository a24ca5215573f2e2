-- Keys in their order, and which of them stand before another. (own)
use Rattle.std.specs.Prelude.{ℕ, zero, suc, if◌then◌else◌, List, [], ◌∷◌, Bool, true, Option, Some, None}
use Rattle.std.specs.BTreeSet.{BTreeSet, keys_between}
use Rattle.std.specs.Ordering.{is_lt, is_gt}
use Rattle.std.specs.declared.cmp.Ordering.{Ordering}
use Rattle.std.specs.declared.ops.Bound.TheVariants.{Included, Excluded}

module _ {K : Type 0} (cmp : K → K → Ordering) where
  -- Is the second before the first?
  abbrev pub is_before : K → K → Bool
  is_before k x = is_gt (cmp k x)

  -- How many of some in their order are before a key.
  abbrev pub before_len : K → List K → ℕ
  before_len k [] = zero
  before_len k (x ∷ xs) = if is_before k x then suc (before_len k xs) else zero

  -- Is a key before the first of some, if there is one?
  abbrev pub leads : K → List K → Bool
  leads k [] = true
  leads k (x ∷ xs) = is_lt (cmp k x)

  -- Those from one on and before another.
  abbrev pub from_to : K → K → BTreeSet K → List K
  from_to first end keys = keys_between cmp (Included first) (Excluded end) keys

module _ {K : Type 0} where
  -- The last of some.
  abbrev pub last_key : List K → Option K
  last_key [] = None
  last_key (x ∷ []) = Some x
  last_key (x ∷ y ∷ xs) = last_key (y ∷ xs)

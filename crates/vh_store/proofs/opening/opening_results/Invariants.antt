use Rattle.std.proofs.Common.{◌≡◌, ℕ, slice_get, nat_lt, if◌then◌else◌, None}
use Rattle.std.specs.BTreeMap.{get}
use Rattle.std.specs.Ordering.{nat_cmp}
use Rattle.vh_store.specs.Opening.{result_at}
use Rattle.vh_store.proofs.opening.opening_results.Given as goal

-- The calls among the expressions so far have an answer, and no other.
abbrev pub invariant-loop-e : goal.invariant-loop-e
invariant-loop-e l =
    (q : ℕ) → get nat_cmp l.results q ≡ (if nat_lt q l.e then result_at (slice_get l.d.exprs q) else None)

-- The live callbacks by what they watch: the index that the registry keeps beside them. (own)
use Rattle.std.specs.Prelude.{◌≡◌, ℕ, List, [], ◌∷◌, map, filter, Bool, true, false, Option, Some, None}
use Rattle.std.specs.BTreeMap.{is_at}
use Rattle.std.specs.Map.{lookup}
use Rattle.std.specs.Option.{option_cmp}
use Rattle.std.specs.Ordering.{nat_cmp, ordering_then}
use Rattle.std.specs.declared.cmp.Ordering.{Ordering}
use Rattle.vh_base.specs.declared.orders.Object.{Object}
use Rattle.vh_base.specs.declared.words.Reason.{Reason}
use Rattle.vh_callbacks.specs.declared.index.Watch.{Watch}
use Rattle.vh_callbacks.specs.declared.live.Live.{Live}
use Rattle.vh_callbacks.specs.Registration.{rank}

-- What a callback with this reason and this object watches.
abbrev pub watch : Reason → Option Object → Watch
watch reason None = record { reason = rank reason; object = None; word = None }
watch reason (Some x) = record { reason = rank reason; object = Some x.id; word = x.word }

-- By reason, then by object, then by word.
abbrev pub watch_cmp : Watch → Watch → Ordering
watch_cmp a b = ordering_then (nat_cmp a.reason b.reason) (ordering_then (option_cmp nat_cmp a.object b.object) (option_cmp nat_cmp a.word b.word))

-- The list that an index has under what is watched, if it has one.
abbrev pub list_under : Watch → List (Watch × List ℕ) → Option (List ℕ)
list_under w index = lookup (is_at (watch_cmp w)) index

-- The numbers of a list that may be missing.
abbrev pub listed : Option (List ℕ) → List ℕ
listed None = []
listed (Some ns) = ns

-- The numbers that an index has under what is watched.
abbrev pub numbers_under : Watch → List (Watch × List ℕ) → List ℕ
numbers_under w index = listed (list_under w index)

-- A list, if it has a number.
abbrev pub if_any : List ℕ → Option (List ℕ)
if_any [] = None
if_any (n ∷ ns) = Some (n ∷ ns)

-- Is there a list without a number?
abbrev pub is_empty_list : Option (List ℕ) → Bool
is_empty_list None = false
is_empty_list (Some []) = true
is_empty_list (Some (n ∷ ns)) = false

module _ {B : Type 0} where
  -- Does an entry watch this?
  abbrev pub watches : Watch → ℕ × Live B → Bool
  watches w e = is_at (watch_cmp w) (watch e.1.registration.reason e.1.registration.object)

  -- The numbers of the entries that watch this.
  abbrev pub watchers : Watch → List (ℕ × Live B) → List ℕ
  watchers w es = map (λ e. e.0) (filter (watches w) es)

  -- Whatever is watched, the index has the list of exactly these under it where there are some, and
  -- none where there are none.
  abbrev pub Indexes : List (Watch × List ℕ) → List (ℕ × Live B) → Type 0
  Indexes index es = (w : Watch) → list_under w index ≡ if_any (watchers w es)

-- The ranked where entries wait: by time, region and serial, and which of them an index has. (own)
use Rattle.std.specs.Prelude.{◌≡◌, ◌≤◌, ℕ, List, [], map, Bool, true, false, not, ◌&&◌, ◌||◌, ◌==◌, nat_le, nat_lt, Option, Some, None}
use Rattle.std.specs.BTreeSet.{BTreeSet, contains, keys_between}
use Rattle.std.specs.List.{list_any}
use Rattle.std.specs.List.Sorted.{IsStrictlySortedBy}
use Rattle.std.specs.Ordering.{nat_cmp}
use Rattle.std.specs.declared.ops.Bound.TheVariants.{Included, Excluded, Unbounded}
use Rattle.vh_queue.specs.declared.entry.Entry.{Entry}
use Rattle.vh_queue.specs.declared.index.Index.{Index}
use Rattle.vh_queue.specs.declared.key.Key.{Key}
use Rattle.vh_queue.specs.contracts.key.KeyOrd.TheImpl.{cmp-value}
use Rattle.vh_queue.specs.Entries.{rank as rank_of, is_update, is_at}

-- Is it a nonblocking update, or else is it none?
abbrev pub is_of : Bool → Entry → Bool
is_of true e = is_update e.work
is_of false e = not (is_update e.work)

-- Does the entry stand at this key? Does it have no time?
abbrev pub is_ranked : Key → Entry → Bool
is_ranked p e = (is_at e.time p.time && rank_of e.region == p.rank) && e.serial == p.serial

abbrev pub has_none : Option ℕ → Bool
has_none None = true
has_none (Some time) = false

abbrev pub is_untimed : Entry → Bool
is_untimed e = has_none e.time

-- Does it wait in the region of this rank at this time, with a serial from one on and below another?
abbrev pub waits : ℕ → ℕ → ℕ → ℕ → Entry → Bool
waits time r from below e = (is_at e.time time && rank_of e.region == r) && (nat_le from e.serial && nat_lt e.serial below)

abbrev pub key : ℕ → ℕ → ℕ → Key
key time r serial = record { time = time; rank = r; serial = serial }

-- The key of an entry, where it has a time.
abbrev pub key_at : Option ℕ → ℕ → ℕ → Option Key
key_at None r serial = None
key_at (Some time) r serial = Some (key time r serial)

abbrev pub key_of : Entry → Option Key
key_of e = key_at e.time (rank_of e.region) e.serial

-- The serials of the ranked of a time and region, from one on and below another.
abbrev pub serials_of : ℕ → ℕ → ℕ → ℕ → BTreeSet Key → List ℕ
serials_of time r from below ranked =
    map (λ p. p.serial) (keys_between (cmp-value).it (Included (key time r from)) (Excluded (key time r below)) ranked)

-- No key stands at the time, nor before it.
abbrev pub AreLater : ℕ → BTreeSet Key → Type 0
AreLater time ranked = (r from below : ℕ) → serials_of time r from below ranked ≡ []

-- The serials below one of the entries that have no time.
abbrev pub dated_in : ℕ → BTreeSet ℕ → List ℕ
dated_in below serials = keys_between nat_cmp Unbounded (Excluded below) serials

-- The ranked are those of the entries of a kind.
abbrev pub AreRanked : Bool → List Entry → BTreeSet Key → Type 0
AreRanked update es ranked = (p : Key) → contains (cmp-value).it ranked p ≡ list_any (λ e. is_of update e && is_ranked p e) es

abbrev pub AreUntimed : List Entry → BTreeSet ℕ → Type 0
AreUntimed es serials = (s : ℕ) → contains nat_cmp serials s ≡ list_any (λ e. is_untimed e && e.serial == s) es

-- The index is that of these entries.
pub record Indexes (es : List Entry) (x : Index) : Type 0 where
  pub plain : AreRanked false es x.plain
  pub updates : AreRanked true es x.updates
  pub untimed : AreUntimed es x.untimed
  pub plain_sorted : IsStrictlySortedBy (cmp-value).it x.plain.keys
  pub updates_sorted : IsStrictlySortedBy (cmp-value).it x.updates.keys
  pub untimed_sorted : IsStrictlySortedBy nat_cmp x.untimed.keys

-- An entry more is in the index, and one is in it no more.
pub record Entered (e : Entry) (x y : Index) : Type 0 where
  pub plain : (p : Key) → contains (cmp-value).it y.plain p ≡ ((is_of false e && is_ranked p e) || contains (cmp-value).it x.plain p)
  pub updates : (p : Key) → contains (cmp-value).it y.updates p ≡ ((is_of true e && is_ranked p e) || contains (cmp-value).it x.updates p)
  pub untimed : (s : ℕ) → contains nat_cmp y.untimed s ≡ ((is_untimed e && e.serial == s) || contains nat_cmp x.untimed s)

pub record Left (e : Entry) (x y : Index) : Type 0 where
  pub plain : (p : Key) → contains (cmp-value).it y.plain p ≡ (contains (cmp-value).it x.plain p && not (is_of false e && is_ranked p e))
  pub updates : (p : Key) → contains (cmp-value).it y.updates p ≡ (contains (cmp-value).it x.updates p && not (is_of true e && is_ranked p e))
  pub untimed : (s : ℕ) → contains nat_cmp y.untimed s ≡ (contains nat_cmp x.untimed s && not (is_untimed e && e.serial == s))

-- The order of its sets is kept.
pub record StaysSorted (x y : Index) : Type 0 where
  pub plain : IsStrictlySortedBy (cmp-value).it x.plain.keys → IsStrictlySortedBy (cmp-value).it y.plain.keys
  pub updates : IsStrictlySortedBy (cmp-value).it x.updates.keys → IsStrictlySortedBy (cmp-value).it y.updates.keys
  pub untimed : IsStrictlySortedBy nat_cmp x.untimed.keys → IsStrictlySortedBy nat_cmp y.untimed.keys

-- It has what it had.
pub record IsSame (x y : Index) : Type 0 where
  pub plain : y.plain.keys ≡ x.plain.keys
  pub updates : y.updates.keys ≡ x.updates.keys
  pub untimed : y.untimed.keys ≡ x.untimed.keys

-- A key has this time, and none has an earlier one.
pub record IsLeastTime (time : ℕ) (ranked : BTreeSet Key) : Type 0 where
  pub serial : ℕ
  pub rank : ℕ
  pub there : contains (cmp-value).it ranked (key time rank serial) ≡ true
  pub least : (p : Key) → contains (cmp-value).it ranked p ≡ true → time ≤ p.time

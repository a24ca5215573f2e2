-- How contracts see what is inside: for each object the set of the statements that read it, and the set of the
-- processes that wait on it. (own)
use Rattle.std.specs.Prelude.{◌≡◌, ◌<◌, ℕ, Bool, true, false, not, ◌&&◌, ◌==◌, if◌then◌else◌, List, [], ◌∷◌, map, filter, length, Option, Some, None, slice_get}
use Rattle.std.specs.BTreeMap.{is_at}
use Rattle.std.specs.BTreeSet.{BTreeSet, contains, insert_key}
use Rattle.std.specs.List.{list_any, fold}
use Rattle.std.specs.List.Sorted.{IsStrictlySortedBy}
use Rattle.std.specs.Map.{keys_of, lookup}
use Rattle.std.specs.Option.{option_and_then}
use Rattle.std.specs.Ordering.{nat_cmp}
use Rattle.std.specs.declared.ops.Bound.{Bound}
use Rattle.std.specs.declared.ops.Bound.TheVariants.{Excluded, Unbounded}
use Rattle.vh_design_nodes.specs.declared.expr.ExprNode.{ExprNode}
use Rattle.vh_design_code.specs.declared.wait.Term.{Term}
use Rattle.vh_design_code.specs.declared.wait.WaitInfo.{WaitInfo}
use Rattle.vh_sense.specs.declared.follow.Follow.{Follow}
use Rattle.vh_sense.specs.declared.follow.Key.{Key}
use Rattle.vh_sense.specs.Waits.{object_of}
use Rattle.vh_sense.specs.Reads.{reads}
use Rattle.vh_sense.specs.Follows.{follow_cmp}

-- The statement of a key.
abbrev pub follow_at : Key → Follow
follow_at k = record { object = k.object; force = not k.assign; expr = k.expr }

-- The statements in a set.
abbrev pub follows_in : BTreeSet Key → List Follow
follows_in s = map follow_at s.keys

-- What is there of something that may be missing.
abbrev pub one_of : Option ℕ → List ℕ
one_of None = []
one_of (Some e) = e ∷ []

-- Does a term name the object?
abbrev pub names : List Term → ℕ → Bool
names ts o = list_any (λ t. object_of t == o) ts

abbrev pub wait_names : Option WaitInfo → ℕ → Bool
wait_names None o = false
wait_names (Some w) o = names w.terms o

-- Does the wait of this number, where there is one, name the object?
abbrev pub names_at : List WaitInfo → Option ℕ → ℕ → Bool
names_at waits number o = wait_names (option_and_then (λ w. slice_get waits w) number) o

-- Is the process in the set of an object?
abbrev pub is_in : Option (BTreeSet ℕ) → ℕ → Bool
is_in None p = false
is_in (Some s) p = contains nat_cmp s p

abbrev pub watches : List (BTreeSet ℕ) → ℕ → ℕ → Bool
watches sets o p = is_in (slice_get sets o) p

-- No set has a key.
abbrev pub AllEmpty : {K : Type 0} → List (BTreeSet K) → Type 0
AllEmpty {K} sets = (o : ℕ) (s : BTreeSet K) → slice_get sets o ≡ Some s → s.keys ≡ []

-- The processes above one, where there is one.
abbrev pub above : Option ℕ → Bound ℕ
above None = Unbounded
above (Some p) = Excluded p

-- The keys of the statements behind one, where there is one.
abbrev pub key_of : Follow → Key
key_of f = record { object = f.object; assign = not f.force; expr = f.expr }

abbrev pub behind : Option Follow → Bound Key
behind None = Unbounded
behind (Some f) = Excluded (key_of f)

-- Whether a process is in a set after another was put into it, or taken out of it, where an object is named.
abbrev pub set_to : Bool → Bool → ℕ → ℕ → Bool → Bool
set_to there named p q before = if named && p == q then there else before

-- A process is put into the sets of the objects that are named, or taken out of them; nothing else changes.
abbrev pub SetsTo : Bool → (ℕ → Bool) → ℕ → List (BTreeSet ℕ) → List (BTreeSet ℕ) → Type 0
SetsTo there named p old new = (o q : ℕ) → watches new o q ≡ set_to there (named o) p q (watches old o q)

-- Each object that a term names has a number below this.
abbrev pub ArePlaced : List Term → ℕ → Type 0
ArePlaced ts count = (o : ℕ) → names ts o ≡ true → o < count

-- A statement is put into a list of statements, where it is to be.
abbrev pub noted : Bool → Follow → List Follow → List Follow
noted named f fs = if named then insert_key follow_cmp fs f else fs

-- The statements in the set of an object.
abbrev pub set_at : Option (BTreeSet Key) → List Follow
set_at None = []
set_at (Some s) = follows_in s

abbrev pub follows_at : List (BTreeSet Key) → ℕ → List Follow
follows_at sets o = set_at (slice_get sets o)

-- Those of some statements that read an object are put into a list.
abbrev pub gathered : List ExprNode → ℕ → List Follow → List Follow → List Follow
gathered ns o before fs = fold (insert_key follow_cmp) before (filter (λ f. reads ns o f.expr) fs)

-- Each set has the statements that it had, and those of these that read its object.
abbrev pub Gathers : List ExprNode → List Follow → List (BTreeSet Key) → List (BTreeSet Key) → Type 0
Gathers ns fs old new =
    (o : ℕ) → o < length old → follows_at new o ≡ gathered ns o (follows_at old o) fs

-- The set of each object has exactly the processes whose wait names it.
pub record Holds (waits : List WaitInfo) (watchers : List (BTreeSet ℕ)) (waiting : List (ℕ × ℕ)) : Type 0 where
  pub sorted : IsStrictlySortedBy nat_cmp (keys_of waiting)
  pub placed : (w o : ℕ) → names_at waits (Some w) o ≡ true → o < length watchers
  pub known : (p w : ℕ) → lookup (is_at (nat_cmp p)) waiting ≡ Some w → w < length waits
  pub watched : (o p : ℕ) → watches watchers o p ≡ names_at waits (lookup (is_at (nat_cmp p)) waiting) o

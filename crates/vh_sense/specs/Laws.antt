-- What the definitions mean: the calls go through who is woken and what follows in turn, and nobody else's wait is touched.
use Rattle.std.specs.Prelude.{◌≡◌, ◌≢◌, ℕ, true, false, List, [], ◌∷◌, filter, Option, Some, None}
use Rattle.std.specs.List.Sorted.{IsStrictlySortedBy}
use Rattle.std.specs.Map.{keys_of}
use Rattle.std.specs.Ordering.{nat_cmp}
use Rattle.vh_design_code.specs.declared.change.Change.{Change}
use Rattle.vh_design.specs.Shape.{Shape}
use Rattle.vh_sense.specs.declared.follow.Follow.{Follow}
use Rattle.vh_sense.specs.Waits.{is_met_at}
use Rattle.vh_sense.specs.Follows.{followers, is_behind, first_behind}
use Rattle.vh_sense.specs.Sensitivity.{Sensitivity, wait_of, woken, is_above, next_woken, without_wait}

-- The processes that wait stand by rising number; each call says so.
abbrev pub IsRising : Sensitivity → Type 0
IsRising s = IsStrictlySortedBy nat_cmp (keys_of s.waiting)

-- The processes above another that a change wakes, and the statements behind another that follow it.
abbrev pub woken_above : Option ℕ → Sensitivity → Change → List ℕ
woken_above after s c = filter (is_above after) (woken s c)

abbrev pub those_behind : Option Follow → List Follow → List Follow
those_behind after fs = filter (is_behind after) fs

abbrev pub followers_behind : Option Follow → Shape → ℕ → List Follow
followers_behind after d o = those_behind after (followers d o)

-- What was woken waited, for what the change meets, and waits for nothing any more.
pub record WasMet (p : ℕ) (c : Change) (s : Sensitivity) : Type 0 where
  pub number : ℕ
  pub waited : wait_of p s ≡ Some number
  pub met : is_met_at s.waits (Some number) c ≡ true
  pub gone : wait_of p (without_wait p s) ≡ None

abbrev pub WakesWhoIsMet : Type 0
WakesWhoIsMet = (s : Sensitivity) (c : Change) (after : Option ℕ) (p : ℕ) → IsRising s → next_woken s c after ≡ Some p → WasMet p c s

-- What still waits above the other wasn't met.
abbrev pub LeavesWhoIsNotMet : Type 0
LeavesWhoIsNotMet = (s : Sensitivity) (c : Change) (after : Option ℕ) (p number : ℕ) → next_woken s c after ≡ None
    → is_above after p ≡ true → wait_of p s ≡ Some number → is_met_at s.waits (Some number) c ≡ false

-- The wait of every other process stays.
abbrev pub LeavesOthers : Type 0
LeavesOthers = (s : Sensitivity) (p q : ℕ) → IsRising s → p ≢ q → wait_of q (without_wait p s) ≡ wait_of q s

-- One after another the answers are all that a change wakes, from the least up.
abbrev pub WakesInTurn : Type 0
WakesInTurn = (s : Sensitivity) (c : Change) (after : Option ℕ) (p : ℕ) → IsRising s → next_woken s c after ≡ Some p
    → woken_above after s c ≡ p ∷ woken_above (Some p) (without_wait p s) c

abbrev pub WakesToTheEnd : Type 0
WakesToTheEnd = (s : Sensitivity) (c : Change) (after : Option ℕ) → next_woken s c after ≡ None → woken_above after s c ≡ []

-- One after another the answers are all statements that follow, in their order.
abbrev pub FollowsInTurn : Type 0
FollowsInTurn = (d : Shape) (o : ℕ) (after : Option Follow) (f : Follow) → first_behind after (followers d o) ≡ Some f
    → followers_behind after d o ≡ f ∷ followers_behind (Some f) d o

abbrev pub FollowsToTheEnd : Type 0
FollowsToTheEnd = (d : Shape) (o : ℕ) (after : Option Follow) → first_behind after (followers d o) ≡ None → followers_behind after d o ≡ []

-- Who waits on what, and what each call makes of it. (IEEE 1364-2005, 9.7 and 11.4)
use Rattle.std.specs.Prelude.{◌≡◌, ◌<◌, ℕ, Bool, true, List, [], filter, length, nat_lt, Option, Some, None, slice_index_or}
use Rattle.std.specs.BTreeMap.{is_at, insert_entry}
use Rattle.std.specs.List.{find}
use Rattle.std.specs.Map.{keys_of, lookup, remove_entry}
use Rattle.std.specs.Ordering.{nat_cmp}
use Rattle.vh_design_code.specs.declared.change.Change.{Change}
use Rattle.vh_design_code.specs.declared.wait.WaitInfo.{WaitInfo}
use Rattle.vh_design.specs.Shape.{Shape}
use Rattle.vh_sense.specs.declared.follow.Follow.{Follow}
use Rattle.vh_sense.specs.Waits.{is_met_at}
use Rattle.vh_sense.specs.Follows.{followers, first_behind}

-- What each wait of the design waits for; the force and assign statements that read each object; and each process
-- that waits with the number of its wait, by rising process.
pub record Sensitivity : Type 0 where
  pub waits : List WaitInfo
  pub readers : List (List Follow)
  pub waiting : List (ℕ × ℕ)

-- The number of the wait of a process, where it waits.
abbrev pub wait_of : ℕ → Sensitivity → Option ℕ
wait_of p s = lookup (is_at (nat_cmp p)) s.waiting

-- Does the change wake the process?
abbrev pub wakes : Sensitivity → Change → ℕ → Bool
wakes s c p = is_met_at s.waits (wait_of p s) c

-- The processes that a change wakes, by rising number: every one that waits is tested. (11.4)
abbrev pub woken : Sensitivity → Change → List ℕ
woken s c = filter (wakes s c) (keys_of s.waiting)

-- Does a process stand above another, where there is another?
abbrev pub is_above : Option ℕ → ℕ → Bool
is_above None p = true
is_above (Some a) p = nat_lt a p

-- The least of them above another process.
abbrev pub next_woken : Sensitivity → Change → Option ℕ → Option ℕ
next_woken s c after = find (is_above after) (woken s c)

-- A process waits for nothing any more.
abbrev pub without_wait : ℕ → Sensitivity → Sensitivity
without_wait p s = record s { waiting = remove_entry (is_at (nat_cmp p)) s.waiting }

-- A process waits for this, and for nothing else any more.
abbrev pub with_wait : ℕ → ℕ → Sensitivity → Sensitivity
with_wait p w s = record s { waiting = insert_entry nat_cmp (without_wait p s).waiting p w }

-- Nor does one that was woken.
abbrev pub after_woken : Option ℕ → Sensitivity → Sensitivity
after_woken None s = s
after_woken (Some p) s = without_wait p s

-- The statements that follow a change of an object, in their order.
abbrev pub readers_of : ℕ → Sensitivity → List Follow
readers_of o s = slice_index_or s.readers o []

-- The first of them behind another.
abbrev pub next_follow : Sensitivity → Change → Option Follow → Option Follow
next_follow s c after = first_behind after (readers_of c.object.id s)

-- It was made for the design; each call keeps that.
pub record IsFor (d : Shape) (s : Sensitivity) : Type 0 where
  pub waits : s.waits ≡ d.waits
  pub readers : (o : ℕ) → o < length d.objects → readers_of o s ≡ followers d o

-- Before all nobody waits.
pub record IsOpening (d : Shape) (s : Sensitivity) : Type 0 where
  pub made : IsFor d s
  pub nobody : s.waiting ≡ []

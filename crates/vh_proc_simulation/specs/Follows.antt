-- Which follow entries a change adds. (IEEE 1364-2005, 9.3; that one of a force or an assign stands at most is own)
use Rattle.std.specs.Prelude.{ℕ, List, [], ◌∷◌, Bool, true, false, ◌==◌, if◌then◌else◌, Option, Some, None, Result, Ok}
use Rattle.std.specs.BTreeMap.{is_at, insert_entry}
use Rattle.std.specs.Map.{lookup}
use Rattle.std.specs.Option.{is_some}
use Rattle.std.specs.Ordering.{nat_cmp}
use Rattle.vh_proc_assign.specs.Layers.{expr_of}
use Rattle.vh_base.specs.Checks.{with_ok}
use Rattle.vh_base.specs.declared.faults.Fault.{Fault}
use Rattle.vh_queue.specs.declared.region.Region.TheVariants as region
use Rattle.vh_queue.specs.declared.work.Work.TheVariants as work
use Rattle.vh_queue.specs.Events.{Events, work_of}
use Rattle.vh_sense.specs.declared.follow.Follow.{Follow}
use Rattle.vh_store.specs.Contents.{Contents}
use Rattle.vh_proc_turn.specs.Own.{with_entry}

-- The serials of the last follow entries, of forces and of procedural assigns, by their objects.
pub record Serials : Type 0 where
  pub forces : List (ℕ × ℕ)
  pub assigns : List (ℕ × ℕ)

abbrev pub no_serials : Serials
no_serials = record { forces = []; assigns = [] }

-- That of the force of an object, or of its assign; and it is another.
abbrev pub last_of : Bool → ℕ → Serials → Option ℕ
last_of true o n = lookup (is_at (nat_cmp o)) n.forces
last_of false o n = lookup (is_at (nat_cmp o)) n.assigns

abbrev pub noted : Bool → ℕ → ℕ → Serials → Serials
noted true o serial n = record n { forces = insert_entry nat_cmp n.forces o serial }
noted false o serial n = record n { assigns = insert_entry nat_cmp n.assigns o serial }

-- Does an entry of this serial stand? None is given twice, so it is that one.
abbrev pub is_standing : Events → Option ℕ → Bool
is_standing q None = false
is_standing q (Some serial) = is_some (work_of serial q)

-- What follow entries are added to.
pub record Followed : Type 0 where
  pub serials : Serials
  pub queue : Events

abbrev pub followed : Serials → Events → Followed
followed n q = record { serials = n; queue = q }

-- A force of an object, or its assign, gets a follow entry, now, unless one stands.
abbrev pub added_one : Bool → ℕ → Followed → Result Followed (Option Fault)
added_one force o b =
    with_ok (with_entry b.queue.time region.Active (work.Follow o force) b.queue) (λ q.
    Ok (followed (noted force o b.queue.next b.serials) q))

abbrev pub follow_entered : Bool → ℕ → Followed → Result Followed (Option Fault)
follow_entered force o b = if is_standing b.queue (last_of force o b.serials) then Ok b else added_one force o b

-- Of a force or assign statement that reads what has changed, where it is the one in place.
abbrev pub is_expr : ℕ → Option ℕ → Bool
is_expr e None = false
is_expr e (Some k) = k == e

abbrev pub is_in_force : Contents → Follow → Bool
is_in_force s f = is_expr f.expr (expr_of f.force s f.object)

abbrev pub one_followed : Contents → Follow → Followed → Result Followed (Option Fault)
one_followed s f b = if is_in_force s f then follow_entered f.force f.object b else Ok b

-- Of each in turn.
unfoldable pub all_followed : Contents → List Follow → Followed → Result Followed (Option Fault)
all_followed s [] b = Ok b
all_followed s (f ∷ fs) b = with_ok (one_followed s f b) (all_followed s fs)

-- What is noted of follow entries, in every state of a run: the serial that was noted last for a force or an assign tells whether an
-- entry of it stands, and one stands at most. (own)
use Rattle.std.specs.Prelude.{◌≡◌, ℕ, ◌<◌, ◌==◌, ◌&&◌, Bool, true, false, not, List, Some, slice_get}
use Rattle.std.specs.List.{list_any, AllByRecursion}
use Rattle.vh_app.specs.Script.{ScriptData}
use Rattle.vh_design.specs.Shape.{Shape}
use Rattle.vh_kernel.specs.declared.label.Label.{Label}
use Rattle.vh_kernel.specs.Settle.{Opens}
use Rattle.vh_kernel.specs.State.{State}
use Rattle.vh_kernel.specs.Table.{Step}
use Rattle.vh_queue.specs.declared.entry.Entry.{Entry}
use Rattle.vh_queue.specs.declared.work.Work.{Work}
use Rattle.vh_queue.specs.declared.work.Work.TheVariants as work
use Rattle.vh_queue.specs.Events.{Events, Rises}
use Rattle.vh_proc_simulation.specs.Follows.{Serials, last_of, is_standing}

-- Is it the follow of the force of this object, or of its assign?
abbrev pub is_layer : Bool → Bool → Bool
is_layer true b = b
is_layer false b = not b

abbrev pub is_follow_of : Bool → ℕ → Work → Bool
is_follow_of force o (work.Evaluate p) = false
is_follow_of force o (work.Drive driver value) = false
is_follow_of force o (work.Assign object low value) = false
is_follow_of force o (work.Follow object f) = object == o && is_layer force f
is_follow_of force o (work.Put object value) = false
is_follow_of force o (work.Strobe n) = false
is_follow_of force o work.MonitorShow = false
is_follow_of force o (work.Call callback) = false

-- An entry is the follow of a force, or of an assign, exactly where its serial is the one that was noted for it.
pub record FitsNoted (n : Serials) (e : Entry) : Type 0 where
  pub told : (force : Bool) (o : ℕ) → e.work ≡ work.Follow o force → last_of force o n ≡ Some e.serial
  pub heard : (force : Bool) (o : ℕ) → last_of force o n ≡ Some e.serial → e.work ≡ work.Follow o force

-- Each entry that stands is so, and serials that will be given were never noted.
pub record IsNoted (n : Serials) (q : Events) : Type 0 where
  pub rising : Rises 1 q.next q.entries
  pub below : (force : Bool) (o serial : ℕ) → last_of force o n ≡ Some serial → serial < q.next
  pub each : AllByRecursion (FitsNoted n) q.entries

abbrev pub NotesFollows : State → Type 0
NotesFollows s = IsNoted s.world.activity.follows s.world.activity.queue

-- So it is from a design's opening on, and stays so.
abbrev pub OpensNoted : Type 0
OpensNoted = (d : Shape) (scripts : List ScriptData) (s : State) → Opens d scripts s → NotesFollows s

abbrev pub StaysNoted : Type 0
StaysNoted = (s t : State) (l : Label) → NotesFollows s → Step s l t → NotesFollows t

-- Then the serial tells whether an entry stands,
abbrev pub TellsStanding : Type 0
TellsStanding = (n : Serials) (q : Events) (force : Bool) (o : ℕ) → IsNoted n q
    → is_standing q (last_of force o n) ≡ list_any (λ e. is_follow_of force o e.work) q.entries

-- And of each force and each assign one stands at most.
abbrev pub StandsOnce : Type 0
StandsOnce = (n : Serials) (q : Events) (force : Bool) (o i j : ℕ) (e f : Entry) → IsNoted n q
    → slice_get q.entries i ≡ Some e → slice_get q.entries j ≡ Some f → e.work ≡ work.Follow o force → f.work ≡ work.Follow o force → e ≡ f

-- The laws of every path, of every run and of every prefix of one.
use Rattle.std.specs.Prelude.{◌≡◌, List, [], ◌∷◌, false}
use Rattle.vh_design.specs.Shape.{Shape}
use Rattle.vh_app.specs.Script.{ScriptData}
use Rattle.vh_callbacks.specs.Callbacks.{IsSound}
use Rattle.vh_handles.specs.Handles.{no_handles}
use Rattle.vh_kernel.specs.declared.occurrence.Agendum.{Agendum}
use Rattle.vh_kernel.specs.declared.occurrence.Agendum.TheVariants as agendum
use Rattle.vh_kernel.specs.Outcome.{Move}
use Rattle.vh_orders.specs.Orders.{needs_entry}
use Rattle.vh_kernel_choice.specs.declared.chooser.Chooser.{Chooser}
use Rattle.vh_kernel.specs.Run.{IsRun}
use Rattle.vh_kernel.specs.Settle.{Opens}
use Rattle.vh_kernel.specs.State.{State}
use Rattle.vh_kernel.specs.Step.{is_over}
use Rattle.vh_kernel_laws.specs.Paths.{IsPath}
use Rattle.vh_kernel_laws.specs.Firing.{TellsOnce, FiresOnce, KeepsSets, LeavesNone, DoneOnce, ClosesInOrder, GoesByRemoval, RemovesForGood}
use Rattle.vh_kernel_laws.specs.HandleLaw.{GivesOnce, GivesLive, NamesOne, FindsLive, FreedByOrder, FreedThere, StaysFreed, RemovesCallbacks, FreesLive, FindsNames, FindsRelated, FindsWords, RegistersAsked}
use Rattle.vh_kernel_laws.specs.Acting.{BeginsStartups, OrdersNext, PassesNext, ReturnsLast}
use Rattle.vh_kernel_laws.specs.Pending.{TellsInTurn}
use Rattle.vh_kernel_laws.specs.Watching.{TellsThoseWhoWatch, FiresTop, ClosesTop, FramesStand, ComesByRegistration, StaysAsRegistered}

-- Labels that are made from a state keep the firing law.
pub record KeepsFiringLaw (s : State) (moves : List Move) : Type 0 where
  pub told_once : TellsOnce moves
  pub fires_once : FiresOnce moves
  pub sets_kept : KeepsSets moves
  pub none_left : LeavesNone moves
  pub done_once : DoneOnce moves
  pub in_order : ClosesInOrder moves
  pub goes_by_removal : GoesByRemoval s moves
  pub removes_for_good : RemovesForGood s moves
  pub told_to_watchers : TellsThoseWhoWatch moves
  pub fires_top : FiresTop s moves
  pub closes_top : ClosesTop s moves
  pub frames_stand : FramesStand s moves
  pub told_in_turn : TellsInTurn s moves
  pub begins_startups : BeginsStartups s moves
  pub orders_next : OrdersNext s moves
  pub passes_next : PassesNext s moves
  pub returns_last : ReturnsLast s moves
  pub comes_by_registration : ComesByRegistration s moves
  pub stays_as_registered : StaysAsRegistered s moves

-- And the handle law.
pub record KeepsHandleLaw (s : State) (moves : List Move) : Type 0 where
  pub given_once : GivesOnce moves
  pub given_live : GivesLive s moves
  pub names_one : NamesOne moves
  pub finds_live : FindsLive s moves
  pub freed_by_order : FreedByOrder s moves
  pub freed_there : FreedThere moves
  pub stays_freed : StaysFreed s moves
  pub removes_callbacks : RemovesCallbacks s moves
  pub frees_live : FreesLive s moves
  pub finds_names : FindsNames s moves
  pub finds_related : FindsRelated s moves
  pub finds_words : FindsWords s moves
  pub registers_asked : RegistersAsked s moves

pub record KeepsLaws (s : State) (moves : List Move) : Type 0 where
  pub firing : KeepsFiringLaw s moves
  pub handles : KeepsHandleLaw s moves

-- Nothing on the agenda stands for an entry of the event queue.
abbrev pub needs_none : Agendum → Type 0
needs_none (agendum.Startup k) = Unit {0}
needs_none (agendum.Occurrence reason) = needs_entry reason ≡ false

abbrev pub all_need_none : List Agendum → Type 0
all_need_none [] = Unit {0}
all_need_none (x ∷ xs) = needs_none x × all_need_none xs

-- The run isn't over, nothing is on control, such an agenda stands, and no handle was given; the numbers of callbacks rise.
pub record IsFresh (s : State) : Type 0 where
  pub going : is_over s.world.phase ≡ false
  pub alone : s.control ≡ []
  pub plain : all_need_none s.agenda
  pub none_given : s.world.handles ≡ no_handles
  pub sound : IsSound s.world.callbacks

-- The theorem: every path from such a state keeps both laws, whole or cut anywhere,
abbrev pub PathsKeepLaws : Type 0
PathsKeepLaws = (s : State) (moves : List Move) → IsFresh s → IsPath s moves → KeepsLaws s moves

-- And so does every run under an order of choice;
abbrev pub Lawful : Chooser → State → Type 0
Lawful order s = (moves : List Move) → IsRun order s moves → KeepsLaws s moves

abbrev pub RunsKeepLaws : Type 0
RunsKeepLaws = (s : State) → IsFresh s → (order : Chooser) → Lawful order s

-- The opening of a design with its scripts is such a state.
abbrev pub OpensFresh : Type 0
OpensFresh = (d : Shape) (scripts : List ScriptData) (s : State) → Opens d scripts s → IsFresh s

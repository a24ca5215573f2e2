-- The firing law: which callback fires for an occurrence, and when. (IEEE 1364-2005, 27.33; what a removal
-- or a registration meanwhile does is own)
use Rattle.std.specs.Prelude.{◌≡◌, ℕ, List, [], ◌∷◌, ◌++◌, true, false, not, ◌&&◌, drop, filter, slice_get, Option, Some, ◌⊎◌}
use Rattle.vh_base.specs.declared.orders.Object.{Object}
use Rattle.vh_base.specs.declared.words.Reason.{Reason}
use Rattle.vh_callbacks.specs.Callbacks.{is_live}
use Rattle.vh_dispatch.specs.Frames.{top_set}
use Rattle.vh_kernel.specs.declared.control.Control.{Control}
use Rattle.vh_kernel.specs.declared.control.Control.TheVariants as top
use Rattle.vh_kernel.specs.declared.label.Label.{Label}
use Rattle.vh_kernel.specs.declared.label.Label.TheVariants as label
use Rattle.vh_kernel.specs.declared.occurrence.Told.{Told}
use Rattle.vh_kernel.specs.Occurrences.{Occurrence, set_of}
use Rattle.vh_kernel.specs.Outcome.{Move}
use Rattle.vh_kernel.specs.State.{State}
use Rattle.vh_callbacks.specs.Marks.{is_among}
use Rattle.vh_kernel_laws.specs.Deeds.{removes}
use Rattle.vh_kernel_laws.specs.Paths.{is_told, is_fire, is_fire_of, is_done, any, was_removed, end_of}

-- A frame: the number of its occurrence, the occurrence, and the callbacks that are still to fire for it.
pub record Frame : Type 0 where
  pub number : ℕ
  pub what : Occurrence
  pub left : List ℕ

-- The frames that stand, the top first: those on control, each with its set.
abbrev pub standing : Told → List (List ℕ) → Frame
standing f sets = record { number = f.number; what = f.what; left = top_set sets }

abbrev pub frames_in : List Control → List (List ℕ) → List Frame
frames_in [] sets = []
frames_in (top.Process p ∷ xs) sets = frames_in xs sets
frames_in (top.Pending o ∷ xs) sets = frames_in xs sets
frames_in (top.Frame f ∷ xs) sets = standing f sets ∷ frames_in xs (drop 1 sets)
frames_in (top.Activation a ∷ xs) sets = frames_in xs sets
frames_in (top.Leave c ∷ xs) sets = frames_in xs sets

abbrev pub frames_of : State → List Frame
frames_of s = frames_in s.control s.world.frames

-- The topmost of them.
abbrev pub TopFrame : State → Frame → Type 0
TopFrame s f = slice_get (frames_of s) 0 ≡ Some f

-- An occurrence is told: its label and the frame that this puts on control, with the whole set of the
-- callbacks that watch it.
pub record IsTelling (m : Move) (n : ℕ) (what : Occurrence) : Type 0 where
  pub told : m.0 ≡ label.Occ n what.reason what.object
  pub frame : TopFrame m.1 (record { number = n; what = what; left = set_of what m.1.world.callbacks })

-- An occurrence is told once, with its whole set.
abbrev pub TellsOnce : List Move → Type 0
TellsOnce moves =
    (before behind : List Move) (n : ℕ) (reason : Reason) (object : Option Object) (t : State)
    → moves ≡ before ++ (label.Occ n reason object, t) ∷ behind
    → ((what : Occurrence) × IsTelling (label.Occ n reason object, t) n what) × (any (is_told n) behind ≡ false)

-- The occurrence was told among these labels, and the callback was in its set.
pub record WasTold (n c : ℕ) (moves : List Move) : Type 0 where
  pub front : List Move
  pub rest : List Move
  pub move : Move
  pub what : Occurrence
  pub splits : moves ≡ front ++ move ∷ rest
  pub tells : IsTelling move n what
  pub among : is_among c (set_of what move.1.world.callbacks) ≡ true

-- A callback fires for an occurrence after that was told, if it was in its set then; before the occurrence
-- is done; and once.
pub record FiresRight (n c : ℕ) (before : List Move) : Type 0 where
  pub told : WasTold n c before
  pub yet : any (is_done n) before ≡ false
  pub once : any (is_fire n c) before ≡ false

abbrev pub FiresOnce : List Move → Type 0
FiresOnce moves =
    (before behind : List Move) (n c : ℕ) (t : State)
    → moves ≡ before ++ (label.Fire n c, t) ∷ behind → FiresRight n c before

-- What is left of a set: those that have neither fired for the occurrence nor been removed since.
abbrev pub left_of : ℕ → List Move → List ℕ → List ℕ
left_of n since set = filter (λ c. not (any (is_fire n c) since) && not (was_removed c since)) set

-- The set of a frame is that of its occurrence without those that have fired for it or were removed since.
abbrev pub KeepsSets : List Move → Type 0
KeepsSets moves =
    (front mid behind : List Move) (m : Move) (n i : ℕ) (what : Occurrence) (f : Frame)
    → moves ≡ front ++ m ∷ mid ++ behind → IsTelling m n what
    → slice_get (frames_of (end_of m.1 mid)) i ≡ Some f → f.number ≡ n → f.left ≡ left_of n mid (set_of what m.1.world.callbacks)

-- When an occurrence is done, each callback of its set has fired for it, or was removed since.
abbrev pub LeavesNone : List Move → Type 0
LeavesNone moves =
    (front mid behind : List Move) (m : Move) (n c : ℕ) (what : Occurrence) (t : State)
    → moves ≡ front ++ m ∷ mid ++ (label.Done n, t) ∷ behind → IsTelling m n what
    → is_among c (set_of what m.1.world.callbacks) ≡ true
    → (any (is_fire n c) mid ≡ true) ⊎ (was_removed c mid ≡ true)

-- An occurrence is done after it was told, and once.
abbrev pub DoneOnce : List Move → Type 0
DoneOnce moves =
    (before behind : List Move) (n : ℕ) (t : State) → moves ≡ before ++ (label.Done n, t) ∷ behind
    → (any (is_told n) before ≡ true) × (any (is_done n) before ≡ false) × (any (is_done n) behind ≡ false)

-- What was told after an occurrence is done before it is.
abbrev pub ClosesInOrder : List Move → Type 0
ClosesInOrder moves =
    (front mid behind : List Move) (n k : ℕ) (reason : Reason) (object : Option Object) (u t : State)
    → moves ≡ front ++ (label.Occ n reason object, u) ∷ mid ++ (label.Done n, t) ∷ behind
    → any (is_told k) mid ≡ true → any (is_done k) mid ≡ true

-- A callback stops being live only where it is removed,
abbrev pub GoesByRemoval : State → List Move → Type 0
GoesByRemoval s moves =
    (before behind : List Move) (m : Move) (c : ℕ) → moves ≡ before ++ m ∷ behind
    → is_live c (end_of s before).world.callbacks ≡ true → is_live c m.1.world.callbacks ≡ false
    → removes m.0 (end_of s before) ≡ Some c

-- And where it is removed it is live no more, and fires no more.
pub record IsGone (c : ℕ) (m : Move) (behind : List Move) : Type 0 where
  pub dead : is_live c m.1.world.callbacks ≡ false
  pub silent : any (is_fire_of c) behind ≡ false

abbrev pub RemovesForGood : State → List Move → Type 0
RemovesForGood s moves =
    (before behind : List Move) (m : Move) (c : ℕ) → moves ≡ before ++ m ∷ behind
    → removes m.0 (end_of s before) ≡ Some c → IsGone c m behind

-- Frames: for each occurrence that was told, the callbacks that are still to fire for it. A dispatch has the
-- frames' numbers, the top first; the set of the frame at a depth is the registry's set of that depth.
-- (IEEE 1364-2005, 27.33)
use Rattle.std.specs.Prelude.{ℕ, zero, suc, List, [], ◌∷◌, length, Bool, true, false, Option, Some, None, slice_get, unwrap_or}
use Rattle.vh_callbacks.specs.Marks.{Registered, without_number}
use Rattle.vh_dispatch.specs.declared.dispatch.Begun.{Begun}
use Rattle.vh_dispatch.specs.declared.dispatch.Begun.TheVariants as begun

-- The sets of so many frames, the top first, of the sets by depth.
abbrev pub stack_at : ℕ → List (List ℕ) → List (List ℕ)
stack_at zero sets = []
stack_at (suc d) sets = unwrap_or (slice_get sets d) [] ∷ stack_at d sets

-- The frames' sets that a dispatch shows over a registry.
abbrev pub stack_of : {B : Type 0} → List ℕ → Registered B → List (List ℕ)
stack_of numbers r = stack_at (length numbers) r.sets

-- The top set; none where no frame stands.
abbrev pub top_set : List (List ℕ) → List ℕ
top_set [] = []
top_set (s ∷ ss) = s

-- The depth of the top frame, from 0.
abbrev pub depth_of : List ℕ → Option ℕ
depth_of [] = None
depth_of (n ∷ ns) = Some (length ns)

-- Without a number in the top set.
abbrev pub without_in_top : ℕ → List (List ℕ) → List (List ℕ)
without_in_top c [] = []
without_in_top c (s ∷ ss) = without_number c s ∷ ss

-- What telling an occurrence comes to, by whether some callback watches it and whether as many frames
-- stand as may.
abbrev pub begun_of : Bool → Bool → Begun
begun_of false deep = begun.Nothing
begun_of true true = begun.TooDeep
begun_of true false = begun.Frame

-- What is where a frame was made, and where none was.
abbrev pub framed : {X : Type 0} → Begun → X → X → X
framed begun.Frame made before = made
framed begun.Nothing made before = before
framed begun.TooDeep made before = before

-- What becomes of the frames' sets through the registry's calls. (own)
use Rattle.std.specs.Prelude.{◌≡◌, ◌<◌, ℕ, List, length, map}
use Rattle.vh_callbacks.specs.Marks.{Registered, marked, without_number}
use Rattle.vh_dispatch.specs.Frames.{stack_of}

-- Where the set of each depth loses a number, as by a removal, each frame's set loses it.
abbrev pub LosesNumber : Type 0 → Type 0
LosesNumber B = (numbers : List ℕ) (c : ℕ) (old new : Registered B)
    → ((d : ℕ) → marked d new ≡ without_number c (marked d old))
    → stack_of numbers new ≡ map (without_number c) (stack_of numbers old)

-- Where the sets of the frames' depths are as before, as after a registration, so are the frames' sets.
abbrev pub KeepsFrames : Type 0 → Type 0
KeepsFrames B = (numbers : List ℕ) (old new : Registered B)
    → ((d : ℕ) → d < length numbers → marked d new ≡ marked d old)
    → stack_of numbers new ≡ stack_of numbers old

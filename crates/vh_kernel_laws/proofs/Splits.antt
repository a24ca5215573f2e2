-- Paths and their parts, and tests.
use Rattle.std.proofs.Common.{◌≡◌, List, [], ◌∷◌, ◌++◌, Bool, true, false, ◌||◌, refl, subst, ◌⊎◌, inl, inr}
use Rattle.vh_kernel.specs.State.{State}
use Rattle.vh_kernel.specs.Outcome.{Move}
use Rattle.vh_kernel_laws.specs.Paths.{IsPath, end_of}

-- A test passes or fails, and not both; one of two passes, or both fail.
pub either : (b : Bool) → (b ≡ true) ⊎ (b ≡ false)
either true = inl refl
either false = inr refl

pub not_both : (b : Bool) → b ≡ true → b ≡ false → ⊥
not_both b is none = absurd (cc)

pub or_right : (a b : Bool) → b ≡ true → (a || b) ≡ true
or_right true b is = refl
or_right false b is = is

pub or_left : (a b : Bool) → a ≡ true → (a || b) ≡ true
or_left true b is = refl
or_left false b is = absurd (cc)

pub or_false : (a b : Bool) → a ≡ false → b ≡ false → (a || b) ≡ false
or_false true b none rest = none
or_false false b none rest = rest

-- A path is made of its parts.
pub path_split : (s : State) (xs ys : List Move) → IsPath s (xs ++ ys) → IsPath s xs × IsPath (end_of s xs) ys
path_split s [] ys path = (tt, path)
path_split s (m ∷ xs) ys path = let rest = path_split m.1 xs ys path.1 in ((path.0, rest.0), rest.1)

pub path_at : (s : State) (moves xs ys : List Move) → IsPath s moves → moves ≡ xs ++ ys → IsPath s xs × IsPath (end_of s xs) ys
path_at s moves xs ys path is = path_split s xs ys (subst (λ (ms : List Move). IsPath s ms) is path)

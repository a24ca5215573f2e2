-- In which code the blocks of an object are. (own)
use Rattle.std.specs.Prelude.{◌≡◌, ℕ, List, Bool, true, false, ◌==◌, Option, Some, None, slice_get}
use Rattle.std.specs.BTreeMap.{is_at}
use Rattle.std.specs.Map.{lookup}
use Rattle.std.specs.Ordering.{nat_cmp}
use Rattle.vh_design_code.specs.declared.code.Block.{Block}
use Rattle.vh_design_code.specs.declared.code.Code.{Code}
use Rattle.vh_design.specs.Shape.{Shape}
use Rattle.vh_design.specs.Validity.{body_at}
use Rattle.vh_design_nodes.specs.Fits.{has_body}
use Rattle.vh_proc.specs.declared.layout.Owner.{Owner}
use Rattle.vh_proc.specs.declared.layout.Owner.TheVariants as owner
use Rattle.vh_proc.specs.declared.layout.Home.{Home}
use Rattle.vh_proc.specs.declared.layout.Home.TheVariants as home

-- No code but this one has a block of this object, which is no other task or function than the one whose body that is.
pub record IsOwner (d : Shape) (target : ℕ) (o : Owner) : Type 0 where
  pub codes : (n : ℕ) (c : Code) (i : ℕ) (b : Block) → slice_get d.codes n ≡ Some c → slice_get c.blocks i ≡ Some b → b.object ≡ target → o ≡ owner.Process n
  pub bodies : (r : ℕ) (c : Code) (i : ℕ) (b : Block) → body_at d r ≡ Some c → slice_get c.blocks i ≡ Some b → b.object ≡ target → o ≡ owner.Routine r
  pub routine : has_body d.objects target ≡ true → o ≡ owner.Routine target

-- What is noted of an object; whether that says that a block of it is in this code.
abbrev pub noted_of : ℕ → List (ℕ × Home) → Option Home
noted_of o hs = lookup (is_at (nat_cmp o)) hs

abbrev pub is_same : Owner → Owner → Bool
is_same (owner.Process n) (owner.Process k) = n == k
is_same (owner.Process n) (owner.Routine r) = false
is_same (owner.Routine s) (owner.Process k) = false
is_same (owner.Routine s) (owner.Routine r) = s == r

abbrev pub says : Option Home → Owner → Bool
says None o = false
says (Some (home.Only it)) o = is_same it o
says (Some home.Several) o = true

abbrev pub Says : List (ℕ × Home) → Owner → ℕ → Type 0
Says hs o target = says (noted_of target hs) o ≡ true

-- What is noted stays.
abbrev pub Grow : List (ℕ × Home) → List (ℕ × Home) → Type 0
Grow old new = (o : Owner) (target : ℕ) → Says old o target → Says new o target

-- The blocks of a code are noted.
abbrev pub SaysAll : List (ℕ × Home) → Owner → List Block → Type 0
SaysAll hs o bs = (i : ℕ) (b : Block) → slice_get bs i ≡ Some b → Says hs o b.object

-- Those of every code are, and each task and function is as a block of its own body.
pub record AreHomes (d : Shape) (hs : List (ℕ × Home)) : Type 0 where
  pub codes : (n : ℕ) (c : Code) → slice_get d.codes n ≡ Some c → SaysAll hs (owner.Process n) c.blocks
  pub bodies : (r : ℕ) (c : Code) → body_at d r ≡ Some c → SaysAll hs (owner.Routine r) c.blocks
  pub routines : (r : ℕ) → has_body d.objects r ≡ true → Says hs (owner.Routine r) r

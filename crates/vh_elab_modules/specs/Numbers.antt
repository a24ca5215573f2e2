-- How the code numbers modules.
use Rattle.std.specs.Prelude.{ℕ, suc, List, [], ◌∷◌, Bool, true, false, length, slice_set, Option, None, Some, unwrap_or}
use Rattle.vh_base.specs.declared.faults.DesignFault.TheVariants.{N8}
use Rattle.vh_base.specs.declared.place.Place.{Place}
use Rattle.vh_ast.specs.declared.token.Id.{Id}
use Rattle.vh_elab_index.specs.First.{position_in}
use Rattle.vh_bind_least.specs.Least.{Fault, least, fault_if}
use Rattle.vh_elab_modules.specs.Modules.{Holding}

-- The number of a name: the place of the first module that has it, or one that no module has.
abbrev pub number_of : List (List ℕ) → List ℕ → ℕ
number_of names name = unwrap_or (position_in names name) (length names)

-- An item with instances: an edge between modules, and where it stands.
abbrev pub Numbered : Type 0
Numbered = (ℕ × ℕ) × Place

abbrev pub numbered_in : List (List ℕ) → ℕ → Id → Numbered
numbered_in names from i = ((from, number_of names i.name), i.place)

abbrev pub numbered : List (List ℕ) → Holding → Numbered
numbered names h = numbered_in names (number_of names h.0) h.1

-- Which modules some module has instances of.
abbrev pub held_by : List Bool → List Numbered → List Bool
held_by flags [] = flags
held_by flags (h ∷ hs) = held_by (slice_set flags h.0.1 true) hs

-- The place of the one flag that is set.
abbrev pub only_from : ℕ → List Bool → Option ℕ → Option ℕ
only_from n [] found = found
only_from n (false ∷ flags) found = only_from (suc n) flags found
only_from n (true ∷ flags) None = only_from (suc n) flags (Some n)
only_from n (true ∷ flags) (Some k) = None

-- The least fault of the items that stand on cycles.
abbrev pub least_on : List Bool → List Numbered → Option Fault → Option Fault
least_on [] hs so_far = so_far
least_on (on ∷ ons) [] so_far = so_far
least_on (on ∷ ons) (h ∷ hs) so_far = least_on ons hs (least so_far (fault_if on N8 h.1))

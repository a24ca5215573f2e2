-- The modules of a source: the top, and the faults that come before all others. (IEEE 1364-2005, 12.1.1; the order is own)
use Rattle.std.specs.Prelude.{ℕ, suc, List, [], ◌∷◌, Bool, true, false, not, ◌==◌, bytes_eq, filter, map, Option, None, slice_get, unwrap_or}
use Rattle.std.specs.Option.{option_map}
use Rattle.std.specs.List.{flat_map, list_any}
use Rattle.vh_base.specs.declared.faults.DesignFault.TheVariants.{N2, N8, N9}
use Rattle.vh_base.specs.declared.place.Place.{Place}
use Rattle.vh_ast.specs.declared.token.Id.{Id}
use Rattle.vh_ast.specs.Items.{ModuleTree, SourceTree}
use Rattle.vh_elab_mentions.specs.Mentions.{instantiated}
use Rattle.vh_elab_index.specs.First.{first_named, position_in}
use Rattle.vh_elab_cycles.specs.Cycles.{is_on_cycle}
use Rattle.vh_bind_least.specs.Least.{Fault, least, least_of, or_else, fault_if}

-- The names of the modules.
abbrev pub names : SourceTree → List (List ℕ)
names ms = map (λ m. m.id.name) ms

-- The module of a name: the first of them.
abbrev pub module_named : SourceTree → List ℕ → Option ModuleTree
module_named ms name = first_named (λ m. m.id.name) ms name

-- An item with instances of a module: the name of the module in which it stands, and that which is written for the other one.
abbrev pub Holding : Type 0
Holding = List ℕ × Id

abbrev pub holdings_in : ModuleTree → List Holding
holdings_in m = map (λ i. (m.id.name, i)) (instantiated m)

-- Those of all modules, in the order of the source.
abbrev pub holdings : SourceTree → List Holding
holdings ms = flat_map holdings_in ms

-- Has some module an instance of one of this name?
abbrev pub is_instantiated : SourceTree → List ℕ → Bool
is_instantiated ms name = list_any (λ (h : Holding). bytes_eq name h.1.name) (holdings ms)

-- The top is the one module that no module instantiates. (N9)
abbrev pub tops : SourceTree → SourceTree
tops ms = filter (λ m. not (is_instantiated ms m.id.name)) ms

abbrev pub is_one : SourceTree → Bool
is_one [] = false
is_one (m ∷ []) = true
is_one (m ∷ n ∷ more) = false

abbrev pub top_fault : Place → SourceTree → Option Fault
top_fault first ms = fault_if (not (is_one (tops ms))) N9 first

-- From a module to one of which it has an instance, by their names: modules of one name count as one.
abbrev pub edge_of : Holding → List ℕ × List ℕ
edge_of h = (h.0, h.1.name)

-- An item that stands on a cycle: the module that it names holds the one in which it stands, directly or through others. (N8)
abbrev pub cycle_at : List Holding → Holding → Option Fault
cycle_at all h = fault_if (is_on_cycle bytes_eq (map edge_of all) (edge_of h)) N8 h.1.place

abbrev pub cycle_fault : SourceTree → Option Fault
cycle_fault ms = least_of (cycle_at (holdings ms)) (holdings ms) None

-- A name that an earlier module has. (N2)
abbrev pub is_first : List (List ℕ) → ℕ → List ℕ → Bool
is_first names n name = unwrap_or (option_map (λ k. k == n) (position_in names name)) false

abbrev pub twice_from : List (List ℕ) → ℕ → SourceTree → Option Fault → Option Fault
twice_from names n [] so_far = so_far
twice_from names n (m ∷ ms) so_far =
    twice_from names (suc n) ms (least so_far (fault_if (not (is_first names n m.id.name)) N2 m.id.place))

abbrev pub twice_fault : SourceTree → Option Fault
twice_fault ms = twice_from (names ms) 0 ms None

-- The faults of the modules: that of the top comes before the others.
abbrev pub later_fault : SourceTree → Option Fault
later_fault ms = or_else (cycle_fault ms) (twice_fault ms)

abbrev pub modules_fault : Place → SourceTree → Option Fault
modules_fault first ms = or_else (top_fault first ms) (later_fault ms)

-- Where there is none, this is the top.
abbrev pub top_of : SourceTree → Option ModuleTree
top_of ms = slice_get (tops ms) 0

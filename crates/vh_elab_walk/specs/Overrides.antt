-- The values that an instance gives to the parameters of its module. (IEEE 1364-2005, 12.2.2)
use Rattle.std.specs.Prelude.{ℕ, ◌+◌, List, [], ◌∷◌, ◌++◌, length, map, Bool, true, false, not, ◌||◌, if◌then◌else◌, nat_lt, Option, Some, None, is_some, Ok, Err, slice_get}
use Rattle.std.specs.List.{list_any}
use Rattle.vh_base.specs.declared.faults.DesignFault.TheVariants.{N1, N7}
use Rattle.vh_base.specs.declared.place.Place.{Place}
use Rattle.vh_logic.specs.Vector.{Vector}
use Rattle.vh_ast.specs.declared.item.ParameterWord.{ParameterWord}
use Rattle.vh_ast.specs.declared.item.ParameterWord.TheVariants as parameter_word
use Rattle.vh_ast.specs.Expressions.{ExprTree}
use Rattle.vh_ast.specs.Declarations.{AssignedTree}
use Rattle.vh_ast.specs.Items.{ConnTree, ordered, by_name, ItemTree, item, plain_item, generate_word, endgenerate_word, for_item, if_item, ModuleTree, PlainTree, port, net, declaration, event, genvar, parameter, assign, gate, instance, process, task, function}
use Rattle.vh_bind.specs.Constants.{constant}
use Rattle.vh_bind.specs.Scopes.{Scope}
use Rattle.vh_bind.specs.Selects.{Outcome}
use Rattle.vh_elab_index.specs.First.{position_in}
use Rattle.vh_bind_least.specs.Least.{Fault, fault_if, least}
use Rattle.vh_elab_declare.specs.Constants.{Given}

-- The parameters of a module: those of its header, and of its own items. A `localparam` is none. (12.2; own for the latter)
abbrev pub Names : Type 0
Names = List (List ℕ)

abbrev pub word_names : ParameterWord → List AssignedTree → Names
word_names parameter_word.Parameter all = map (λ a. a.id.name) all
word_names parameter_word.Localparam all = []

abbrev pub plain_parameters : PlainTree → Names
plain_parameters (port d p t ids) = []
plain_parameters (net n t wait nets) = []
plain_parameters (declaration d) = []
plain_parameters (event ids) = []
plain_parameters (genvar ids) = []
plain_parameters (parameter word t all) = word_names word all
plain_parameters (assign wait sets) = []
plain_parameters (gate g wait gates) = []
plain_parameters (instance m conns insts) = []
plain_parameters (process word s) = []
plain_parameters (task t) = []
plain_parameters (function f) = []

abbrev pub item_parameters : ItemTree → Names
item_parameters (item place (plain_item form)) = plain_parameters form
item_parameters (item place generate_word) = []
item_parameters (item place endgenerate_word) = []
item_parameters (item place (for_item start test step body)) = []
item_parameters (item place (if_item test holds fails)) = []

abbrev pub items_parameters : List ItemTree → Names
items_parameters [] = []
items_parameters (i ∷ is) = item_parameters i ++ items_parameters is

abbrev pub parameters_of : ModuleTree → Names
parameters_of m = map (λ p. p.id.name) m.pars ++ items_parameters m.items

-- Entries by order and by name aren't mixed; an empty one is one by order. (own)
abbrev pub is_ordered : ConnTree → Bool
is_ordered (ordered e) = true
is_ordered (by_name place id e) = false

abbrev pub is_by_name : ConnTree → Bool
is_by_name c = not (is_ordered c)

-- An entry by name is for a parameter of that name, which is named once.
abbrev pub has_name : Names → List ℕ → Bool
has_name names name = is_some (position_in names name)

abbrev pub named_fault : Names → Names → ConnTree → Option Fault
named_fault names before (ordered e) = None
named_fault names before (by_name place id e) =
    if has_name before id.name then Some (N7, place) else fault_if (not (has_name names id.name)) N1 id.place

abbrev pub with_named : ConnTree → Names → Names
with_named (ordered e) before = before
with_named (by_name place id e) before = before ++ id.name ∷ []

abbrev pub named_faults : Names → Names → List ConnTree → Option Fault → Option Fault
named_faults names before [] so_far = so_far
named_faults names before (c ∷ cs) so_far =
    named_faults names (with_named c before) cs (least so_far (named_fault names before c))

-- Entries by order are no more than the parameters. `place` is that of the item's module name.
abbrev pub entries_fault : Place → Names → List ConnTree → Option Fault
entries_fault place names conns =
    if list_any is_ordered conns then
    fault_if (list_any is_by_name conns || nat_lt (length names) (length conns)) N7 place
    else named_faults names [] conns None

-- What an entry gives its value to: by order the parameter of that place, from 0.
abbrev pub entry_name : Names → ℕ → ConnTree → Option (List ℕ)
entry_name names n (ordered e) = slice_get names n
entry_name names n (by_name place id e) = Some id.name

abbrev pub written : ConnTree → Option ExprTree
written (ordered e) = e
written (by_name place id e) = e

abbrev pub written_value : Scope → Option ExprTree → Outcome (Option Vector)
written_value sc None = Ok None
written_value sc (Some e) = constant sc 0 e

-- What is given so far, and the least fault so far: that of each expression counts. Nothing is given where none is written, or where a
-- parameter is needed that has no value.
pub record Overriding : Type 0 where
  pub given : Given
  pub fault : Option Fault

abbrev pub with_entry : Option (List ℕ) → Option Vector → Given → Given
with_entry None v g = g
with_entry (Some name) None g = g
with_entry (Some name) (Some v) g = g ++ (name, v) ∷ []

abbrev pub taken_by : Option (List ℕ) → Outcome (Option Vector) → Overriding → Overriding
taken_by name (Ok v) o = record o { given = with_entry name v o.given }
taken_by name (Err fault) o = record o { fault = least o.fault (Some fault) }

unfoldable pub entry_taken : Scope → Names → ℕ → ConnTree → Overriding → Overriding
entry_taken sc names n c o = taken_by (entry_name names n c) (written_value sc (written c)) o

abbrev pub entries_taken : Scope → Names → ℕ → List ConnTree → Overriding → Overriding
entries_taken sc names n [] o = o
entries_taken sc names n (c ∷ cs) o = entries_taken sc names (n + 1) cs (entry_taken sc names n c o)

abbrev pub given_or_fault : Overriding → Outcome Given
given_or_fault o = elim o.fault [
  | None ↦ Ok o.given
  | Some fault ↦ Err fault
]

unfoldable pub overrides : Scope → Place → ModuleTree → List ConnTree → Outcome Given
overrides sc place m conns =
    given_or_fault (entries_taken sc (parameters_of m) 0 conns
    (record { given = []; fault = entries_fault place (parameters_of m) conns }))

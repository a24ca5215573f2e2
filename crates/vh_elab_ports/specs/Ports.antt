-- The ports of a module: their places in the header, and what declares each.
-- (IEEE 1364-2005, 12.3)
use Rattle.std.specs.Prelude.{ℕ, suc, List, [], ◌∷◌, ◌++◌, Bool, true, false, not, if◌then◌else◌, ◌==◌, map, Option, Some, None, is_some, unwrap_or}
use Rattle.std.specs.Option.{option_map}
use Rattle.vh_base.specs.declared.faults.DesignFault.TheVariants.{N1, N2}
use Rattle.vh_ast.specs.declared.token.Id.{Id}
use Rattle.vh_ast.specs.declared.port.Direction.{Direction}
use Rattle.vh_ast.specs.declared.port.PortType.{PortType}
use Rattle.vh_ast.specs.Declarations.{DeclTree, NetTree, PdeclTree, PortTree, PortsTree, TypeTree, VarPartTree, VarTree, declared_port, port_name, plain_ports, declared_ports, reg, integer, time, plain, memory, valued}
use Rattle.vh_ast.specs.Items.{ItemTree, ModuleTree, PlainTree, item, plain_item, generate_word, endgenerate_word, for_item, if_item, port, net, declaration, event, genvar, parameter, assign, gate, instance, process, task, function}
use Rattle.vh_elab_index.specs.First.{first_named, position_in}
use Rattle.vh_bind_least.specs.Least.{Fault, least, least_of, fault_if}

-- A direction that is given to a port. (12.3.3)
pub record Directed : Type 0 where
  pub id : Id
  pub direction : Direction
  pub port_type : Option PortType
  pub data_type : TypeTree

abbrev pub direction_of : PdeclTree → Id → Directed
direction_of p id =
    record {
      id = id;
      direction = p.direction;
      port_type = p.port_type;
      data_type = p.data_type;
    }

-- A name in the header, and the declaration that it goes by: a name alone goes the way of the port
-- before it. (12.3.4)
abbrev pub port_id : PortTree → Id
port_id (declared_port p) = p.id
port_id (port_name id) = id

abbrev pub pdecl_of : PdeclTree → PortTree → PdeclTree
pdecl_of before (declared_port p) = p
pdecl_of before (port_name id) = before

-- Those in the header. (12.3.3)
abbrev pub directed_more : PdeclTree → List PortTree → List Directed
directed_more before [] = []
directed_more before (p ∷ more) =
    direction_of (pdecl_of before p) (port_id p) ∷ directed_more (pdecl_of before p) more

abbrev pub header_directed : Option PortsTree → List Directed
header_directed None = []
header_directed (Some (plain_ports ids)) = []
header_directed (Some (declared_ports p more)) = direction_of p p.id ∷ directed_more p more

-- Those of the module's own items.
abbrev pub named_directed : Direction → Option PortType → TypeTree → Id → Directed
named_directed d p t id = record { id = id; direction = d; port_type = p; data_type = t }

abbrev pub plain_directed : PlainTree → List Directed
plain_directed (port d p t ids) = map (named_directed d p t) ids
plain_directed (net n t wait nets) = []
plain_directed (declaration d) = []
plain_directed (event ids) = []
plain_directed (genvar ids) = []
plain_directed (parameter word t all) = []
plain_directed (assign wait sets) = []
plain_directed (gate g wait gates) = []
plain_directed (instance m conns insts) = []
plain_directed (process word s) = []
plain_directed (task t) = []
plain_directed (function f) = []

-- What is gathered of the plain items among a module's own, in their order.
abbrev pub item_gathered : {A : Type 0} → (PlainTree → List A) → ItemTree → List A
item_gathered of_plain (item place (plain_item form)) = of_plain form
item_gathered of_plain (item place generate_word) = []
item_gathered of_plain (item place endgenerate_word) = []
item_gathered of_plain (item place (for_item start test step body)) = []
item_gathered of_plain (item place (if_item test holds fails)) = []

abbrev pub items_gathered : {A : Type 0} → (PlainTree → List A) → List ItemTree → List A
items_gathered of_plain [] = []
items_gathered of_plain (i ∷ is) = item_gathered of_plain i ++ items_gathered of_plain is

abbrev pub directed_in : ModuleTree → List Directed
directed_in m = header_directed m.ports ++ items_gathered plain_directed m.items

-- The names of the header, in order. (12.3.2)
abbrev pub written_ids : PortsTree → List Id
written_ids (plain_ports ids) = ids
written_ids (declared_ports p more) = p.id ∷ map port_id more

abbrev pub header_ids : Option PortsTree → List Id
header_ids None = []
header_ids (Some ports) = written_ids ports

abbrev pub names_of : List Id → List (List ℕ)
names_of ids = map (λ id. id.name) ids

-- The place of a name in the header, from 0.
abbrev pub port_index : ModuleTree → List ℕ → Option ℕ
port_index m name = position_in (names_of (header_ids m.ports)) name

abbrev pub directed_name : Directed → List ℕ
directed_name d = d.id.name

-- What a name is as a port: its first direction.
abbrev pub port_at : ModuleTree → List ℕ → Option Directed
port_at m name = first_named directed_name (directed_in m) name

-- A name of the header without a direction, a direction of what isn't in the header (N1); a name
-- that is twice in the header, a second direction (N2): at the name. (12.3.3)
abbrev pub is_first : List (List ℕ) → ℕ → List ℕ → Bool
is_first names n name = unwrap_or (option_map (λ k. k == n) (position_in names name)) false

abbrev pub again_from : List (List ℕ) → ℕ → List Id → Option Fault → Option Fault
again_from names n [] so_far = so_far
again_from names n (id ∷ ids) so_far =
    again_from names (suc n) ids
    (least so_far (fault_if (not (is_first names n id.name)) N2 id.place))

abbrev pub again_fault : List Id → Option Fault → Option Fault
again_fault ids so_far = again_from (names_of ids) 0 ids so_far

abbrev pub lacks_direction : ModuleTree → Id → Option Fault
lacks_direction m id = fault_if (not (is_some (port_at m id.name))) N1 id.place

abbrev pub is_not_among : List (List ℕ) → Id → Option Fault
is_not_among names id = fault_if (not (is_some (position_in names id.name))) N1 id.place

abbrev pub is_no_port : ModuleTree → Directed → Option Fault
is_no_port m d = is_not_among (names_of (header_ids m.ports)) d.id

abbrev pub ports_fault : ModuleTree → Option Fault
ports_fault m =
    again_fault (map (λ d. d.id) (directed_in m))
    (again_fault (header_ids m.ports)
    (least_of (is_no_port m) (directed_in m)
    (least_of (lacks_direction m) (header_ids m.ports) None)))

-- A port whose direction doesn't say what it is, and a declaration of its name as a register or
-- net, make one thing: the type of the first such declaration among the module's own items.
-- (12.3.3)
abbrev pub is_register : VarPartTree → Bool
is_register plain = true
is_register (memory r) = false
is_register (valued e) = true

pub record Typed : Type 0 where
  pub name : List ℕ
  pub data_type : TypeTree

abbrev pub var_typed : TypeTree → VarTree → List Typed
var_typed t v = if is_register v.part then record { name = v.id.name; data_type = t } ∷ [] else []

abbrev pub vars_typed : TypeTree → List VarTree → List Typed
vars_typed t [] = []
vars_typed t (v ∷ vars) = var_typed t v ++ vars_typed t vars

abbrev pub net_typed : TypeTree → NetTree → Typed
net_typed t n = record { name = n.id.name; data_type = t }

abbrev pub decl_typed : DeclTree → List Typed
decl_typed (reg place t vars) = vars_typed t vars
decl_typed (integer place inits) = []
decl_typed (time place inits) = []

abbrev pub plain_typed : PlainTree → List Typed
plain_typed (port d p t ids) = []
plain_typed (net n t wait nets) = map (net_typed t) nets
plain_typed (declaration d) = decl_typed d
plain_typed (event ids) = []
plain_typed (genvar ids) = []
plain_typed (parameter word t all) = []
plain_typed (assign wait sets) = []
plain_typed (gate g wait gates) = []
plain_typed (instance m conns insts) = []
plain_typed (process word s) = []
plain_typed (task t) = []
plain_typed (function f) = []

abbrev pub items_typed : List ItemTree → List Typed
items_typed is = items_gathered plain_typed is

abbrev pub typed_name : Typed → List ℕ
typed_name t = t.name

abbrev pub declared_type : ModuleTree → List ℕ → Option TypeTree
declared_type m name =
    option_map (λ t. t.data_type) (first_named typed_name (items_typed m.items) name)

-- The type that a port gives to the declaration of its name: none where its direction says what it
-- is.
abbrev pub type_of_open : Option Directed → Option TypeTree
type_of_open None = None
type_of_open (Some d) = if is_some d.port_type then None else Some d.data_type

abbrev pub open_type : ModuleTree → List ℕ → Option TypeTree
open_type m name = type_of_open (port_at m name)

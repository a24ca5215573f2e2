-- The connected ports of an instance, in the order of the header: an input drives the inner net, an output the outer ones.
-- (IEEE 1364-2005, 12.3.5, 12.3.6 and 12.3.9)
use Rattle.std.specs.Prelude.{ℕ, ◌+◌, true, not, List, [], ◌∷◌, length, map, ◌||◌, if◌then◌else◌, ◌==◌, Option, Some, None, is_some, slice_get}
use Rattle.std.specs.List.{list_any}
use Rattle.std.specs.Option.{option_and_then}
use Rattle.vh_base.specs.declared.faults.DesignFault.TheVariants.{N1, N5, N7}
use Rattle.vh_base.specs.declared.place.Place.{Place}
use Rattle.vh_ast.specs.declared.token.Id.{Id}
use Rattle.vh_ast.specs.declared.port.Direction.{Direction}
use Rattle.vh_ast.specs.declared.port.Direction.TheVariants as goes
use Rattle.vh_ast.specs.Expressions.{ExprTree, place_of}
use Rattle.vh_ast.specs.Items.{ConnTree, ordered, by_name, InstTree, ModuleTree}
use Rattle.vh_design_nodes.specs.Kinds.{is_net, is_vector}
use Rattle.vh_design_nodes.specs.Fits.{has_kind}
use Rattle.vh_bind_scope.specs.Names.{meaning_in}
use Rattle.vh_bind_scope.specs.LookUp.{object_meant}
use Rattle.vh_bind.specs.Scopes.{here}
use Rattle.vh_bind_stmt.specs.Calls.{Surroundings}
use Rattle.vh_elab_index.specs.First.{first_named}
use Rattle.vh_bind_least.specs.Least.{Fault, least, fault_if}
use Rattle.vh_elab_ports.specs.Ports.{Directed, header_ids, is_first, port_at, port_index}
use Rattle.vh_elab_walk.specs.Overrides.{is_by_name, is_ordered}
use Rattle.vh_elab_drives.specs.Nets.{output_drivers}
use Rattle.vh_elab_drives.specs.Gates.{port_code}
use Rattle.vh_elab.specs.Coded.{Coding, Ready, drive_coded, looked_by, tried, whole_driver, with_code, with_drivers, with_fault}

-- What is connected to a port: an expression, and where the entry begins.
pub record Outer : Type 0 where
  pub place : Place
  pub expr : ExprTree

abbrev pub outer_at : Place → Option ExprTree → Option Outer
outer_at place None = None
outer_at place (Some e) = Some (record { place = place; expr = e })

abbrev pub outer_of : ConnTree → Option Outer
outer_of (ordered None) = None
outer_of (ordered (Some e)) = Some (record { place = place_of e; expr = e })
outer_of (by_name place id e) = outer_at place e

-- The name of an entry: one by order has none.
abbrev pub entry_name : ConnTree → List ℕ
entry_name (ordered e) = []
entry_name (by_name place id e) = id.name

abbrev pub names_of : List ConnTree → List (List ℕ)
names_of conns = map entry_name conns

-- By order, the entry of the port's place; by name, the first of that name.
abbrev pub entry_for : List ConnTree → ℕ → List ℕ → Option ConnTree
entry_for conns n name =
    if list_any is_ordered conns then slice_get conns n else first_named entry_name conns name

abbrev pub outer_for : List ConnTree → ℕ → List ℕ → Option Outer
outer_for conns n name = option_and_then outer_of (entry_for conns n name)

-- The faults of the list itself: it is mixed, or has another number of entries by order than the module has ports, at the instance's
-- name; a name that is no port, at the name; a port that is named twice, at the second entry.
abbrev pub entry_fault : ModuleTree → List (List ℕ) → ℕ → ConnTree → Option Fault
entry_fault m names n (ordered e) = None
entry_fault m names n (by_name place id e) =
    if is_first names n id.name then fault_if (not (is_some (port_index m id.name))) N1 id.place else Some (N7, place)

abbrev pub entries_fault : ModuleTree → List (List ℕ) → ℕ → List ConnTree → Option Fault → Option Fault
entries_fault m names n [] so_far = so_far
entries_fault m names n (c ∷ conns) so_far =
    entries_fault m names (n + 1) conns (least so_far (entry_fault m names n c))

abbrev pub list_fault : ModuleTree → Place → List ConnTree → Option Fault
list_fault m place conns =
    if list_any is_ordered conns then
    fault_if (list_any is_by_name conns || not (length conns == length (header_ids m.ports))) N7 place
    else entries_fault m (names_of conns) 0 conns None

-- The object of a name in a scope.
abbrev pub object_at : Ready → ℕ → List ℕ → Option ℕ
object_at r scope name = option_and_then object_meant (meaning_in r.names scope name)

-- An input: its inner net takes the expression, a variable doesn't (N5).
abbrev pub input_coded : Ready → Surroundings → Outer → ℕ → Coding → Coding
input_coded r w o inner c =
    if has_kind is_net r.objects inner then
    drive_coded r w None o.expr (with_drivers (Some (whole_driver r.objects inner), c))
    else with_fault (N5, o.place) c

-- An output: the expression is a target, that takes the inner net or variable.
abbrev pub output_driven : Ready → Surroundings → Outer → ℕ → List ℕ × Coding → Coding
output_driven r w o inner (drivers, c) = with_code (tried r (port_code w (place_of o.expr) drivers inner) c)

abbrev pub output_coded : Ready → Surroundings → Outer → ℕ → Coding → Coding
output_coded r w o inner c =
    if has_kind is_vector r.objects inner then
    output_driven r w o inner (with_drivers (looked_by c (output_drivers (here w.scope c.added.exprs) o.expr)))
    else record c { passed = true }

abbrev pub direction_coded : Ready → Surroundings → Outer → ℕ → Direction → Coding → Coding
direction_coded r w o inner goes.Input c = input_coded r w o inner c
direction_coded r w o inner goes.Output c = output_coded r w o inner c

-- A port that isn't connected makes nothing.
abbrev pub inner_coded : Ready → Surroundings → Option Outer → Option ℕ → Option Directed → Coding → Coding
inner_coded r w None inner d c = c
inner_coded r w (Some o) None d c = c
inner_coded r w (Some o) (Some inner) None c = c
inner_coded r w (Some o) (Some inner) (Some d) c = direction_coded r w o inner d.direction c

abbrev pub port_coded : Ready → Surroundings → ModuleTree → ℕ → List ConnTree → ℕ → Id → Coding → Coding
port_coded r w m instance conns n id c =
    inner_coded r w (outer_for conns n id.name) (object_at r instance id.name) (port_at m id.name) c

abbrev pub ports_coded : Ready → Surroundings → ModuleTree → ℕ → List ConnTree → ℕ → List Id → Coding → Coding
ports_coded r w m instance conns n [] c = c
ports_coded r w m instance conns n (id ∷ ids) c =
    ports_coded r w m instance conns (n + 1) ids (port_coded r w m instance conns n id c)

abbrev pub with_list_fault : Option Fault → Coding → Coding
with_list_fault fault c = record c { fault = least c.fault fault }

-- All of an instance of this module, which is this object: where the list has another number of entries, or is mixed, they aren't
-- looked at; what is given to a name that is no port isn't either.
abbrev pub connected : Ready → Surroundings → ModuleTree → ℕ → InstTree → Coding → Coding
connected r w m instance i c =
    ports_coded r w m instance i.conns 0 (header_ids m.ports) (with_list_fault (list_fault m i.id.place i.conns) c)

-- How contracts see what the code holds.
use Rattle.std.specs.Prelude.{List, map, Option}
use Rattle.std.specs.Borrow.{Bor}
use Rattle.std.specs.Option.{option_map}
use Rattle.vh_ast.specs.declared.data_type.DataType.{DataType}
use Rattle.vh_ast.specs.declared.token.Id.{Id}
use Rattle.vh_ast.specs.Declarations.{TypeTree}
use Rattle.vh_ast.specs.Views.{type_tree}
use Rattle.vh_elab_ports.specs.declared.directed.Directed as directed
use Rattle.vh_elab_ports.specs.declared.typed.Typed as typed_at
use Rattle.vh_elab_ports.specs.Ports.{Directed, Typed}

-- A type that may not be written.
abbrev pub data_type_seen : Option (Bor DataType) → Option TypeTree
data_type_seen t = option_map (λ d. type_tree d.now) t

-- Names.
abbrev pub ids_seen : List (Bor Id) → List Id
ids_seen ids = map (λ b. b.now) ids

-- A direction that is given to a port.
abbrev pub directed_seen : directed.Directed → Directed
directed_seen d =
    record {
      id = d.id.now;
      direction = d.direction;
      port_type = d.port_type;
      data_type = type_tree d.data_type.now;
    }

-- A register or net with its type.
abbrev pub typed_seen : typed_at.Typed → Typed
typed_seen t = record { name = t.name.now; data_type = type_tree t.data_type.now }

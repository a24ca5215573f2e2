-- What the ports of a module hold of it: lists, and the names of each.
use Rattle.std.specs.Prelude.{◌≡◌, ℕ, List, map}
use Rattle.vh_ast.specs.declared.token.Id.{Id}
use Rattle.vh_ast.specs.Items.{ModuleTree}
use Rattle.vh_elab_ports.specs.Ports.{Directed, Typed, directed_in, directed_name, header_ids, items_typed, names_of, typed_name}

abbrev pub NameList : Type 0
NameList = List (List ℕ)

-- The names of the header, with an index of them.
pub record IsHeader (m : ModuleTree) (ids : List Id) (names : NameList) : Type 0 where
  pub all : ids ≡ header_ids m.ports
  pub named : names ≡ names_of ids

-- The directions.
pub record AreDirections (m : ModuleTree) (all : List Directed) (names : NameList) : Type 0 where
  pub given : all ≡ directed_in m
  pub named : names ≡ map directed_name all
  pub identified : names ≡ names_of (map (λ d. d.id) all)

-- The registers and nets.
pub record AreTyped (m : ModuleTree) (all : List Typed) (names : NameList) : Type 0 where
  pub listed : all ≡ items_typed m.items
  pub named : names ≡ map typed_name all

-- How contracts see what the code holds.
use Rattle.std.specs.Prelude.{◌≡◌, ◌++◌, List, map, Vec, ℤ}
use Rattle.std.specs.Borrow.{Bor}
use Rattle.vh_ast.specs.declared.token.Id.{Id}
use Rattle.vh_elab_ports.specs.Views.{ids_seen}
use Rattle.vh_elab_sites.specs.declared.site.Listing.{Listing}
use Rattle.vh_elab_sites.specs.Views.{choice_seen, sites_seen}
use Rattle.vh_elab_instances.specs.declared.blocks.Left.{Left}
use Rattle.vh_elab_instances.specs.declared.blocks.Turn.{Turn}
use Rattle.vh_elab_instances.specs.Instances.{Making}

-- The genvar of a loop's block, with its value there.
abbrev pub turn_seen : Turn → Id × ℤ
turn_seen t = (t.id.now, t.value)

-- What is made, with what constructs come to that aren't reached yet.
abbrev pub making_seen : Left → Listing → Making
making_seen l so = record { sites = sites_seen so; left = map choice_seen l.all.now }

-- Names stand behind some others.
abbrev pub AddsIds : {A : Type 0} → List Id → Vec (Bor Id) A → Vec (Bor Id) A → Type 0
AddsIds all old new = ids_seen new.items ≡ ids_seen old.items ++ all

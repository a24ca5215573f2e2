use Rattle.std.proofs.Common.{◌≡◌, map, drop}
use Rattle.vh_ast.specs.Views.{lv_part_tree}
use Rattle.vh_bind.specs.Scopes.{here}
use Rattle.vh_bind.specs.Views.{scope_seen}
use Rattle.vh_elab_drives.specs.Nets.{pieces_drivers}
use Rattle.vh_elab_drives.proofs.targets.add_pieces.Given as goal

-- The drivers so far, with those that are left, are those of the row.
abbrev pub invariant-loop-piece : goal.invariant-loop-piece
invariant-loop-piece l =
    pieces_drivers (here (scope_seen l.scope) l.nodes) l.drivers.items (map lv_part_tree (drop l.piece-index l.pieces))
    ≡ pieces_drivers (here (scope_seen l.scope) l.nodes) l.initial.drivers.items (map lv_part_tree l.pieces)

use Rattle.std.proofs.Common.{◌≡◌, drop}
use Rattle.std.specs.Prelude.{map}
use Rattle.vh_ast.specs.Views.{lv_part_tree}
use Rattle.vh_elab_mentions.specs.Mentions.{each, piece_ids}
use Rattle.vh_elab_mentions.specs.Views.{ids_seen}
use Rattle.vh_elab_mentions.proofs.exprs.target_ids.Given as goal

-- The names so far, with those of what is left, are those of all.
abbrev pub invariant-loop-piece : goal.invariant-loop-piece
invariant-loop-piece l =
    each piece_ids (map lv_part_tree (drop l.piece-index l.piece-items)) (ids_seen l.ids.items)
    ≡ each piece_ids (map lv_part_tree l.piece-items) (ids_seen l.initial.ids.items)

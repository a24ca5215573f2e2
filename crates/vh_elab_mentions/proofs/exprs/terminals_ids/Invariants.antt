use Rattle.std.proofs.Common.{◌≡◌, drop}
use Rattle.std.specs.Prelude.{map}
use Rattle.vh_ast.specs.Views.{expr_tree}
use Rattle.vh_elab_mentions.specs.Mentions.{each, expr_ids}
use Rattle.vh_elab_mentions.specs.Views.{ids_seen}
use Rattle.vh_elab_mentions.proofs.exprs.terminals_ids.Given as goal

-- The names so far, with those of what is left, are those of all.
abbrev pub invariant-loop-terminal : goal.invariant-loop-terminal
invariant-loop-terminal l =
    each expr_ids (map expr_tree (drop l.terminal-index l.terminals)) (ids_seen l.ids.items)
    ≡ each expr_ids (map expr_tree l.terminals) (ids_seen l.initial.ids.items)

use Rattle.std.proofs.Common.{◌≡◌, ◌+◌, ◌*◌, drop}
use Rattle.std.specs.Prelude.{map}
use Rattle.vh_ast.specs.Expressions.{exprs, links, steps}
use Rattle.vh_ast.specs.Views.{expr_tree, link_tree, step_by}
use Rattle.vh_elab_mentions.specs.Mentions.{exprs_ids, links_ids, steps_ids}
use Rattle.vh_elab_mentions.specs.Views.{ids_seen}
use Rattle.vh_elab_mentions.proofs.exprs.+exprs.Given as goal

-- What a function hands on is smaller, or as deep and handed to one further down.
abbrev pub decreases-expr_ids : goal.decreases-expr_ids
decreases-expr_ids l = 4 * goal.size-expr_ids l

abbrev pub decreases-name_ids : goal.decreases-name_ids
decreases-name_ids l = 4 * goal.size-name_ids l + 3

abbrev pub decreases-called_ids : goal.decreases-called_ids
decreases-called_ids l = 4 * goal.size-called_ids l + 3

abbrev pub decreases-steps_ids : goal.decreases-steps_ids
decreases-steps_ids l = 4 * goal.size-steps_ids l + 2

abbrev pub decreases-sel_ids : goal.decreases-sel_ids
decreases-sel_ids l = 4 * goal.size-sel_ids l + 2

abbrev pub decreases-index_ids : goal.decreases-index_ids
decreases-index_ids l = 4 * goal.size-index_ids l + 1

abbrev pub decreases-part_ids : goal.decreases-part_ids
decreases-part_ids l = 4 * goal.size-part_ids l + 1

abbrev pub decreases-all_ids : goal.decreases-all_ids
decreases-all_ids l = 4 * goal.size-all_ids l + 1

abbrev pub decreases-links_ids : goal.decreases-links_ids
decreases-links_ids l = 4 * goal.size-links_ids l + 1

-- The names so far, with those of what is left, are those of all.
abbrev pub invariant-all_ids-loop-e : goal.invariant-all_ids-loop-e
invariant-all_ids-loop-e l =
    exprs_ids (exprs (map expr_tree (drop l.e-index l.es))) (ids_seen l.ids.items)
    ≡ exprs_ids (exprs (map expr_tree l.es)) (ids_seen l.initial.ids.items)

abbrev pub invariant-links_ids-loop-link : goal.invariant-links_ids-loop-link
invariant-links_ids-loop-link l =
    links_ids (links (map link_tree (drop l.link-index l.links))) (ids_seen l.ids.items)
    ≡ links_ids (links (map link_tree l.links)) (ids_seen l.initial.ids.items)

abbrev pub invariant-steps_ids-loop-step : goal.invariant-steps_ids-loop-step
invariant-steps_ids-loop-step l =
    steps_ids (steps (map (step_by expr_tree) (drop l.step-index l.steps))) (ids_seen l.ids.items)
    ≡ steps_ids (steps (map (step_by expr_tree) l.steps)) (ids_seen l.initial.ids.items)

use Rattle.std.proofs.Common.{◌≡◌, ◌+◌, ◌*◌, ◌-◌, map, drop}
use Rattle.vh_ast.specs.Items.{items}
use Rattle.vh_ast.specs.Views.{gblock_tree, item_tree}
use Rattle.vh_elab_instances.specs.Instances.{items_made, turn_made, turns_made}
use Rattle.vh_elab_sites.specs.Views.{block_text_seen, around_seen}
use Rattle.vh_elab_instances.specs.Views.{making_seen}
use Rattle.vh_elab_instances.specs.declared.blocks.TheConstants.{MOST_TURNS}
use Rattle.vh_elab_instances.proofs.blocks.+blocks.Given as goal

-- The turns that are left, of what is made so far, are all of them.
abbrev pub invariant-add_turns-loop-turn : goal.invariant-add_turns-loop-turn
invariant-add_turns-loop-turn l =
    turns_made (MOST_TURNS - l._turn)
    (turn_made (around_seen l.around_it) l.id (gblock_tree l.block) (block_text_seen l.word))
    (making_seen l.left l.sites)
    ≡ turns_made MOST_TURNS
    (turn_made (around_seen l.around_it) l.id (gblock_tree l.block) (block_text_seen l.word))
    (making_seen l.initial.left l.initial.sites)

-- Those so far, with those that are left, are all of them.
abbrev pub invariant-add_all-loop-item : goal.invariant-add_all-loop-item
invariant-add_all-loop-item l =
    items_made (around_seen l.around_it) (items (map item_tree (drop l.item-index l.items)))
    (making_seen l.left l.sites)
    ≡ items_made (around_seen l.around_it) (items (map item_tree l.items))
    (making_seen l.initial.left l.initial.sites)

-- What a function hands on is smaller, or as deep and handed to one further down.
abbrev pub decreases-add_all : goal.decreases-add_all
decreases-add_all l = 8 * goal.size-add_all l + 2

abbrev pub decreases-add_inside : goal.decreases-add_inside
decreases-add_inside l = 8 * goal.size-add_inside l + 3

abbrev pub decreases-add_branch : goal.decreases-add_branch
decreases-add_branch l = 8 * goal.size-add_branch l + 4

abbrev pub decreases-add_other : goal.decreases-add_other
decreases-add_other l = 8 * goal.size-add_other l + 5

abbrev pub decreases-add_block : goal.decreases-add_block
decreases-add_block l = 8 * goal.size-add_block l + 4

abbrev pub decreases-add_turn : goal.decreases-add_turn
decreases-add_turn l = 8 * goal.size-add_turn l + 5

abbrev pub decreases-add_turns : goal.decreases-add_turns
decreases-add_turns l = 8 * goal.size-add_turns l + 6

abbrev pub decreases-add_loop : goal.decreases-add_loop
decreases-add_loop l = 8 * goal.size-add_loop l + 7

abbrev pub decreases-add_one : goal.decreases-add_one
decreases-add_one l = 8 * goal.size-add_one l + 0

abbrev pub decreases-add_next : goal.decreases-add_next
decreases-add_next l = 8 * goal.size-add_next l + 1

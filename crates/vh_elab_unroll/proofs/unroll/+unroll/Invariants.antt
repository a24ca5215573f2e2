use Rattle.std.proofs.Common.{◌≡◌, ◌+◌, ◌*◌, ◌-◌, [], map, drop}
use Rattle.vh_ast.specs.Items.{items}
use Rattle.vh_ast.specs.Views.{gblock_tree, item_tree}
use Rattle.vh_elab_sites.specs.Views.{block_text_seen}
use Rattle.vh_elab_unroll.specs.Constructs.{items_unrolled, lone_unrolled, turn_unrolled, turns}
use Rattle.vh_elab_unroll.specs.Views.{head_seen, home_of, tree_of, unrolling_seen}
use Rattle.vh_elab_unroll.specs.declared.unroll.TheConstants.{MOST_TURNS}
use Rattle.vh_elab_unroll.proofs.unroll.+unroll.Given as goal

-- The turns that are left, of what there is so far, are all of them.
abbrev pub invariant-unroll_turns-loop-turn : goal.invariant-unroll_turns-loop-turn
invariant-unroll_turns-loop-turn l =
    turns (MOST_TURNS - l._turn) (home_of l.instance) (head_seen l.looping l.id l.test l.step)
    (turn_unrolled (home_of l.instance) (tree_of l.instance) l.looping.scope (block_text_seen l.word) (gblock_tree l.body))
    l.seen.keys l.value (unrolling_seen l.state)
    ≡ turns MOST_TURNS (home_of l.instance) (head_seen l.looping l.id l.test l.step)
    (turn_unrolled (home_of l.instance) (tree_of l.instance) l.looping.scope (block_text_seen l.word) (gblock_tree l.body))
    [] l.initial.value (unrolling_seen l.initial.state)

-- Those so far, with those that are left, are all of them.
abbrev pub invariant-unroll_lone-loop-item : goal.invariant-unroll_lone-loop-item
invariant-unroll_lone-loop-item l =
    lone_unrolled (home_of l.instance) (tree_of l.instance) l.scope (block_text_seen l.counted)
    (items (map item_tree (drop l.item-index l.items))) (unrolling_seen l.state)
    ≡ lone_unrolled (home_of l.instance) (tree_of l.instance) l.scope (block_text_seen l.counted)
    (items (map item_tree l.items)) (unrolling_seen l.initial.state)

abbrev pub invariant-unroll_items-loop-item : goal.invariant-unroll_items-loop-item
invariant-unroll_items-loop-item l =
    items_unrolled (home_of l.instance) (tree_of l.instance) l.scope l.number
    (items (map item_tree (drop l.item-index l.items))) (unrolling_seen l.state)
    ≡ items_unrolled (home_of l.instance) (tree_of l.instance) l.scope l.initial.number
    (items (map item_tree l.items)) (unrolling_seen l.initial.state)

-- What a function hands on is smaller, or as deep and handed to one further down.
abbrev pub decreases-unroll_item : goal.decreases-unroll_item
decreases-unroll_item l = 16 * goal.size-unroll_item l + 0

abbrev pub decreases-unroll_next : goal.decreases-unroll_next
decreases-unroll_next l = 16 * goal.size-unroll_next l + 1

abbrev pub decreases-unroll_items : goal.decreases-unroll_items
decreases-unroll_items l = 16 * goal.size-unroll_items l + 2

abbrev pub decreases-unroll_inside : goal.decreases-unroll_inside
decreases-unroll_inside l = 16 * goal.size-unroll_inside l + 3

abbrev pub decreases-unroll_turn : goal.decreases-unroll_turn
decreases-unroll_turn l = 16 * goal.size-unroll_turn l + 4

abbrev pub decreases-hold_turn : goal.decreases-hold_turn
decreases-hold_turn l = 16 * goal.size-hold_turn l + 5

abbrev pub decreases-test_turn : goal.decreases-test_turn
decreases-test_turn l = 16 * goal.size-test_turn l + 6

abbrev pub decreases-next_turn : goal.decreases-next_turn
decreases-next_turn l = 16 * goal.size-next_turn l + 7

abbrev pub decreases-unroll_turns : goal.decreases-unroll_turns
decreases-unroll_turns l = 16 * goal.size-unroll_turns l + 8

abbrev pub decreases-begin_turns : goal.decreases-begin_turns
decreases-begin_turns l = 16 * goal.size-begin_turns l + 9

abbrev pub decreases-unroll_loop : goal.decreases-unroll_loop
decreases-unroll_loop l = 16 * goal.size-unroll_loop l + 11

abbrev pub decreases-unroll_for : goal.decreases-unroll_for
decreases-unroll_for l = 16 * goal.size-unroll_for l + 12

abbrev pub decreases-unroll_lone : goal.decreases-unroll_lone
decreases-unroll_lone l = 16 * goal.size-unroll_lone l + 1

abbrev pub decreases-unroll_branch : goal.decreases-unroll_branch
decreases-unroll_branch l = 16 * goal.size-unroll_branch l + 4

abbrev pub decreases-unroll_else : goal.decreases-unroll_else
decreases-unroll_else l = 16 * goal.size-unroll_else l + 5

abbrev pub decreases-unroll_made : goal.decreases-unroll_made
decreases-unroll_made l = 16 * goal.size-unroll_made l + 3

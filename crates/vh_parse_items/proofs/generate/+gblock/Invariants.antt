-- Depth falls first, and then what a block of items is made of. What a loop reads from its start on is
-- what it reads from here on.
use Rattle.std.proofs.Common.{◌≡◌, length, ◌+◌, ◌*◌}
use Rattle.vh_parse_expr.specs.Views.{read_from}
use Rattle.vh_parse_items.specs.Pieces.{all_items, within}
use Rattle.vh_parse_items.specs.Views.{region_tree}
use Rattle.vh_parse_items.proofs.generate.+gblock.Given as goal

abbrev pub decreases-inner_gblock : goal.decreases-inner_gblock
decreases-inner_gblock l = 16 * l.depth

abbrev pub decreases-for_item : goal.decreases-for_item
decreases-for_item l = 16 * l.depth + 1

abbrev pub decreases-other_gblock : goal.decreases-other_gblock
decreases-other_gblock l = 16 * l.depth + 1

abbrev pub decreases-if_item : goal.decreases-if_item
decreases-if_item l = 16 * l.depth + 2

abbrev pub decreases-last_items : goal.decreases-last_items
decreases-last_items l = 16 * l.depth + 3

abbrev pub decreases-item : goal.decreases-item
decreases-item l = 16 * l.depth + 4

abbrev pub decreases-next_item : goal.decreases-next_item
decreases-next_item l = 16 * l.depth + 5

abbrev pub decreases-outer_word : goal.decreases-outer_word
decreases-outer_word l = 16 * l.depth + 6

abbrev pub decreases-inner_word : goal.decreases-inner_word
decreases-inner_word l = 16 * l.depth + 6

abbrev pub decreases-region_word : goal.decreases-region_word
decreases-region_word l = 16 * l.depth + 7

abbrev pub decreases-region_turn : goal.decreases-region_turn
decreases-region_turn l = 16 * l.depth + 8

abbrev pub decreases-all_items : goal.decreases-all_items
decreases-all_items l = 16 * l.depth + 9

abbrev pub decreases-items : goal.decreases-items
decreases-items l = 16 * l.depth + 10

abbrev pub decreases-within_turn : goal.decreases-within_turn
decreases-within_turn l = 16 * l.depth + 9

abbrev pub decreases-within : goal.decreases-within
decreases-within l = 16 * l.depth + 10

abbrev pub decreases-region_rest : goal.decreases-region_rest
decreases-region_rest l = 16 * l.depth + 11

abbrev pub decreases-first_word : goal.decreases-first_word
decreases-first_word l = 16 * l.depth + 5

abbrev pub decreases-one_item_rest : goal.decreases-one_item_rest
decreases-one_item_rest l = 16 * l.depth + 12

abbrev pub decreases-one_item : goal.decreases-one_item
decreases-one_item l = 16 * l.depth + 13

abbrev pub decreases-item_block : goal.decreases-item_block
decreases-item_block l = 16 * l.depth + 11

abbrev pub decreases-gblock : goal.decreases-gblock
decreases-gblock l = 16 * l.depth + 14

abbrev pub invariant-all_items-items : goal.invariant-all_items-items
invariant-all_items-items l = read_from l.depth (all_items (region_tree l.initial.region)) l.initial.rest ≡ read_from l.depth (all_items (region_tree l.region)) l.rest

abbrev pub decreases-all_items-items : goal.decreases-all_items-items
decreases-all_items-items l = length l.rest.tokens.now

abbrev pub invariant-within-items : goal.invariant-within-items
invariant-within-items l = read_from l.depth (within (region_tree l.initial.region)) l.initial.rest ≡ read_from l.depth (within (region_tree l.region)) l.rest

abbrev pub decreases-within-items : goal.decreases-within-items
decreases-within-items l = length l.rest.tokens.now

-- Depth falls first, and then what a block is made of. What a loop has read stands in front of what is
-- left.
use Rattle.std.proofs.Common.{◌≡◌, length, ◌+◌, ◌*◌}
use Rattle.vh_parse_grammar.specs.Reading.{read}
use Rattle.vh_app_script.specs.Grammar.{grammar, more_commands}
use Rattle.vh_app_script.specs.Views.{terminals, env_seen, run_seen}
use Rattle.vh_app_script.proofs.block.+blocks.Given as goal

abbrev pub decreases-nested_block : goal.decreases-nested_block
decreases-nested_block l = 16 * l.levels + 1

abbrev pub decreases-inner_block : goal.decreases-inner_block
decreases-inner_block l = 16 * l.levels

abbrev pub decreases-any_block : goal.decreases-any_block
decreases-any_block l = 16 * l.levels + 10

abbrev pub decreases-more_commands : goal.decreases-more_commands
decreases-more_commands l = 16 * l.levels + 9

abbrev pub decreases-one_more : goal.decreases-one_more
decreases-one_more l = 16 * l.levels + 8

abbrev pub decreases-command : goal.decreases-command
decreases-command l = 16 * l.levels + 7

abbrev pub decreases-command_end : goal.decreases-command_end
decreases-command_end l = 16 * l.levels + 6

abbrev pub decreases-if_end : goal.decreases-if_end
decreases-if_end l = 16 * l.levels + 5

abbrev pub decreases-branches : goal.decreases-branches
decreases-branches l = 16 * l.levels + 4

abbrev pub decreases-otherwise : goal.decreases-otherwise
decreases-otherwise l = 16 * l.levels + 3

abbrev pub decreases-while_end : goal.decreases-while_end
decreases-while_end l = 16 * l.levels + 3

abbrev pub invariant-more_commands-commands : goal.invariant-more_commands-commands
invariant-more_commands-commands l =
    read grammar l.levels (more_commands (env_seen l.env) (run_seen l.initial.run)) (terminals l.initial.rest)
    ≡ read grammar l.levels (more_commands (env_seen l.env) (run_seen l.run)) (terminals l.rest)

abbrev pub decreases-more_commands-commands : goal.decreases-more_commands-commands
decreases-more_commands-commands l = length l.rest

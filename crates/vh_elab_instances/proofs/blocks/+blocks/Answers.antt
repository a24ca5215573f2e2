-- Each turn is the next one.
use Rattle.std.proofs.Common.{refl}
use Rattle.vh_elab_sites.specs.Views.{choice_seen}
use Rattle.vh_elab_instances.specs.Views.{making_seen}
use Rattle.vh_elab_instances.specs.declared.blocks.TheConstants.{MOST_TURNS}
use Rattle.vh_elab_instances.proofs.TurnsLemmas.{taken-left, turn-end, turn-last, turn-more}
use Rattle.vh_elab_instances.proofs.blocks.+blocks.Goals as goal

pub add_turns-loop-turn-preserved : goal.add_turns-loop-turn-preserved
add_turns-loop-turn-preserved t c =
    turn-more MOST_TURNS c.loop-turn._turn _
    (making_seen c.loop-turn.left c.loop-turn.sites)
    (making_seen c.take-choice.new.left c.loop-turn.sites)
    (making_seen c.add_turn.new.left c.add_turn.new.sites) _
    (choice_seen c.take-choice.result) c.in_ok-add_turn.field-0 c.loop-turn-test.true
    c.take-choice.ensures.first
    (taken-left _ (making_seen c.loop-turn.left c.loop-turn.sites) _ refl
    c.take-choice.ensures.others)
    c.in_ok-add_turn.ensures c.if-not-branch.false c.loop-turn.invariant

pub add_turns-returns-then-not-branch : goal.add_turns-returns-then-not-branch
add_turns-returns-then-not-branch t c =
    turn-last MOST_TURNS c.loop-turn._turn _
    (making_seen c.loop-turn.left c.loop-turn.sites)
    (making_seen c.take-choice.new.left c.loop-turn.sites)
    (making_seen c.add_turn.new.left c.add_turn.new.sites) _
    (choice_seen c.take-choice.result) c.in_ok-add_turn.field-0 c.loop-turn-test.true
    c.take-choice.ensures.first
    (taken-left _ (making_seen c.loop-turn.left c.loop-turn.sites) _ refl
    c.take-choice.ensures.others)
    c.in_ok-add_turn.ensures c.if-not-branch.true c.loop-turn.invariant

pub add_turns-returns : goal.add_turns-returns
add_turns-returns t c =
    turn-end MOST_TURNS c.loop-turn._turn _ _ _ c.loop-turn-test.false c.loop-turn.invariant

-- Each turn is the next one.
use Rattle.vh_elab_unroll.specs.declared.unroll.TheConstants.{MOST_TURNS}
use Rattle.vh_ast.specs.Views.{assigned_tree, expr_tree, gblock_tree}
use Rattle.vh_elab_sites.specs.Views.{block_text_seen}
use Rattle.vh_elab_unroll.specs.Views.{home_of, tree_of, unrolling_seen}
use Rattle.vh_elab_unroll.proofs.LoopsLemmas.{for-loop}
use Rattle.vh_elab_unroll.proofs.TurnsLemmas.{turn-end, turn-first, turn-last, turn-more}
use Rattle.vh_elab_unroll.proofs.unroll.+unroll.Goals as goal

pub unroll_turns-loop-turn-init : goal.unroll_turns-loop-turn-init
unroll_turns-loop-turn-init t c = turn-first MOST_TURNS _ _ _ c.new-seen.result.keys _ _ c.new-seen.ensures.empty

pub unroll_turns-returns-in_default : goal.unroll_turns-returns-in_default
unroll_turns-returns-in_default t c =
    turn-last MOST_TURNS c.loop-turn._turn _ _ _ c.loop-turn.seen.keys c.next_turn.new.seen.keys c.loop-turn.value
    (unrolling_seen c.loop-turn.state) (unrolling_seen c.next_turn.new.state) _ c.in_ok-next.next
    c.loop-turn-test.true c.in_ok-next.ensures c.in_default.is c.loop-turn.invariant

pub unroll_turns-loop-turn-preserved : goal.unroll_turns-loop-turn-preserved
unroll_turns-loop-turn-preserved t c =
    turn-more MOST_TURNS c.loop-turn._turn _ _ _ c.loop-turn.seen.keys c.next_turn.new.seen.keys c.loop-turn.value
    c.in-Some.next (unrolling_seen c.loop-turn.state) (unrolling_seen c.next_turn.new.state) _ c.in_ok-next.next
    c.loop-turn-test.true c.in_ok-next.ensures c.in-Some.is c.loop-turn.invariant

pub unroll_turns-returns : goal.unroll_turns-returns
unroll_turns-returns t c =
    turn-end MOST_TURNS c.loop-turn._turn _ _ _ c.loop-turn.seen.keys c.loop-turn.value
    (unrolling_seen c.loop-turn.state) _ c.loop-turn-test.false c.loop-turn.invariant

pub unroll_for-returns : goal.unroll_for-returns
unroll_for-returns t c =
    for-loop c.unroll_loop.result (home_of c.args.instance) (tree_of c.args.instance) c.args.scope c.args.head.place
    (block_text_seen c.args.counted) (block_text_seen c.block_word-word.result) (assigned_tree c.args.head.start.now)
    (assigned_tree c.args.head.step.now) (expr_tree c.args.head.test.now) (gblock_tree c.args.body.now)
    (unrolling_seen c.args.state.now) (unrolling_seen c.unroll_loop.new.state)
    c.block_word-word.ensures c.unroll_loop.ensures

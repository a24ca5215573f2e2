use Rattle.vh_queue.proofs.EndsLemmas.{later-none}
use Rattle.vh_queue.proofs.key.are_later.Goals as goal

pub returns-in-Some : goal.returns-in-Some
returns-in-Some c less r from below =
    later-none c.args.time r from below c.in-Some.least.now c.args.ranked.now less c.in-Some.ensures.all_from

use Rattle.vh_proc_assign.proofs.AssignedLemmas.{none-noted, one-noted}
use Rattle.vh_proc_assign.proofs.assigned.take_noted.Goals as goal

pub returns-in_default-clause-made : goal.returns-in_default-clause-made
returns-in_default-clause-made c =
    none-noted c.args.piece.now c.args.s.now c.take_piece.new.s c.args.made.now.items c.in_default.ensures.contents c.in_default.ensures.change

pub returns-clause-made : goal.returns-clause-made
returns-clause-made c =
    one-noted c.args.piece.now c.args.s.now c.take_piece.new.s c.args.made.now.items c.push.new.self.items c.in-Some.change
    c.in-Some.ensures.contents c.in-Some.ensures.change.0 c.in-Some.ensures.change.1 c.in_ok-push.ensures.items

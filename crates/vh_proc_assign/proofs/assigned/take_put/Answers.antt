use Rattle.vh_proc_assign.proofs.AssignedLemmas.{no-put-noted, put-noted}
use Rattle.vh_proc_assign.proofs.assigned.take_put.Goals as goal

pub returns-in_default-clause-made : goal.returns-in_default-clause-made
returns-in_default-clause-made c =
    no-put-noted c.args.o c.args.v.now c.args.s.now c.put.new.self c.args.made.now.items c.in_default.ensures.contents c.in_default.ensures.change

pub returns-clause-made : goal.returns-clause-made
returns-clause-made c =
    put-noted c.args.o c.args.v.now c.args.s.now c.put.new.self c.args.made.now.items c.push.new.self.items c.in-Some.told
    c.in-Some.ensures.contents c.in-Some.ensures.change.0 c.in-Some.ensures.change.1 c.in_ok-push.ensures.items

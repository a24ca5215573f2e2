use Rattle.vh_proc_assign.proofs.AssignedLemmas.{none-driven, one-driven}
use Rattle.vh_proc_assign.proofs.assigned.take_driver.Goals as goal

pub returns-in_default-clause-made : goal.returns-in_default-clause-made
returns-in_default-clause-made c =
    none-driven _ c.args.s.now c.drive.new.self _ c.args.made.now.items c.in_default.ensures.contents c.in_default.ensures.change

pub returns-clause-made : goal.returns-clause-made
returns-clause-made c =
    one-driven _ c.args.s.now c.drive.new.self _ c.args.made.now.items c.push.new.self.items c.in-Some.told
    c.in-Some.ensures.contents c.in-Some.ensures.change c.in_ok-push.ensures.items

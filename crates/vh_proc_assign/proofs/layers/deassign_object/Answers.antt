use Rattle.vh_proc_assign.proofs.AssignedLemmas.{change-told}
use Rattle.vh_proc_assign.proofs.layers.deassign_object.Goals as goal

pub returns-clause-made : goal.returns-clause-made
returns-clause-made c =
    change-told c.args.o c.args.s.now c.deassign-change.new.self _ c.deassign-change.result c.args.made.now.items c.note_change.new.made.items
    c.deassign-change.ensures.contents c.deassign-change.ensures.change c.in_ok-note_change.ensures

use Rattle.std.proofs.Common.{◌∙◌, ap}
use Rattle.vh_logic.specs.Vector.{Vector}
use Rattle.vh_store.specs.Contents.{procedural}
use Rattle.vh_proc_assign.proofs.AssignedLemmas.{change-told}
use Rattle.vh_proc_assign.proofs.layers.assign_object.Goals as goal

pub returns-clause-made : goal.returns-clause-made
returns-clause-made c =
    change-told c.args.o c.args.s.now c.assign-change.new.self _ c.assign-change.result c.args.made.now.items c.note_change.new.made.items
    (c.assign-change.ensures.contents ∙ ap (λ (v : Vector). procedural c.args.o v c.args.e c.args.s.now) c.value_for-v.ensures)
    c.assign-change.ensures.change c.in_ok-note_change.ensures

use Rattle.std.proofs.Common.{◌∙◌, Some, ap}
use Rattle.vh_logic.specs.Vector.{Vector}
use Rattle.vh_store.specs.Contents.{forced}
use Rattle.vh_proc_assign.proofs.AssignedLemmas.{layer-told}
use Rattle.vh_proc_assign.proofs.layers.force_object.Goals as goal

pub returns-clause-made : goal.returns-clause-made
returns-clause-made c =
    layer-told _ c.args.o c.args.s.now c.force-change.new.self _ c.force-change.result c.args.made.now.items c.note.new.made.items
    (c.force-change.ensures.contents ∙ ap (λ (v : Vector). forced c.args.o v (Some c.args.e) c.args.s.now) c.value_for-v.ensures)
    c.force-change.ensures.change c.in_ok-note.ensures

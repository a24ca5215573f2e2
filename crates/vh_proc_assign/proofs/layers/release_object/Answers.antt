use Rattle.std.proofs.Common.{◌∙◌, sym, refl}
use Rattle.vh_proc_assign.proofs.AssignedLemmas.{release-told}
use Rattle.vh_proc_assign.proofs.layers.release_object.Goals as goal

pub returns-clause-made : goal.returns-clause-made
returns-clause-made c =
    release-told c.args.o c.args.s.now c.release-change.new.self _ c.release-change.result c.args.made.now.items c.note.new.made.items
    (sym c.is_forced-is_forced.ensures ∙ c.if-not-is_forced.false) c.release-change.ensures.contents
    c.release-change.ensures.change c.in_ok-note.ensures refl

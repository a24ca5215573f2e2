use Rattle.std.proofs.Common.{◌∙◌, ◌<◌, length, Some, sym, ap}
use Rattle.vh_proc.proofs.SetsLemmas.{at-position, joins-set}
use Rattle.vh_proc.proofs.families.insert_at.Goals as goal

pub returns : goal.returns
returns c = λ _.
    let sets = c.args.sets.now.items in
    let low : c.args.k < length sets = c.in-Some.ensures.item.3.0 in
    joins-set sets c.args.k c.args.p c.in-Some.family.now c.insert.new.self (at-position sets c.args.k c.in-Some.family.now low ∙ ap Some (sym c.in-Some.ensures.value))
    c.in_ok-insert.ensures.updates.0

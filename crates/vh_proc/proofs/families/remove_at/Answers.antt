use Rattle.std.proofs.Common.{◌≡◌, ◌∙◌, ◌<◌, length, true, false, Some, is_some, sym, ap}
use Rattle.vh_proc.proofs.SetsLemmas.{at-position, none-at, leaves-set, leaves-none}
use Rattle.vh_proc.proofs.families.remove_at.Goals as goal

pub returns-in-Some : goal.returns-in-Some
returns-in-Some c =
    let sets = c.args.sets.now.items in
    let low : c.args.k < length sets = c.in-Some.ensures.item.3.0 in
    leaves-set sets c.args.k c.args.p c.in-Some.family.now c.remove.new.self (at-position sets c.args.k c.in-Some.family.now low ∙ ap Some (sym c.in-Some.ensures.value))
    c.remove.ensures.updates.0

pub returns-in_default : goal.returns-in_default
returns-in_default c =
    leaves-none c.args.sets.now.items c.args.k c.args.p (none-at c.args.sets.now.items c.args.k (λ low.
    let some : is_some c.get_mut.result ≡ true = c.get_mut.ensures.item.2 low in
    let none : is_some c.get_mut.result ≡ false = ap is_some c.in_default.is in
    absurd (cc)))

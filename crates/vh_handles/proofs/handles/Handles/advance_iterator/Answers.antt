use Rattle.std.proofs.Common.{◌≡◌, ◌∙◌, Some, subst, sym}
use Rattle.vh_handles.specs.Handles.{Numbered, handles_of, thing_at}
use Rattle.vh_handles.proofs.LawsLemmas.{kept-named}
use Rattle.vh_handles.proofs.handles.Handles.advance_iterator.Goals as goal

pub invariant_of-self : goal.invariant_of-self
invariant_of-self c =
    let P : Numbered → Type 0 = λ n. thing_at c.number.result (handles_of n) ≡ Some c.in-Some.thing in
    let was : P c.args.self.now = rw c.number.ensures (sym c.thing.ensures ∙ c.in-Some.is) in
    rw c.set.ensures
    (kept-named c.self.inside.live.entries c.self.inside.next c.number.result c.in-Some.thing c.in-Some-past_next.next
    c.self.invariant (subst P (sym c.self.view_is) was))

use Rattle.std.proofs.Common.{◌≡◌, false, subst, sym}
use Rattle.vh_handles.specs.Handles.{Numbered, handles_of, no_handle_more}
use Rattle.vh_handles.proofs.LawsLemmas.{kept-opened}
use Rattle.vh_handles.proofs.handles.Handles.open_handle.Goals as goal

pub invariant_of-self : goal.invariant_of-self
invariant_of-self c =
    let P : Numbered → Type 0 = λ n. no_handle_more (handles_of n) ≡ false in
    rw c.in-Ok.ensures.put
    (kept-opened c.self.inside.live.entries c.self.inside.next c.args.thing c.self.invariant
    (subst P (sym c.self.view_is) (sym c.if-is_full.ensures)))

use Rattle.std.proofs.Common.{sym, ap, subst}
use Rattle.std.specs.List.{AllByRecursion}
use Rattle.vh_proc_thread.specs.Control.{Control, HasBody}
use Rattle.vh_proc_thread.proofs.ControlLemmas.{bodies-back}
use Rattle.vh_proc_thread.proofs.thread.Thread.next.Goals as goal

pub label_from-requires-clause-bodies : goal.label_from-requires-clause-bodies
label_from-requires-clause-bodies c =
    subst (AllByRecursion (HasBody c.args.d.now)) (sym c.deref.ensures.value)
    (bodies-back c.args.d.now c.args.self.now c.self.inside.calls.items c.requires (ap (λ (q : Control). q.calls) c.self.view_is))

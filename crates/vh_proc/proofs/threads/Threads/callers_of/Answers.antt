use Rattle.std.proofs.Common.{sym, subst, rules}
use Rattle.vh_proc.specs.Families.{HasAll}
use Rattle.vh_proc.specs.Processes.{Processes, AllRun}
use Rattle.vh_proc.proofs.FamiliesLemmas.{callers-have-all}
use Rattle.vh_proc.proofs.threads.Threads.callers_of.Goals as goal

pub of_callers-requires : goal.of_callers-requires
of_callers-requires c = (c.self.invariant c.if-not-self.false).exact

pub returns : goal.returns
returns c =
    let f = c.in_ok-family.family in
    subst (λ (ps : Processes). HasAll c.args.d.now c.args.target f ps.all) c.self.view_is
    (callers-have-all c.args.d.now c.args.target c.self.inside.families c.self.inside.next c.in-Some-Routine.r f c.self.inside.all.entries
    (search rules) c.in_ok-family.ensures (subst (AllRun c.args.d.now) (sym c.self.view_is) c.requires) (c.self.invariant c.if-not-self.false))

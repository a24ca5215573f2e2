use Rattle.std.proofs.Common.{◌≡◌, ◌∙◌, ℕ, List, Some, slice_get, sym, ap, subst, rules}
use Rattle.std.specs.BTreeSet.{BTreeSet}
use Rattle.vh_proc.specs.Families.{HasAll}
use Rattle.vh_proc.specs.Processes.{Processes, AllRun}
use Rattle.vh_proc.proofs.FamiliesLemmas.{family-has-all}
use Rattle.vh_proc.proofs.SetsLemmas.{at-position}
use Rattle.vh_proc.proofs.threads.Threads.family_of.Goals as goal

pub returns : goal.returns
returns c =
    let k = c.in-Some-Process.root in
    let f = c.in-Some.family.now in
    let l = c.in-Some.ensures.lookup in
    let at : slice_get c.self.inside.families.sets.items k ≡ Some f =
    subst (λ (xs : List (BTreeSet ℕ)). slice_get xs k ≡ Some f) c.deref.ensures.value (at-position c.deref.result.now k f l.3.0 ∙ ap Some (sym l.1)) in
    subst (λ (ps : Processes). HasAll c.args.d.now c.args.target f ps.all) c.self.view_is
    (family-has-all c.args.d.now c.args.target c.self.inside.families c.self.inside.next k f c.self.inside.all.entries at
    (search rules) (subst (AllRun c.args.d.now) (sym c.self.view_is) c.requires) (c.self.invariant c.if-not-self.false))

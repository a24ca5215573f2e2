use Rattle.std.proofs.Common.{◌∙◌, ℕ, refl, sym, ap, subst}
use Rattle.std.specs.Prelude.{option_copied}
use Rattle.vh_design.specs.Shape.{Shape}
use Rattle.vh_proc_thread.specs.Control.{Control}
use Rattle.vh_proc.specs.Families.{IsParent, IsKept}
use Rattle.vh_proc.specs.Processes.{AllRun}
use Rattle.vh_proc.proofs.FamiliesLemmas.{kept-more, kept-found, begun-by, branch-notes}
use Rattle.vh_proc.proofs.RunsLemmas.{EachRuns, runs-found, runs-inserted}
use Rattle.vh_proc.proofs.threads.Threads.begin_branch.Goals as goal

pub returns-clause-runs : goal.returns-clause-runs
returns-clause-runs c =
    λ (d : Shape) runs.
    let before = subst (AllRun d) (sym c.self.view_is) runs in
    let parent = runs-found d _ c.self.inside.all.entries c.in-Some.parent.now before (sym c.get.ensures.value ∙ ap option_copied c.in-Some.is) in
    subst (EachRuns d) (sym c.in_ok-keep.ensures)
    (runs-inserted d c.self.inside.all.entries c.self.inside.next _ before (c.in_ok-branch.ensures.runs d parent))

pub invariant_of-self-2 : goal.invariant_of-self-2
invariant_of-self-2 c = λ kept.
    let parent = c.in-Some.parent.now in
    let fs = c.self.inside.families in
    let next = c.self.inside.next in
    let before = c.self.invariant (c.in_ok-are_kept.ensures.kept kept) in
    let there : IsKept fs next c.args.p parent =
    subst (λ (p : ℕ). IsKept fs next p parent) c.number.ensures
    (kept-found fs next _ c.self.inside.all.entries parent before.each (sym c.get.ensures.value ∙ ap option_copied c.in-Some.is)) in
    let from = sym (ap (λ (t : Control). t.root) c.in_ok-branch.ensures.branch) in
    kept-more fs _ next next parent.thread.root c.self.inside.all.entries _ _
    (c.in_ok-are_kept.ensures.joins kept parent.thread.root (before.exact parent.thread.root c.args.p there.own)) from refl c.in_ok-keep.ensures
    (subst (λ (k : ℕ). IsParent fs next k c.args.p) from (begun-by fs next c.args.p parent before.exact there))
    (branch-notes fs.callers.entries c.args.position parent.thread _ c.in_ok-branch.ensures.branch there.calls) before

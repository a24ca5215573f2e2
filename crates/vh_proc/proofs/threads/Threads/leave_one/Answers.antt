use Rattle.std.proofs.Common.{◌≡◌, ◌∙◌, sym, ap, subst, rules, ℕ}
use Rattle.std.specs.Option.{option_copied_mut}
use Rattle.vh_proc.specs.contracts.threads.Threads.{the_view}
use Rattle.vh_proc.specs.Disabled.{left_by}
use Rattle.vh_proc.specs.Processes.{AllRun, changed}
use Rattle.vh_proc.proofs.RunsLemmas.{runs-found, runs-changed, runs-disabled}
use Rattle.vh_proc.proofs.FamiliesLemmas.{kept-through}
use Rattle.vh_proc.proofs.CallsLemmas.{calls-disabled}
use Rattle.vh_proc.proofs.KinLemmas.{root-disabled}
use Rattle.vh_proc.proofs.threads.Threads.leave_one.Goals as goal

pub disable-requires : goal.disable-requires
disable-requires c =
    runs-found c.args.d.now _ c.self.inside.all.entries c.in-Some.process.now (subst (AllRun c.args.d.now) (sym c.self.view_is) c.requires)
    (sym c.get_mut.ensures.value ∙ ap option_copied_mut c.in-Some.is)

pub returns-clause-runs : goal.returns-clause-runs
returns-clause-runs c =
    let is : the_view c.match-get_mut.self-inside ≡ changed c.args.p (left_by c.args.d.now c.args.target) c.args.self.now = search rules in
    subst (AllRun c.args.d.now) (sym is)
    (runs-changed c.args.d.now c.args.p _ c.args.self.now c.requires (λ t own. runs-disabled c.args.d.now c.args.target t.thread own))

pub invariant_of-self : goal.invariant_of-self
invariant_of-self c =
    kept-through c.self.inside.families c.match-get_mut.self-inside.families c.self.inside.are_kept c.match-get_mut.self-inside.are_kept (the_view c.self.inside) c.args.self.now
    (the_view c.match-get_mut.self-inside) c.args.p (left_by c.args.d.now c.args.target) (search rules) (search rules) c.self.view_is (search rules) (λ t. ap (λ (k : ℕ). (t.parent, k)) (root-disabled c.args.d.now c.args.target t.thread))
    (λ t P all. calls-disabled P c.args.d.now c.args.target t.thread all) c.self.invariant

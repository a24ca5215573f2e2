use Rattle.std.proofs.Common.{◌≡◌, ◌∙◌, sym, ap, subst, rules, refl}
use Rattle.std.specs.Option.{option_copied_mut}
use Rattle.vh_proc.proofs.RunsLemmas.{runs-arrived}
use Rattle.vh_proc.specs.contracts.threads.Threads.{the_view}
use Rattle.vh_proc.specs.Processes.{AllRun, arrived_in}
use Rattle.vh_proc.proofs.RunsLemmas.{runs-found, runs-changed}
use Rattle.vh_proc.proofs.FamiliesLemmas.{kept-through}
use Rattle.vh_proc.proofs.CallsLemmas.{calls-arrived}
use Rattle.vh_proc_turn.specs.Own.{arriving}
use Rattle.vh_proc.proofs.threads.Threads.arrive.Goals as goal

pub arrive-requires : goal.arrive-requires
arrive-requires c =
    runs-found c.args.d.now _ c.self.inside.all.entries c.in-Some.process.now (subst (AllRun c.args.d.now) (sym c.self.view_is) c.requires)
    (sym c.get_mut.ensures.value ∙ ap option_copied_mut c.in-Some.is)

pub returns-clause-runs : goal.returns-clause-runs
returns-clause-runs c =
    let is : the_view c.match-get_mut.self-inside ≡ arrived_in c.args.d.now c.args.p c.args.self.now = search rules in
    subst (AllRun c.args.d.now) (sym is)
    (runs-changed c.args.d.now c.args.p _ c.args.self.now c.requires (λ t own. runs-arrived c.args.d.now t.thread own))

pub invariant_of-self : goal.invariant_of-self
invariant_of-self c =
    kept-through c.self.inside.families c.match-get_mut.self-inside.families c.self.inside.are_kept c.match-get_mut.self-inside.are_kept (the_view c.self.inside) c.args.self.now
    (the_view c.match-get_mut.self-inside) c.args.p (arriving c.args.d.now) (search rules) (search rules) c.self.view_is (search rules) (λ t. refl)
    (λ t P all. calls-arrived P c.args.d.now t.thread all) c.self.invariant

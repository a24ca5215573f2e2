use Rattle.std.proofs.Common.{◌≡◌, sym, subst, rules, refl}
use Rattle.vh_design.specs.Shape.{Shape}
use Rattle.vh_proc.proofs.RunsLemmas.{runs-on, runs-changed}
use Rattle.vh_proc.specs.contracts.threads.Threads.{the_view}
use Rattle.vh_proc.specs.Processes.{AllRun, gone_on}
use Rattle.vh_proc.proofs.FamiliesLemmas.{kept-through}
use Rattle.vh_proc_turn.specs.Own.{going}
use Rattle.vh_proc.proofs.threads.Threads.go_on.Goals as goal

pub returns-clause-runs : goal.returns-clause-runs
returns-clause-runs c = λ (d : Shape) runs.
    let is : the_view c.match-get_mut.self-inside ≡ gone_on c.args.p c.args.goes c.args.self.now = search rules in
    subst (AllRun d) (sym is) (runs-changed d c.args.p _ c.args.self.now runs (λ t own. runs-on d c.args.goes t.thread own))

pub invariant_of-self : goal.invariant_of-self
invariant_of-self c =
    kept-through c.self.inside.families c.match-get_mut.self-inside.families c.self.inside.are_kept c.match-get_mut.self-inside.are_kept (the_view c.self.inside) c.args.self.now
    (the_view c.match-get_mut.self-inside) c.args.p (going c.args.goes) (search rules) (search rules) c.self.view_is (search rules) (λ t. refl)
    (λ t P all. all) c.self.invariant

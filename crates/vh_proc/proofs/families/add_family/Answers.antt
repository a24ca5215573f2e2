use Rattle.std.proofs.Common.{◌≡◌, ◌∙◌, ◌||◌, ◌∷◌, ℕ, List, ap, rules}
use Rattle.std.specs.BTreeSet.{contains}
use Rattle.std.specs.Ordering.{nat_cmp}
use Rattle.vh_proc.proofs.CallersLemmas.{holds, next-in, no-more}
use Rattle.vh_proc.proofs.families.add_family.Goals as goal

pub loop-p-init : goal.loop-p-init
loop-p-init c =
    let is : c.into_iter-p-iterator.result ≡ c.args.family.now.keys = search rules in
    λ q. ap (λ (ks : List ℕ). contains nat_cmp c.args.all.now q || holds ks q) is

pub loop-p-preserved : goal.loop-p-preserved
loop-p-preserved c =
    let step : c.loop-p.p-iterator ≡ c.in-Some.p.now ∷ c.next.new.self = search rules in
    λ q. next-in c.in-Some.p.now c.next.new.self c.loop-p.p-iterator c.loop-p.all c.insert.new.self q step (c.in_ok-insert.ensures.updates.0 q) ∙ c.loop-p.invariant q

pub returns : goal.returns
returns c = λ q. no-more c.loop-p.p-iterator c.loop-p.all q c.in-None.ensures.steps.0 ∙ c.loop-p.invariant q

use Rattle.std.proofs.Common.{◌≡◌, ◌∷◌, false, rules}
use Rattle.std.specs.BTreeMap.{is_at}
use Rattle.std.specs.Map.{lookup}
use Rattle.std.specs.Ordering.{nat_cmp}
use Rattle.vh_proc.specs.Families.{is_in_call}
use Rattle.vh_proc.proofs.CallersLemmas.{but-all, but-less, but-none}
use Rattle.vh_proc.proofs.idle.is_any_in_call.Goals as goal

pub loop-p-init : goal.loop-p-init
loop-p-init c =
    let is : c.into_iter-p-iterator.result ≡ c.args.family.now.keys = search rules in
    but-all c.args.family.now c.into_iter-p-iterator.result _ is

pub loop-p-preserved : goal.loop-p-preserved
loop-p-preserved c =
    let step : c.loop-p.p-iterator ≡ c.in-Some.p.now ∷ c.next.new.self = search rules in
    let out : is_in_call c.args.d.now c.args.r (lookup (is_at (nat_cmp c.in-Some.p.now)) c.args.all.now.entries) ≡ false = search rules in
    but-less c.args.family.now c.in-Some.p.now c.next.new.self c.loop-p.p-iterator
    (λ q. is_in_call c.args.d.now c.args.r (lookup (is_at (nat_cmp q)) c.args.all.now.entries) ≡ false) step out c.loop-p.invariant

pub returns : goal.returns
returns c = λ _. but-none c.args.family.now c.loop-p.p-iterator
    (λ q. is_in_call c.args.d.now c.args.r (lookup (is_at (nat_cmp q)) c.args.all.now.entries) ≡ false) c.in-None.ensures.steps.0 c.loop-p.invariant

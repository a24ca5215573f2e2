use Rattle.std.proofs.Common.{◌≡◌, ◌∷◌, false, rules}
use Rattle.std.specs.BTreeSet.{contains}
use Rattle.std.specs.Ordering.{nat_cmp}
use Rattle.vh_proc.specs.Families.{IsIdle}
use Rattle.vh_proc.proofs.CallersLemmas.{but-all, but-less, but-none}
use Rattle.vh_proc.proofs.IdleLemmas.{still-out}
use Rattle.vh_proc.proofs.idle.active_of.Goals as goal

pub loop-k-init : goal.loop-k-init
loop-k-init c =
    let is : c.into_iter-k-iterator.result ≡ c.args.callers.now.keys = search rules in
    but-all c.args.callers.now c.into_iter-k-iterator.result _ is

pub loop-k-preserved : goal.loop-k-preserved
loop-k-preserved c =
    let step : c.loop-k.k-iterator ≡ c.in-Some.k.now ∷ c.next.new.self = search rules in
    but-less c.args.callers.now c.in-Some.k.now c.next.new.self c.loop-k.k-iterator
    (λ k. contains nat_cmp c.keep_active.new.still k ≡ false → IsIdle c.args.d.now c.args.r c.args.sets.now c.args.all.now.entries k) step
    c.in_ok-keep_active.ensures.idle
    (λ q in_it out gone. c.loop-k.invariant q in_it out (still-out c.loop-k.still c.keep_active.new.still q (c.in_ok-keep_active.ensures.kept q) gone))

pub returns : goal.returns
returns c = but-none c.args.callers.now c.loop-k.k-iterator
    (λ k. contains nat_cmp c.loop-k.still k ≡ false → IsIdle c.args.d.now c.args.r c.args.sets.now c.args.all.now.entries k) c.in-None.ensures.steps.0 c.loop-k.invariant
